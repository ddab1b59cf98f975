-- Of all documents those are counted that are up to the active one in the window: there are at most 64.
use Rattle.std.proofs.Common.{rules, arith, ◌≡◌, ◌∙◌, ap, suc, length, add-one}
use Rattle.std.specs.Prelude.{◌&&◌}
use Rattle.types.specs.declared.rows.Document.{Document}
use Rattle.tables.specs.Rows.{same_window}
use Rattle.memory.specs.Rows.{table}
use Rattle.layouts.specs.Tables.{documents_in}
use Rattle.wim.specs.Walks.{documents_of}
use Rattle.wim.specs.Response.{up_to}
use Rattle.responses.proofs.Histories.{is_up_to, kept-up-to, few-up-to}
use Rattle.responses.proofs.loading.place_behind.Goals as goal

counted : (c : goal.After-tally-up_to) → c.tally-up_to.result ≡ length (up_to c.args.current (documents_of (table documents_in c.args.m.now) c.args.v))
counted c =
    c.tally-up_to.ensures.counted (λ (e : Document). same_window e.window c.args.v && is_up_to c.args.current e) (λ r b h. search rules)
    ∙ ap length (kept-up-to c.args.v _ c.args.current)

pub overflow_cast-result : goal.overflow_cast-result
overflow_cast-result c = omega (arith, counted c, few-up-to c.args.current c.args.v c.args.m.now)

pub overflow_add-result : goal.overflow_add-result
overflow_add-result c = omega (arith, counted c, few-up-to c.args.current c.args.v c.args.m.now)

pub returns : goal.returns
returns c = add-one _ ∙ ap suc (counted c)
