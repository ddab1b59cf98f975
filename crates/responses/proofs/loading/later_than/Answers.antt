-- Of all documents those are kept that are later in the window.
use Rattle.std.proofs.Common.{rules, ◌∙◌, ap, map}
use Rattle.std.specs.Prelude.{◌&&◌}
use Rattle.types.specs.declared.rows.Document.{Document}
use Rattle.tables.specs.Rows.{same_window}
use Rattle.documents.specs.Told.{number_of}
use Rattle.responses.proofs.Histories.{is_later, kept-later}
use Rattle.responses.proofs.loading.later_than.Goals as goal

pub returns : goal.returns
returns c =
    c.numbers.ensures.numbers (λ (e : Document). same_window e.window c.args.v && is_later c.args.current e) (λ r b h. search rules)
    ∙ ap (map number_of) (kept-later c.args.v _ c.args.current)
