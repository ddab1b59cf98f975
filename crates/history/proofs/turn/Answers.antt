-- Change by change.
use Rattle.std.proofs.Common.{rules, refl}
use mathlib.Core.Bool.{true, false}
use Rattle.tables.specs.Tables.{documents}
use Rattle.tables.specs.Rows.{setting_active}
use Rattle.stepping.proofs.Carry.{carries-then, revised_carries}
use Rattle.history.proofs.turn.Goals as goal

pub returns : goal.returns
returns c =
    let a = c.args in
    carries-then refl
    (revised_carries documents (c.revise.ensures.revised (setting_active a.w a.from false) (λ r s h. search rules)))
    (revised_carries documents (c.revise-2.ensures.revised (setting_active a.w a.to true) (λ r s h. search rules)))
