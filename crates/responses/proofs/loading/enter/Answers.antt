-- One change after the other.
use Rattle.std.proofs.Common.{rules, refl}
use Rattle.tables.specs.Tables.{documents}
use Rattle.stepping.proofs.Carry.{carries-then, put-carries, revised_carries}
use Rattle.responses.proofs.loading.enter.Goals as goal

pub returns : goal.returns
returns c = carries-then refl (carries-then refl c.remove.ensures (revised_carries documents (c.revise.ensures.revised _ (λ r s h. search rules)))) (put-carries documents c.put.ensures)
