-- The places before i are compared.
use Rattle.memory.specs.Rows.{total}
use Rattle.steps_taken.proofs.Changing.{Comparing}
use Rattle.steps_taken.proofs.comparing.changed.Given as goal

abbrev pub invariant-loop-i : goal.invariant-loop-i
invariant-loop-i l = Comparing l.before l.after total l.count l.i
