-- The first bytes were put.
use Rattle.std.proofs.Common.{take}
use Rattle.csexp.specs.Puts.{Puts}
use Rattle.csexp.proofs.write.bytes.Given as goal

abbrev pub invariant-loop-b : goal.invariant-loop-b
invariant-loop-b l = Puts (take l.b-index l.w) l.initial.out l.at l.out l.p
