use Rattle.layouts.proofs.Pairs.{Gathering}
use Rattle.layouts.proofs.jars.read.Given as goal

abbrev pub invariant-loop-i : goal.invariant-loop-i
invariant-loop-i l = Gathering l.c l.p l.n l.out.rows l.i
