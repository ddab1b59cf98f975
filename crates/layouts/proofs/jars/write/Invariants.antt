use Rattle.layouts.proofs.Pairs.{Filing}
use Rattle.layouts.proofs.jars.write.Given as goal

abbrev pub invariant-loop-i : goal.invariant-loop-i
invariant-loop-i l = Filing l.p l.n l.j.rows l.fn.c l.c l.i
