use Rattle.cookies.proofs.Filled.{Filing}
use Rattle.cookies.proofs.put_all.Given as goal

abbrev pub invariant-loop-i : goal.invariant-loop-i
invariant-loop-i l = Filing l.h l.few.count l.i-end l.few.rows l.fn.m l.m l.i
