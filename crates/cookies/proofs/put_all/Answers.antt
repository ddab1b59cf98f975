-- Row after row is put in, up to the first that finds no room.
use native.Mathlib.Omega.{arith}
use Rattle.sorted.proofs.Count.{mapped}
use Rattle.cookies.proofs.Filled.{file-start, file-next, file-stop, file-end}
use Rattle.cookies.proofs.put_all.Goals as goal

pub loop-i-init : goal.loop-i-init
loop-i-init c = file-start (search mapped) c.min-i-end.ensures

pub returns-then-not-put : goal.returns-then-not-put
returns-then-not-put c = file-stop _ c.loop-i.invariant c.put.ensures c.loop-i-test.true c.if-not-put.true

pub loop-i-preserved : goal.loop-i-preserved
loop-i-preserved c = file-next _ c.loop-i.invariant c.put.ensures c.loop-i-test.true c.if-not-put.false

pub returns : goal.returns
returns c = file-end c.loop-i.invariant (omega arith)
