-- Both memories, one number of each at a time.
use Rattle.std.proofs.Common.{refl, arith}
use Rattle.steps_taken.proofs.Changing.{compare_start, compare_next, compare_end, differ_once}
use Rattle.steps_taken.proofs.comparing.changed.Goals as goal

pub loop-i-init : goal.loop-i-init
loop-i-init c = compare_start _ _ c.told-before c.told-after

pub overflow_add-count : goal.overflow_add-count
overflow_add-count c = let f = c.loop-i.invariant.few in let w = c.loop-i.invariant.within in let o = differ_once _ _ _ c.differ-count.ensures in omega arith

pub loop-i-preserved : goal.loop-i-preserved
loop-i-preserved c = compare_next c.loop-i.invariant _ _ _ (omega arith) refl refl c.differ-count.ensures

pub returns : goal.returns
returns c = compare_end c.loop-i.invariant (omega arith)
