-- The number has room for one bit more, and the row's bit comes in at its end.
use Rattle.std.proofs.Common.{arith}
use Rattle.navigable.proofs.Masking.{mask_row, mask_room, from_bool_le}
use Rattle.navigable.proofs.mask.Goals as goal

pub overflow_mul-bits : goal.overflow_mul-bits
overflow_mul-bits c = omega (arith, mask_room c.loop-i.invariant c.loop-i-test.true)

pub overflow_add-bits : goal.overflow_add-bits
overflow_add-bits c = omega (arith, mask_room c.loop-i.invariant c.loop-i-test.true, from_bool_le c.may_navigate.result)

pub loop-i-preserved : goal.loop-i-preserved
loop-i-preserved c = rw c.from.ensures (mask_row c.loop-i.invariant _ c.row-row.ensures c.loop-i-test.true (omega arith) c.may_navigate.ensures)
