-- The zeros at the end of the number are counted.
use Rattle.std.proofs.Common.{arith}
use Rattle.memory.proofs.Table.{counted}
use Rattle.layouts.specs.Tables.{windows_in}
use Rattle.navigable.proofs.Firsts.{no_row, some-row}
use Rattle.navigable.proofs.first_navigable.Goals as goal

pub returns-then-bits-eq0 : goal.returns-then-bits-eq0
returns-then-bits-eq0 c = no_row _ _ _ c.navigable_set-bits.ensures c.if-bits-eq0.true

pub returns : goal.returns
returns c = some-row _ _ _ (omega (arith, counted windows_in c.args.m.now)) c.navigable_set-bits.ensures (omega (arith, c.if-bits-eq0.false))
