use native.Mathlib.Omega.{arith}
use Rattle.rows.specs.Tables.{laid}
use Rattle.rows.proofs.Slices.{cells_say, no_cells_say}
use Rattle.rows.proofs.cells.cells.Goals as goal

pub returns-then-i-CAPACITY : goal.returns-then-i-CAPACITY
returns-then-i-CAPACITY g c = cells_say (laid g.T.Table.COUNT g.T.Table.WIDTH g.T.Table.CAPACITY g.T.Table.decode) c.args.m.now c.args.i c.WIDTH.result c.place-p.result (omega arith) c.WIDTH.ensures c.place-p.ensures

pub returns-else-i-CAPACITY : goal.returns-else-i-CAPACITY
returns-else-i-CAPACITY g c = no_cells_say (laid g.T.Table.COUNT g.T.Table.WIDTH g.T.Table.CAPACITY g.T.Table.decode) c.args.m.now c.args.i (omega arith)
