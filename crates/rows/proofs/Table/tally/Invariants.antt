use Rattle.std.proofs.Common.{Bool, ◌≤◌}
use Rattle.memory.proofs.Picking.{Tallying}
use Rattle.rows.specs.Tables.{laid, Decides}
use Rattle.rows.proofs.Table.tally.Given as goal

abbrev pub invariant-loop-i : goal.invariant-loop-i
invariant-loop-i g l =
    (l.some ≤ l.i)
    × ((p : g.row.Self-Row.Denot → Bool) → Decides (goal.F-post g) l.test g.Self.Table.head_of p → Tallying (laid g.Self.Table.COUNT g.Self.Table.WIDTH g.Self.Table.CAPACITY g.Self.Table.decode) p l.m l.i-end l.i l.some)
