use Rattle.std.proofs.Common.{◌≡◌, Bool, ◌≤◌, length}
use Rattle.memory.specs.Rows.{total, end, Within}
use Rattle.memory.proofs.Loops.{Sifting}
use Rattle.rows.specs.Tables.{laid, Decides}
use Rattle.rows.proofs.Table.keep.Given as goal

abbrev pub invariant-loop-i : goal.invariant-loop-i
invariant-loop-i g l =
    (l.j ≤ l.i) × (length l.m ≡ total) × (l.i-end ≤ g.Self.Table.CAPACITY)
    × Within g.Self.Table.COUNT (end (laid g.Self.Table.COUNT g.Self.Table.WIDTH g.Self.Table.CAPACITY g.Self.Table.decode)) l.fn.m l.m
    × ((p : g.row.Self-Row.Denot → Bool) → Decides (goal.F-post g) l.test g.Self.Table.head_of p → Sifting (laid g.Self.Table.COUNT g.Self.Table.WIDTH g.Self.Table.CAPACITY g.Self.Table.decode) p l.fn.m l.m l.i-end l.i l.j)
