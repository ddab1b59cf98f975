use Rattle.std.proofs.Common.{◌≡◌, length}
use Rattle.memory.specs.Rows.{total, end, Within}
use Rattle.memory.proofs.Changing.{Changing}
use Rattle.rows.specs.Tables.{laid, Makes}
use Rattle.rows.proofs.Table.revise.Given as goal

abbrev pub invariant-loop-i : goal.invariant-loop-i
invariant-loop-i g l =
    (length l.m ≡ total)
    × Within g.Self.Table.COUNT (end (laid g.Self.Table.COUNT g.Self.Table.WIDTH g.Self.Table.CAPACITY g.Self.Table.decode)) l.fn.m l.m
    × ((f : g.row.Self-Row.Denot → g.row.Self-Row.Denot) → Makes (goal.F-post g) l.change f → Changing (laid g.Self.Table.COUNT g.Self.Table.WIDTH g.Self.Table.CAPACITY g.Self.Table.decode) (λ r. g.Self.Table.kept (f r)) l.fn.m l.m l.n l.i)
