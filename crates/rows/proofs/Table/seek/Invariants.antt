use Rattle.memory.proofs.Loops.{Searching}
use Rattle.rows.specs.Tables.{laid}
use Rattle.rows.proofs.Table.seek.Given as goal

abbrev pub invariant-loop-i : goal.invariant-loop-i
invariant-loop-i g l =
    Searching (laid g.Self.Table.COUNT g.Self.Table.WIDTH g.Self.Table.CAPACITY g.Self.Table.decode) (λ r. g.Self.Table.cmp (g.Self.Table.sort l.key) (g.Self.Table.key_of (g.Self.Table.head_of r))) l.m l.n l.i
