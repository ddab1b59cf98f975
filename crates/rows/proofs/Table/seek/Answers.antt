-- The first row that does not stand before the key.
use Rattle.std.proofs.Common.{refl, sym, ap, ◌∙◌}
use native.Mathlib.Omega.{arith}
use Rattle.std.specs.declared.cmp.Ordering.TheVariants.{Less, Equal, Greater}
use Rattle.memory.proofs.Loops.{search_start}
use Rattle.rows.proofs.Places.{stands_after, stands_there, stands_before, stands_last}
use Rattle.rows.proofs.Table.seek.Goals as goal

pub loop-i-init : goal.loop-i-init
loop-i-init g c = search_start c.size-n.ensures

pub returns-in-Equal : goal.returns-in-Equal
returns-in-Equal g c =
    let cmp = g.Self.Table.cmp (g.Self.Table.sort c.args.key) in
    stands_there (λ h. cmp (g.Self.Table.key_of h)) c.head_at.ensures Equal (c.in-Equal.ensures ∙ ap cmp c.key.ensures) c.loop-i.invariant c.loop-i-test.true refl c.size-n.ensures

pub returns-in-Less : goal.returns-in-Less
returns-in-Less g c =
    let cmp = g.Self.Table.cmp (g.Self.Table.sort c.args.key) in
    stands_before (λ h. cmp (g.Self.Table.key_of h)) c.head_at.ensures Less (c.in-Less.ensures ∙ ap cmp c.key.ensures) c.loop-i.invariant c.loop-i-test.true refl refl c.size-n.ensures

pub loop-i-preserved : goal.loop-i-preserved
loop-i-preserved g c =
    let cmp = g.Self.Table.cmp (g.Self.Table.sort c.args.key) in
    stands_after (λ h. cmp (g.Self.Table.key_of h)) c.head_at.ensures Greater (c.in-Greater.ensures ∙ ap cmp c.key.ensures) c.loop-i.invariant c.loop-i-test.true refl

pub returns : goal.returns
returns g c = stands_last c.loop-i.invariant (omega arith) c.size-n.ensures
