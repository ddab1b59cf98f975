-- The pairs of the cookies that go there.
use Rattle.std.proofs.Common.{sym, ap, ◌∙◌}
use native.Mathlib.Omega.{arith}
use Rattle.sorted.proofs.Count.{mapped}
use Rattle.tables.specs.Nouns.{Jar}
use Rattle.tables.specs.Rows.{jar}
use Rattle.memory.proofs.Picking.{pick_start, pick_skips, pick_takes, pick_end}
use Rattle.cookies.proofs.sent_to.Goals as goal
use Rattle.cookies.proofs.sent_to.Goals.{then-goes_to, else-goes_to}

pub loop-i-init : goal.loop-i-init
unfolding jar
loop-i-init c = pick_start (search mapped) (ap (λ (j : Jar). j.rows) c.empty_jar-out.ensures) c.size-i-end.ensures

pub loop-i-preserved : goal.loop-i-preserved
loop-i-preserved c =
    elim c.if-goes_to.branch [
      | then-goes_to w ↦ rw (w.out-is, w.j-is, w.pair_of.ensures) (pick_takes c.loop-i.invariant c.row-row.ensures c.loop-i-test.true (sym c.goes_to.ensures ∙ w.if-goes_to.true))
      | else-goes_to w ↦ rw (w.out-is, w.j-is) (pick_skips c.loop-i.invariant c.row-row.ensures c.loop-i-test.true (sym c.goes_to.ensures ∙ w.if-goes_to.false))
    ]

pub returns : goal.returns
unfolding jar
returns c = let h = pick_end c.loop-i.invariant (omega arith) in λ i. record { rows = h.0 i; count = h.1 i }
