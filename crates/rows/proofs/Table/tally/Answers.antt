-- As many as the rows for which the closure answers true.
use Rattle.std.proofs.Common.{subst}
use native.Mathlib.Omega.{arith}
use Rattle.memory.proofs.Picking.{tally_start, tally_end}
use Rattle.rows.proofs.Tests.{asked_skips, asked_takes}
use Rattle.rows.proofs.Table.tally.Goals as goal
use Rattle.rows.proofs.Table.tally.Goals.{then-test, else-test}

pub loop-i-init : goal.loop-i-init
loop-i-init g c = (omega arith, λ p d. tally_start c.size-i-end.ensures)

pub loop-i-preserved : goal.loop-i-preserved
loop-i-preserved g c =
    elim c.if-test.branch [
      | then-test w ↦ rw w.some-is (omega (arith, c.loop-i.invariant.0), λ p d. asked_takes (goal.F-post g) c.args.test p d c.head_at.ensures (c.loop-i.invariant.1 p d) c.loop-i-test.true (subst (goal.F-post g c.args.test c.head_at.result) w.if-test.true c.test.ensures))
      | else-test w ↦ rw w.some-is (omega (arith, c.loop-i.invariant.0), λ p d. asked_skips (goal.F-post g) c.args.test p d c.head_at.ensures (c.loop-i.invariant.1 p d) c.loop-i-test.true (subst (goal.F-post g c.args.test c.head_at.result) w.if-test.false c.test.ensures))
    ]

pub returns-clause-counted : goal.returns-clause-counted
returns-clause-counted g c = λ p d. tally_end (c.loop-i.invariant.1 p d) (omega arith)

pub returns-clause-most : goal.returns-clause-most
returns-clause-most g c = omega (arith, c.loop-i.invariant.0, c.size-i-end.ensures)
