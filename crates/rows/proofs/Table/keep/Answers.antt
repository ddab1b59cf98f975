-- The rows for which the closure answers true move up, one behind the other.
use Rattle.std.proofs.Common.{sym, subst}
use native.Mathlib.Omega.{arith}
use Rattle.memory.proofs.Frame.{within_refl, within-then}
use Rattle.memory.proofs.Loops.{sift-start, sift-end}
use Rattle.rows.specs.Tables.{laid}
use Rattle.rows.proofs.Unasked.{copied_within, counted_within}
use Rattle.rows.proofs.Tests.{asked_drops, asked_keeps, asked_stays, row_carried, few_rows}
use Rattle.rows.proofs.Table.keep.Goals as goal
use Rattle.rows.proofs.Table.keep.Goals.{then-test, else-test, then-j-i, else-j-i}

pub loop-i-init : goal.loop-i-init
loop-i-init g c = (omega arith, c.told-m, omega (arith, c.size-i-end.ensures, few_rows (laid g.Self.Table.COUNT g.Self.Table.WIDTH g.Self.Table.CAPACITY g.Self.Table.decode) c.args.m.now), within_refl _ _ _, λ p d. sift-start (omega (arith, g.met.Self.Table.fits)) c.size-i-end.ensures)

pub loop-i-preserved : goal.loop-i-preserved
loop-i-preserved g c =
    let v = c.loop-i.invariant in
    let post = goal.F-post g c.args.test c.head_at.result in
    elim c.if-test.branch [
      | then-test w ↦ elim w.if-j-i.branch [
        | then-j-i x ↦ rw (w.m-is, w.j-is, x.m-is) (
          omega (arith, v.0),
          rw (sym x.m-is, sym w.m-is) c.if-test.array_long,
          v.2,
          within-then v.3 (copied_within (laid g.Self.Table.COUNT g.Self.Table.WIDTH g.Self.Table.CAPACITY g.Self.Table.decode) c.loop-i.i c.loop-i.j (omega (arith, v.1, g.met.Self.Table.fits)) (omega (arith, v.2)) v.0 (row_carried (laid g.Self.Table.COUNT g.Self.Table.WIDTH g.Self.Table.CAPACITY g.Self.Table.decode) c.loop-i.i c.loop-i.j x.place.result x.place-then-j-i.result x.WIDTH.result g.met.Self.Table.fits (omega (arith, v.2)) v.0 x.place.ensures x.place-then-j-i.ensures x.WIDTH.ensures x.carry.ensures)),
          λ p d. asked_keeps (goal.F-post g) c.args.test p d c.head_at.ensures (v.4 p d) c.loop-i-test.true (subst post w.if-test.true c.test.ensures)
              (row_carried (laid g.Self.Table.COUNT g.Self.Table.WIDTH g.Self.Table.CAPACITY g.Self.Table.decode) c.loop-i.i c.loop-i.j x.place.result x.place-then-j-i.result x.WIDTH.result g.met.Self.Table.fits (omega (arith, v.2)) v.0 x.place.ensures x.place-then-j-i.ensures x.WIDTH.ensures x.carry.ensures),
        )
        | else-j-i x ↦ rw (w.m-is, w.j-is, x.m-is) (omega (arith, v.0), v.1, v.2, v.3, λ p d. asked_stays (goal.F-post g) c.args.test p d c.head_at.ensures (v.4 p d) c.loop-i-test.true (subst post w.if-test.true c.test.ensures) (omega arith))
      ]
      | else-test w ↦ rw (w.m-is, w.j-is) (omega (arith, v.0), v.1, v.2, v.3, λ p d. asked_drops (goal.F-post g) c.args.test p d c.head_at.ensures (v.4 p d) c.loop-i-test.true (subst post w.if-test.false c.test.ensures))
    ]

pub returns-clause-kept : goal.returns-clause-kept
returns-clause-kept g c = λ p d. rw c.COUNT.ensures (sift-end (c.loop-i.invariant.4 p d) (omega arith))

pub returns-clause-rest : goal.returns-clause-rest
returns-clause-rest g c = rw c.COUNT.ensures (within-then c.loop-i.invariant.3 (counted_within (laid g.Self.Table.COUNT g.Self.Table.WIDTH g.Self.Table.CAPACITY g.Self.Table.decode) _ _))
