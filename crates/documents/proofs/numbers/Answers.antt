-- The numbers of the documents for which the closure answers true.
use Rattle.std.proofs.Common.{true, false, sym, subst, ◌∙◌}
use native.Mathlib.Omega.{arith}
use lib.ListN.{length-set}
use Rattle.sorted.proofs.Count.{mapped}
use Rattle.memory.proofs.Picking.{gather_start, gather_skips, gather_takes, gather_end}
use Rattle.layouts.specs.Tables.{documents_in}
use Rattle.rows.proofs.Tests.{few_rows}
use Rattle.documents.proofs.numbers.Goals as goal
use Rattle.documents.proofs.numbers.Goals.{then-test, else-test}

pub loop-i-init : goal.loop-i-init
loop-i-init g c = (omega arith, search mapped, omega (arith, c.size-i-end.ensures, few_rows documents_in c.args.m.now), λ p d. gather_start (search mapped) c.size-i-end.ensures)

pub loop-i-preserved : goal.loop-i-preserved
loop-i-preserved g c =
    let v = c.loop-i.invariant in
    let post = goal.F-post g c.args.test c.row-row.result in
    elim c.if-test.branch [
      | then-test w ↦ rw (w.out-is, w.j-is) (omega (arith, v.0), length-set _ _ _ ∙ v.1, v.2, λ p d. gather_takes (v.3 p d) c.row-row.ensures c.loop-i-test.true (sym (d _ true (subst post w.if-test.true c.test.ensures))))
      | else-test w ↦ rw (w.out-is, w.j-is) (omega (arith, v.0), v.1, v.2, λ p d. gather_skips (v.3 p d) c.row-row.ensures c.loop-i-test.true (sym (d _ false (subst post w.if-test.false c.test.ensures))))
    ]

pub returns-clause-numbers : goal.returns-clause-numbers
returns-clause-numbers g c = λ p d. gather_end (c.loop-i.invariant.3 p d) (omega arith)

pub returns-clause-most : goal.returns-clause-most
returns-clause-most g c = omega (arith, c.loop-i.invariant.0, c.size-i-end.ensures)
