-- The first row for which the closure answers true.
use Rattle.std.proofs.Common.{subst}
use native.Mathlib.Omega.{arith}
use Rattle.memory.proofs.Loops.{look_start, look_end}
use Rattle.rows.specs.Tables.{laid}
use Rattle.rows.proofs.Unasked.{read_in}
use Rattle.rows.proofs.Tests.{asked_next, asked_hit}
use Rattle.rows.proofs.Table.first.Goals as goal

pub loop-i-init : goal.loop-i-init
loop-i-init g c = λ p d. look_start c.size-i-end.ensures

pub returns-then-test-clause-found : goal.returns-then-test-clause-found
returns-then-test-clause-found g c = λ p d. asked_hit (goal.F-post g) c.args.test p d c.head_at.ensures (c.loop-i.invariant p d) c.row.ensures c.loop-i-test.true (subst (goal.F-post g c.args.test c.head_at.result) c.if-test.true c.test.ensures)

pub loop-i-preserved : goal.loop-i-preserved
loop-i-preserved g c = λ p d. asked_next (goal.F-post g) c.args.test p d c.head_at.ensures (c.loop-i.invariant p d) c.loop-i-test.true (subst (goal.F-post g c.args.test c.head_at.result) c.if-test.false c.test.ensures)

pub returns-clause-found : goal.returns-clause-found
returns-clause-found g c = λ p d. look_end (c.loop-i.invariant p d) (omega arith)

pub returns-then-test-clause-member : goal.returns-then-test-clause-member
returns-then-test-clause-member g c = read_in (laid g.Self.Table.COUNT g.Self.Table.WIDTH g.Self.Table.CAPACITY g.Self.Table.decode) c.args.m.now c.loop-i.i c.row.ensures (omega (arith, c.size-i-end.ensures, c.loop-i-test.true))
