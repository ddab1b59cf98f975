-- Row after row is written as the closure makes it.
use Rattle.std.proofs.Common.{◌≡◌, ap}
use native.Mathlib.Omega.{arith}
use Rattle.memory.proofs.Frame.{within_refl, within-then}
use Rattle.memory.proofs.Changing.{change_start, change_written, change_end}
use Rattle.rows.specs.Tables.{laid}
use Rattle.rows.proofs.Tests.{few_rows}
use Rattle.rows.proofs.Unasked.{written_within, counted_within}
use Rattle.rows.proofs.Table.revise.Goals as goal

pub loop-i-init : goal.loop-i-init
loop-i-init g c = (c.told-m, within_refl _ _ _, λ f d. change_start (omega (arith, g.met.Self.Table.fits)) c.size-n.ensures)

pub loop-i-preserved : goal.loop-i-preserved
loop-i-preserved g c = (c.write_at.array_long, within-then c.loop-i.invariant.1 (written_within (laid g.Self.Table.COUNT g.Self.Table.WIDTH g.Self.Table.CAPACITY g.Self.Table.decode) c.loop-i.i (omega (arith, c.loop-i.invariant.0, g.met.Self.Table.fits)) (omega (arith, c.size-n.ensures, few_rows (laid g.Self.Table.COUNT g.Self.Table.WIDTH g.Self.Table.CAPACITY g.Self.Table.decode) c.args.m.now)) (c.write_at.ensures (omega (arith, c.size-n.ensures, few_rows (laid g.Self.Table.COUNT g.Self.Table.WIDTH g.Self.Table.CAPACITY g.Self.Table.decode) c.args.m.now)))), λ f d. change_written (c.loop-i.invariant.2 f d) c.row.ensures c.loop-i-test.true (ap g.Self.Table.kept (d _ _ c.change.ensures)) (c.write_at.ensures (omega (arith, c.size-n.ensures, few_rows (laid g.Self.Table.COUNT g.Self.Table.WIDTH g.Self.Table.CAPACITY g.Self.Table.decode) c.args.m.now))))

pub returns-clause-revised : goal.returns-clause-revised
returns-clause-revised g c = λ f d. let e : c.size-n.result ≡ c.loop-i.i = omega arith in rw (c.COUNT.ensures, e) (change_end (c.loop-i.invariant.2 f d) (omega arith))

pub returns-clause-rest : goal.returns-clause-rest
returns-clause-rest g c = rw c.COUNT.ensures (within-then c.loop-i.invariant.1 (counted_within (laid g.Self.Table.COUNT g.Self.Table.WIDTH g.Self.Table.CAPACITY g.Self.Table.decode) _ _))
