-- One pair after the other.
use Rattle.std.proofs.Common.{ap, ◌∙◌, min}
use native.Mathlib.Omega.{arith}
use Rattle.sorted.proofs.Count.{mapped}
use Rattle.tables.specs.Nouns.{Jar}
use Rattle.tables.specs.Rows.{jar}
use Rattle.layouts.proofs.Pairs.{gather_start, gather_next, gather_end}
use Rattle.layouts.proofs.jars.read.Goals as goal

pub loop-i-init : goal.loop-i-init
unfolding jar
loop-i-init c = gather_start (search mapped) (ap (λ (j : Jar). j.rows) c.empty_jar-out.ensures) (c.min-n.ensures ∙ ap (λ n. min n 64) c.number.ensures)

pub loop-i-preserved : goal.loop-i-preserved
loop-i-preserved c = gather_next c.loop-i.invariant c.loop-i-test.true c.pair_at.ensures

pub returns-after-loop-i : goal.returns-after-loop-i
unfolding jar
returns-after-loop-i c = let e = gather_end c.loop-i.invariant (omega arith) (c.min-n.ensures ∙ ap (λ n. min n 64) c.number.ensures) in λ i. record { rows = e.0 i; count = e.1 i }
