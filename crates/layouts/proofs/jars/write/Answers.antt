-- One pair after the other.
use native.Mathlib.Omega.{arith}
use borrow.Author.Rules.{rules}
use Rattle.layouts.proofs.Pairs.{file-next}
use Rattle.layouts.proofs.jars.write.Goals as goal

pub loop-i-preserved : goal.loop-i-preserved
loop-i-preserved c = file-next c.loop-i.invariant c.pair_numbers.result _ (omega arith) (omega arith) (search rules) c.pair_numbers.ensures (c.store.ensures.fits (omega (arith, c.loop-i.invariant.whole, c.loop-i.invariant.most)))
