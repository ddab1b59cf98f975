-- The loop is the law `Playing`; the measure is what is left of the text.
use Rattle.std.proofs.Common.{◌-◌, length}
use Rattle.browser.specs.View.{browser}
use Rattle.playing.proofs.Loop.{Playing}
use Rattle.playing.proofs.portions.play.Given as goal

abbrev pub invariant-loop-n : goal.invariant-loop-n
invariant-loop-n l = Playing l.text l.last (browser l.initial.m) l.initial.out (browser l.m) l.read l.written l.out

abbrev pub decreases-loop-n : goal.decreases-loop-n
decreases-loop-n l = length l.text - l.read
