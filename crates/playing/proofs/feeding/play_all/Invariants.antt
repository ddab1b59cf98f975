-- What is held lies within the window, a run comes to the browser, and what was told and what is left are the whole run. The measure is the number of turns that are left.
use Rattle.std.proofs.Common.{◌≤◌, length}
use Rattle.wim.specs.Step.{empty_browser}
use Rattle.wim.specs.Made.{RunsTo}
use Rattle.browser.specs.View.{browser}
use Rattle.playing.proofs.Telling.{Going}
use Rattle.playing.proofs.feeding.play_all.Given as goal

abbrev pub invariant-loop-turns : goal.invariant-loop-turns
invariant-loop-turns g l =
    (l.run.held ≤ length l.window) × RunsTo empty_browser (browser l.m)
    × Going l.loud (g.W.Write.contents l.initial.out) (g.W.Write.contents l.out) (g.R.Read.remaining l.initial.input) (g.R.Read.remaining l.input) l.run l.window l.m l.turns

abbrev pub decreases-loop-turns : goal.decreases-loop-turns
decreases-loop-turns g l = l.turns
