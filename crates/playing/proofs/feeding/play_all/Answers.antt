-- A turn's run follows the runs before it, also where it ends in an error.
use Rattle.std.proofs.Common.{sym, subst, arith}
use Rattle.wim.specs.Step.{empty_browser}
use Rattle.wim.specs.Made.{RunsTo, begun}
use Rattle.wim.proofs.Made.{runs_then}
use Rattle.playing.proofs.Telling.{goes-begun, goes-turned, goes-over, goes-out}
use Rattle.playing.proofs.feeding.play_all.Goals as goal

pub loop-turns-init : goal.loop-turns-init
loop-turns-init g c = let held = c.begin-run.ensures.begins.nothing in (omega arith, subst (RunsTo empty_browser) (sym c.begin-run.ensures.begins.empty) begun, goes-begun _ _ _ _ _ _ _ c.begin-run.ensures.begins.empty held c.begin-run.ensures.open (omega arith))

pub returns-in_err-run-clause-comes : goal.returns-in_err-run-clause-comes
returns-in_err-run-clause-comes g c = runs_then c.loop-turns.invariant.1 c.in_err-run.ensures.err

pub returns-then-run-clause-comes : goal.returns-then-run-clause-comes
returns-then-run-clause-comes g c = runs_then c.loop-turns.invariant.1 c.in_ok-run.ensures.ok.comes

pub loop-turns-preserved : goal.loop-turns-preserved
loop-turns-preserved g c = let f = c.in_ok-run.ensures.ok in (f.within, runs_then c.loop-turns.invariant.1 f.comes, goes-turned _ _ _ _ _ _ _ _ _ _ _ _ _ _ _ c.loop-turns.invariant.2 c.in_ok-run.ensures.told (omega arith) (omega arith) c.if-run.false)

pub returns-then-run-clause-told : goal.returns-then-run-clause-told
returns-then-run-clause-told g c = goes-over _ _ _ _ _ _ _ _ _ _ _ _ _ _ _ c.loop-turns.invariant.2 c.in_ok-run.ensures.told (omega arith) (omega arith) c.if-run.true

pub returns-clause-told : goal.returns-clause-told
returns-clause-told g c = goes-out _ _ _ _ _ _ _ _ _ c.loop-turns.invariant.2 (omega arith)
