-- What was played lies within what is held; the browser comes to where `play` leaves it, whatever became of reading and writing.
use Rattle.std.proofs.Common.{◌≡◌, length, take, length-take-le, refl, arith, rules}
use Rattle.playing.proofs.Meaning.{reasons, play-comes, either_way}
use Rattle.playing.proofs.Telling.{goes_nowhere, turned-over, turned-crowded, turned-hungry}
use Rattle.playing.proofs.window.turn.Goals as goal

pub returns-in_err-tell-clause-err : goal.returns-in_err-tell-clause-err
returns-in_err-tell-clause-err g c = either_way _ (play-comes c.play-played.ensures)

pub keep-left-requires-clause-from_le_to : goal.keep-left-requires-clause-from_le_to
keep-left-requires-clause-from_le_to g c =
    let inside = (reasons c.play-played.ensures).within in
    let held : length (take c.args.run.held c.args.window.now) ≡ c.args.run.held = length-take-le c.args.run.held c.args.window.now c.requires in
    omega arith

pub returns-in_err-n-in-Hungry-clause-err : goal.returns-in_err-n-in-Hungry-clause-err
returns-in_err-n-in-Hungry-clause-err g c = either_way _ (play-comes c.play-played.ensures)

pub returns-in-Over-clause-ok : goal.returns-in-Over-clause-ok
returns-in-Over-clause-ok g c = record { within = search rules; comes = play-comes c.play-played.ensures }

pub returns-in-Crowded-clause-ok : goal.returns-in-Crowded-clause-ok
returns-in-Crowded-clause-ok g c = record { within = search rules; comes = play-comes c.play-played.ensures }

pub returns-in_ok-n-in-Hungry-clause-ok : goal.returns-in_ok-n-in-Hungry-clause-ok
returns-in_ok-n-in-Hungry-clause-ok g c = record { within = search rules; comes = play-comes c.play-played.ensures }

pub returns-in-Over-clause-told : goal.returns-in-Over-clause-told
returns-in-Over-clause-told g c = turned-over _ _ _ _ _ c.play-played.ensures c.in_ok-tell.ensures c.keep-left.ensures c.requires (goes_nowhere c.in-Over.is) _

pub returns-in-Crowded-clause-told : goal.returns-in-Crowded-clause-told
returns-in-Crowded-clause-told g c = turned-crowded _ _ _ _ _ c.play-played.ensures c.in_ok-tell.ensures c.keep-left.ensures c.requires c.in-Crowded.is refl _

pub returns-in_ok-n-in-Hungry-clause-told : goal.returns-in_ok-n-in-Hungry-clause-told
returns-in_ok-n-in-Hungry-clause-told g c = turned-hungry _ _ _ _ _ c.play-played.ensures c.in_ok-tell.ensures c.keep-left.ensures c.requires _ _ _ _ c.in-Hungry.is (search rules) c.in_ok-n-in-Hungry.ensures.kept c.in_ok-n-in-Hungry.ensures.within c.in_ok-n-in-Hungry.ensures.bytes.0 c.in_ok-n-in-Hungry.ensures.bytes.1
