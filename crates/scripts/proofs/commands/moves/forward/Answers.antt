-- One of the two directions.
use Rattle.wim.specs.Script.{command}
use Rattle.scripts.proofs.commands.moves.forward.Goals as goal

pub returns : goal.returns
unfolding command
returns c = c.go.ensures
