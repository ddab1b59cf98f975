-- One of the two directions.
use Rattle.wim.specs.Main.{forward}
use Rattle.triggers.proofs.moving.forward.Goals as goal

pub returns : goal.returns
unfolding forward
returns c = c.go.ensures
