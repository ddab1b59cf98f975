-- One of the two directions.
use Rattle.wim.specs.Main.{back}
use Rattle.triggers.proofs.moving.back.Goals as goal

pub returns : goal.returns
unfolding back
returns c = c.go.ensures
