-- One byte.
use Rattle.playing.proofs.Adding.{adds_byte}
use Rattle.playing.proofs.lines.put_byte.Goals as goal

pub returns : goal.returns
returns c = adds_byte _ _ _ c.requires
