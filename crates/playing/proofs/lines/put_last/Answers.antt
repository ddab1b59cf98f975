-- The line of refusal 1.
use Rattle.playing.proofs.Answering.{one_line}
use Rattle.playing.proofs.lines.put_last.Goals as goal

pub returns-in-Stopped : goal.returns-in-Stopped
returns-in-Stopped c = rw c.in-Stopped.is (one_line c.put_byte-p.ensures c.put_byte.ensures)
