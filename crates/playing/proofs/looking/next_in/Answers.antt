-- A law for each return.
use Rattle.playing.proofs.Nexts.{next_crowded, next-whole, next_broken}
use Rattle.playing.proofs.looking.next_in.Goals as goal

pub returns-then-room-lt-LINE_BYTES : goal.returns-then-room-lt-LINE_BYTES
returns-then-room-lt-LINE_BYTES c = next_crowded _ _ _ c.if-room-lt-LINE_BYTES.true

pub returns-in-Some : goal.returns-in-Some
returns-in-Some c = next-whole _ _ _ c.if-room-lt-LINE_BYTES.false c.in-Some.ensures

pub returns-in-None : goal.returns-in-None
returns-in-None c = next_broken _ _ _ c.if-room-lt-LINE_BYTES.false c.in-None.ensures c.unended.ensures
