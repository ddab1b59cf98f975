-- Nothing is put, or the message's event.
use Rattle.std.proofs.Common.{arith}
use Rattle.csexp.proofs.write.Steps.{puts_none}
use Rattle.writing.proofs.events.write_sent.Goals as goal

pub returns-in-None : goal.returns-in-None
returns-in-None c = rw c.in-None.is (puts_none _ _ (omega arith))

pub returns-in-Some : goal.returns-in-Some
returns-in-Some c = rw c.in-Some.is c.write_message.ensures.puts
