-- A law for each call.
use Rattle.std.proofs.Common.{rules}
use Rattle.csexp.proofs.write.Steps.{opened, passed, closed}
use Rattle.writing.proofs.events.send_sealed.Goals as goal

pub returns : goal.returns
returns c = search (rules, opened, passed, closed) depth 20
