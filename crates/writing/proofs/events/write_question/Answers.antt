-- A law for each call.
use Rattle.std.proofs.Common.{rules}
use Rattle.csexp.proofs.write.Steps.{opened-word, passed, closed}
use Rattle.writing.proofs.events.write_question.Goals as goal

pub returns : goal.returns
returns c = search (rules, opened-word, passed, closed) depth 20
