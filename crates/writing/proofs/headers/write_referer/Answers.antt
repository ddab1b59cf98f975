-- A law for each call.
use Rattle.std.proofs.Common.{rules}
use Rattle.csexp.proofs.write.Steps.{opened-word, passed, closed, single}
use Rattle.writing.proofs.headers.write_referer.Goals as goal

pub returns : goal.returns
returns c = search (rules, opened-word, passed, closed, single) depth 20
