-- A law for each call.
use Rattle.std.proofs.Common.{rules}
use Rattle.csexp.proofs.write.Steps.{opened, opened-word, passed, closed, ended}
use Rattle.writing.proofs.cookies.write_cookies.Goals as goal

pub returns : goal.returns
returns c = search (rules, opened, opened-word, passed, closed, ended) depth 20
