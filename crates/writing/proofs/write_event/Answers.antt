-- A law for each return but the one without room, which the search finds.
use Rattle.std.proofs.Common.{arith}
use Rattle.csexp.proofs.write.Tops.{sent-there}
use Rattle.writing.proofs.Tops.{counts, wrote_none, wrote-some}
use Rattle.writing.proofs.write_event.Goals as goal

pub returns-then-n-eq0 : goal.returns-then-n-eq0
returns-then-n-eq0 c = wrote_none _ _ _ c.length_of-n.ensures c.if-n-eq0.true

pub returns-then-n-out : goal.returns-then-n-out
returns-then-n-out c =
    wrote-some _ c.length_of-n.ensures c.if-n-eq0.false
    (sent-there _ (counts c.length_of-n.ensures) (omega arith) c.if-place-out.true c.if-n-out.true c.write_sent.ensures)
