-- It has room; it has none, or the place lies past the end.
use Rattle.std.proofs.Common.{arith}
use Rattle.csexp.proofs.write.Tops.{sent-there, sent_not}
use Rattle.exhibit.proofs.put_exhibit.Goals as goal
use Rattle.exhibit.proofs.put_exhibit.Goals.{else-place-out-via-then-place-out+else-n-out, else-place-out-via-else-place-out}

pub returns-then-n-out : goal.returns-then-n-out
returns-then-n-out c = sent-there _ c.write_exhibit-n.ensures.puts (omega arith) (omega arith) (omega arith) c.write_exhibit.ensures.puts

pub returns : goal.returns
returns c =
    elim c.else-place-out.branch [
      | else-place-out-via-then-place-out+else-n-out w ↦ (let p = w.if-place-out.true in let n = w.if-n-out.false in sent_not _ c.write_exhibit-n.ensures.puts (omega arith) (omega arith))
      | else-place-out-via-else-place-out w ↦ (let p = w.if-place-out.false in sent_not _ c.write_exhibit-n.ensures.puts (omega arith) (omega arith))
    ]
