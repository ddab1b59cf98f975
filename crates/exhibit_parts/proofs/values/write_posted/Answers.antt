-- A law for each call.
use Rattle.csexp.proofs.write.Steps.{opened-word, passed, closed}
use Rattle.exhibit_parts.proofs.values.write_posted.Goals as goal

pub returns : goal.returns
returns c = opened-word c.open_word-a.ensures (passed c.labelled-b.ensures (passed c.write_origin-c.ensures (passed c.number-d.ensures (closed c.close_list.ensures))))
