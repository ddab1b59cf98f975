-- A law for each call.
use Rattle.csexp.proofs.write.Steps.{opened, opened-word, passed, closed}
use Rattle.writing.proofs.requests.write_sealed.Goals as goal

pub returns : goal.returns
returns c =
    opened-word c.open_word-a.ensures
    (passed (opened c.open_list-b.ensures (passed c.write_request-c.ensures (passed c.labelled-d.ensures (closed c.close_list-e.ensures))))
    (passed c.labelled-f.ensures (closed c.close_list.ensures)))
