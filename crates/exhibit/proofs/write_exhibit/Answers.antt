-- A law for each call.
use Rattle.csexp.proofs.write.Steps.{opened, passed, closed, writes_as}
use Rattle.browser.specs.View.{view}
use Rattle.exhibit.proofs.Exhibiting.{shown-whole}
use Rattle.exhibit.proofs.write_exhibit.Goals as goal

pub returns : goal.returns
returns c =
    writes_as (shown-whole (view c.args.m.now) c.args.top c.args.d c.origin_of-origin.result c.origin_of-origin.ensures)
    (opened c.open_list-a.ensures
    (passed c.write_windows-b.ensures
    (passed c.labelled-c.ensures
    (passed c.number-e.ensures
    (passed c.write_inputs-f.ensures
    (passed c.write_cookies-g.ensures
    (passed c.write_local-h.ensures
    (passed c.write_session-i.ensures
    (closed c.close_list.ensures)))))))))
