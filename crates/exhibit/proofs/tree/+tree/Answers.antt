-- A law for each call; the loop is the law `Passing`.
use Rattle.std.proofs.Common.{sym, ap, ◌∙◌, arith}
use Rattle.browser.specs.View.{view}
use Rattle.csexp.proofs.write.Steps.{opened, passed, closed, ended, absent}
use Rattle.tables.specs.Rows.{same_origin}
use Rattle.wim.specs.Nouns.{Origin}
use Rattle.exhibit_parts.proofs.Passing.{pass_start, pass_takes, pass_skips, pass_end}
use Rattle.exhibit.proofs.Trees.{windows-none, windows-all, document-none, document-whole, document_limited}
use Rattle.exhibit.proofs.tree.+tree.Goals as goal
use Rattle.exhibit.proofs.tree.+tree.Goals.{write_windows-then-hangs_under, write_windows-else-hangs_under}

-- WHAT STANDS IN A WINDOW.
pub document_items-returns-in-None : goal.document_items-returns-in-None
document_items-returns-in-None t c = document-none (view c.args.m.now) c.args.origin c.args.levels (sym c.in-None.is ∙ c.active_document.ensures) (absent _ _ (omega arith))

pub document_items-returns-then-same_origin : goal.document_items-returns-then-same_origin
document_items-returns-then-same_origin t c =
    let e = ap (λ (o : Origin). same_origin o c.args.origin) (sym c.origin_of.ensures) ∙ sym c.same_origin.ensures ∙ c.if-same_origin.true in
    document-whole (view c.args.m.now) c.args.origin c.args.levels c.in-Some.d (sym c.in-Some.is ∙ c.active_document.ensures) e c.write_whole.ensures

pub document_items-returns-else-same_origin : goal.document_items-returns-else-same_origin
document_items-returns-else-same_origin t c =
    let e = ap (λ (o : Origin). same_origin o c.args.origin) (sym c.origin_of.ensures) ∙ sym c.same_origin.ensures ∙ c.if-same_origin.false in
    document_limited (view c.args.m.now) c.args.origin c.args.levels c.in-Some.d (sym c.in-Some.is ∙ c.active_document.ensures) e c.write_limited.ensures

-- A DOCUMENT: of another origin, and one of the script's own.
pub write_limited-returns : goal.write_limited-returns
write_limited-returns t c = opened c.open_list-a.ensures (passed c.labelled-b.ensures (passed c.write_windows-c.ensures (closed c.close_list.ensures)))

pub write_whole-returns : goal.write_whole-returns
write_whole-returns t c =
    opened c.open_list-a.ensures
    (passed c.labelled-b.ensures
    (passed c.write_url-c.ensures
    (passed c.empty_list-e.ensures
    (passed c.write_referrer-f.ensures
    (passed c.number-g.ensures
    (passed c.number-h.ensures
    (passed c.write_inputs-i.ensures
    (passed c.write_windows-j.ensures
    (passed c.word-k.ensures
    (closed c.close_list.ensures))))))))))

-- A WINDOW.
pub write_window-returns : goal.write_window-returns
write_window-returns t c =
    opened c.open_list-a.ensures
    (passed c.labelled-b.ensures
    (passed (opened c.open_list-c.ensures (ended c.document_items-d.ensures c.close_list-e.ensures))
    (passed c.write_opener-f.ensures
    (closed c.close_list.ensures))))

-- A LIST OF WINDOWS.
pub write_windows-returns-then-levels-eq0 : goal.write_windows-returns-then-levels-eq0
write_windows-returns-then-levels-eq0 t c = windows-none (view c.args.m.now) c.args.origin c.args.place c.if-levels-eq0.true c.empty_list.ensures

pub write_windows-loop-i-init : goal.write_windows-loop-i-init
write_windows-loop-i-init t c = pass_start _ _ c.size-i-end.ensures (omega arith)

pub write_windows-loop-i-preserved : goal.write_windows-loop-i-preserved
write_windows-loop-i-preserved t c =
    elim c.if-hangs_under.branch [
      | write_windows-then-hangs_under w ↦ rw (w.out-is, w.p-is) (pass_takes c.loop-i.invariant c.row-row.ensures (omega arith) (sym c.hangs_under.ensures ∙ w.if-hangs_under.true) w.write_window-p.ensures)
      | write_windows-else-hangs_under w ↦ rw (w.out-is, w.p-is) (pass_skips c.loop-i.invariant c.row-row.ensures (omega arith) (sym c.hangs_under.ensures ∙ w.if-hangs_under.false))
    ]

pub write_windows-returns : goal.write_windows-returns
write_windows-returns t c = windows-all (view c.args.m.now) c.args.origin c.args.place c.if-levels-eq0.false c.open_list-p.ensures (pass_end c.loop-i.invariant (omega arith)) c.close_list.ensures
