-- The loop is the law `Passing`.
use Rattle.std.proofs.Common.{sym, ◌∙◌, arith}
use Rattle.csexp.proofs.write.Steps.{opened, ended}
use Rattle.exhibit_parts.proofs.Passing.{pass_start, pass_takes, pass_skips, pass_end}
use Rattle.exhibit_parts.proofs.cookie_terms.write_cookies.Goals as goal
use Rattle.exhibit_parts.proofs.cookie_terms.write_cookies.Goals.{then-is_open_to, else-is_open_to}

pub loop-i-init : goal.loop-i-init
loop-i-init c = pass_start _ _ c.size-i-end.ensures (omega arith)

pub loop-i-preserved : goal.loop-i-preserved
loop-i-preserved c =
    elim c.if-is_open_to.branch [
      | then-is_open_to w ↦ rw (w.out-is, w.p-is) (pass_takes c.loop-i.invariant c.row-row.ensures (omega arith) (sym c.is_open_to.ensures ∙ w.if-is_open_to.true) w.write_cookie-p.ensures)
      | else-is_open_to w ↦ rw (w.out-is, w.p-is) (pass_skips c.loop-i.invariant c.row-row.ensures (omega arith) (sym c.is_open_to.ensures ∙ w.if-is_open_to.false))
    ]

pub returns : goal.returns
returns c = opened c.open_list-p.ensures (ended (pass_end c.loop-i.invariant (omega arith)) c.close_list.ensures)
