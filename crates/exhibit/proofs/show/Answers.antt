-- Closed, nothing to show, shown, or no room.
use Rattle.std.proofs.Common.{sym, ◌∙◌}
use Rattle.std.proofs.lemmas.Result.{err_from_is_err_and}
use Rattle.exhibit.proofs.Exhibiting.{exhibits_closed, exhibits_lacking, exhibits_found}
use Rattle.exhibit.proofs.show.Goals as goal

pub returns-then-is_closed : goal.returns-then-is_closed
returns-then-is_closed c = exhibits_closed _ _ _ _ (sym c.is_closed.ensures ∙ c.if-is_closed.true)

pub returns-in_err-top : goal.returns-in_err-top
returns-in_err-top c =
    let p = err_from_is_err_and c.from_residual.result c.from_residual.ensures.1 in
    rw (p.1, p.2) (exhibits_lacking _ _ _ _ _ (sym c.is_closed.ensures ∙ c.if-is_closed.false) c.in_err-top.ensures)

pub returns : goal.returns
returns c = rw c.ok_or.ensures.value (exhibits_found _ _ _ _ _ _ (sym c.is_closed.ensures ∙ c.if-is_closed.false) c.in_ok-top.ensures c.put_exhibit.ensures)
