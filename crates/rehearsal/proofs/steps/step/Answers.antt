-- What the reader answers decides what is performed: 1, 2, or the item's own.
use Rattle.std.proofs.lemmas.Result.{err_from_is_err_and}
use Rattle.rehearsal.proofs.Ways.{refusing_so, taken}
use Rattle.rehearsal.proofs.steps.step.Goals as goal

pub returns-in_err-read_item : goal.returns-in_err-read_item
returns-in_err-read_item c =
    let p = err_from_is_err_and c.from_residual.result c.from_residual.ensures.1 in rw (p.1, p.2) (taken _ _ _ _ _ c.in_err-read_item.ensures (refusing_so _ _ _ _))

pub returns : goal.returns
returns c = taken _ _ _ _ _ c.in_ok-read_item.ensures c.rehearse_item.ensures
