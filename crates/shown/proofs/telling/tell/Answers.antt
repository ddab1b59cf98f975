-- What was written lies within the buffer.
use Rattle.std.proofs.Common.{sym, length-take-le}
use Rattle.exhibit.proofs.One.{written-within}
use Rattle.shown.proofs.telling.tell.Goals as goal

pub slice_bounds-text-end : goal.slice_bounds-text-end
slice_bounds-text-end g c = written-within _ (rw c.in-Ok.is at c.show-shown.ensures)

pub slice_bounds-write_all-end : goal.slice_bounds-write_all-end
slice_bounds-write_all-end g c = sym (length-take-le _ _ (written-within _ (rw c.in-Ok.is at c.show-shown.ensures)))
