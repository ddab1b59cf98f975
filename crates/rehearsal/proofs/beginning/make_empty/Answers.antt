-- Table by table, and open.
use Rattle.std.proofs.Common.{◌∙◌}
use Rattle.rehearsal.proofs.Emptied.{emptied}
use Rattle.rehearsal.proofs.beginning.make_empty.Goals as goal

pub returns : goal.returns
returns c =
    c.set_closed.ensures
    ∙ emptied c.clear.ensures c.clear-2.ensures c.clear-3.ensures c.clear-4.ensures c.clear-5.ensures c.clear-6.ensures c.clear-7.ensures c.clear-8.ensures c.clear-9.ensures
