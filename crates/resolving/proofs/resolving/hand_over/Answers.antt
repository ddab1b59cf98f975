-- The request begins to wait for its answer, and its question goes.
use Rattle.resolving.proofs.Questions.{hands}
use Rattle.resolving.proofs.resolving.hand_over.Goals as goal

pub returns : goal.returns
returns c = hands c.args.q c.args.seal c.args.address c.waiting_of.ensures c.put-room.ensures c.remove.ensures
