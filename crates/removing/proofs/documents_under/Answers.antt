-- The closure asks of a document what the definition asks.
use Rattle.std.proofs.Common.{rules}
use Rattle.wim.specs.Walks.{removal}
use Rattle.removing.proofs.documents_under.Goals as goal

pub returns : goal.returns
unfolding removal
returns c = c.numbers.ensures.numbers _ (λ r b h. search rules)
