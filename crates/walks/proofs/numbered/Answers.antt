-- The closure asks of a row what the definition asks.
use Rattle.std.proofs.Common.{rules}
use Rattle.wim.specs.Walks.{document_numbered}
use Rattle.walks.proofs.numbered.Goals as goal

pub returns : goal.returns
unfolding document_numbered
returns c = c.first.ensures.found _ (λ r b h. search rules)
