-- All stay but those with the key.
use Rattle.std.proofs.Common.{rules}
use Rattle.rows.proofs.Table.remove.Goals as goal

pub returns : goal.returns
returns g c = c.keep.ensures.kept _ (λ r b h. search rules)
