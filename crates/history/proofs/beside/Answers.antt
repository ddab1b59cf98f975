-- One way or the other.
use Rattle.std.proofs.Common.{◌∙◌, rules}
use Rattle.history.proofs.Looking.{before-found, after-found}
use Rattle.history.proofs.beside.Goals as goal

pub returns-in-Before : goal.returns-in-Before
returns-in-Before c = rw c.in-Before.is (c.first.ensures.found _ (λ r b h. search rules) ∙ before-found _ c.args.w c.args.d)

pub returns-in-After : goal.returns-in-After
returns-in-After c = rw c.in-After.is (c.first-in-After.ensures.found _ (λ r b h. search rules) ∙ after-found _ c.args.w c.args.d)
