-- The test looks at those behind.
use Rattle.std.proofs.Common.{rules, ◌∙◌}
use mathlib.Core.Bool.{not}
use lib.ListN.{drop}
use Rattle.types.specs.Lists.{cookies_in}
use Rattle.wim.specs.Cookies.{named}
use Rattle.storing.proofs.Sifting.{sifted-latest}
use Rattle.storing.proofs.setting.latest.Goals as goal

pub returns : goal.returns
returns c = let few = cookies_in c.args.few in c.kept.ensures (λ d k. not (named d.name (drop k few))) (λ d k b h. search rules) ∙ sifted-latest few
