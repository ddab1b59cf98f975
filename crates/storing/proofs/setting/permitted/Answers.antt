-- The test asks for no place.
use Rattle.std.proofs.Common.{rules, ◌∙◌}
use Rattle.storing.specs.Setting.{may_set}
use Rattle.storing.proofs.Sifting.{sifted-keep}
use Rattle.storing.proofs.setting.permitted.Goals as goal

pub returns : goal.returns
returns c = let p = may_set c.args.script c.args.p in c.kept.ensures (λ d k. p d) (λ d k b h. search rules) ∙ sifted-keep p 0 _
