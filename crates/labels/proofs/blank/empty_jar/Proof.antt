-- As the definition says.
use mathlib.Core.Path.{refl}
use Rattle.tables.specs.Rows.{jar}
use Rattle.labels.proofs.blank.empty_jar.Statement.{statement}
use Rattle.labels.proofs.blank.empty_jar.Tie as tie

pub empty_jar_spec : {M : Type 1} → statement M
unfolding jar
empty_jar_spec = tie.close (tie.spec (λ c. refl))
