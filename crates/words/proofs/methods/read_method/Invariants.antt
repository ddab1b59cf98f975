-- What no row so far says, the others say.
use Rattle.std.proofs.Common.{◌≡◌, drop}
use Rattle.csexp.specs.Answers.{value_at}
use Rattle.shapes.specs.Items.{method_of}
use Rattle.words.proofs.Attempts.{first_found}
use Rattle.words.proofs.methods.read_method.Given as goal

abbrev pub invariant-loop-method : goal.invariant-loop-method
invariant-loop-method l = value_at method_of l.s l.at ≡ first_found l.s l.at (drop l.method-index l.method-items)
