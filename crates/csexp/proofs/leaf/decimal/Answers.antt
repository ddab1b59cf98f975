-- The first digit is the number so far: the law of one more digit is left out, which would go on without end.
use Rattle.std.proofs.Common.{arith}
use Rattle.csexp.proofs.Digits.{number_next, digit-there}
use Rattle.csexp.proofs.leaf.decimal.Goals as goal

pub loop-d-init : goal.loop-d-init
loop-d-init c = grind (arith, number_next, digit-there)
