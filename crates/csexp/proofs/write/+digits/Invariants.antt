-- It calls itself on a smaller number.
use Rattle.csexp.proofs.write.+digits.Given as goal

abbrev pub decreases-digits : goal.decreases-digits
decreases-digits l = l.n
