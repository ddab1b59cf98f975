-- It calls itself on a smaller number.
use Rattle.csexp.proofs.write.+width.Given as goal

abbrev pub decreases-width : goal.decreases-width
decreases-width l = l.n
