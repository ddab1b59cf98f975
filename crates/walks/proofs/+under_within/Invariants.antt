-- It calls itself with a step less.
use Rattle.walks.proofs.+under_within.Given as goal

abbrev pub decreases-under_within : goal.decreases-under_within
decreases-under_within l = l.n
