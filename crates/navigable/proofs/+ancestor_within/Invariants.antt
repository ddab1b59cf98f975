-- It calls itself with a step less.
use Rattle.navigable.proofs.+ancestor_within.Given as goal

abbrev pub decreases-ancestor_within : goal.decreases-ancestor_within
decreases-ancestor_within l = l.n
