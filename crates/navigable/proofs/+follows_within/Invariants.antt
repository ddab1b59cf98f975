-- It calls itself with the opener, and a window less.
use Rattle.navigable.proofs.+follows_within.Given as goal

abbrev pub decreases-follows_within : goal.decreases-follows_within
decreases-follows_within l = l.n
