-- It calls itself with a step less.
use Rattle.walks.proofs.+reached_within.Given as goal

abbrev pub decreases-reached_within : goal.decreases-reached_within
decreases-reached_within l = l.n
