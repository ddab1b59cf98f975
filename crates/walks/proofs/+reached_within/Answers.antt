-- What stands above leads one step up, or ends the walk.
use Rattle.std.proofs.Common.{refl, sym}
use Rattle.walks.proofs.Up.{reached_up}
use Rattle.walks.proofs.+reached_within.Goals as goal

pub returns-in-Missing : goal.returns-in-Missing
returns-in-Missing t c = sym (reached_up _ _ _ _ _ c.if-n-eq0.false (sym c.in-Missing.ensures))

pub returns-in-Topmost : goal.returns-in-Topmost
returns-in-Topmost t c = sym (reached_up _ _ _ _ _ c.if-n-eq0.false (sym c.in-Topmost.ensures))

pub returns-then-d : goal.returns-then-d
returns-then-d t c = rw (reached_up _ _ _ _ _ c.if-n-eq0.false (sym c.in-HeldBy.ensures), c.if-d.true) c.reached_within.ensures

pub returns-else-d : goal.returns-else-d
returns-else-d t c = rw (reached_up _ _ _ _ _ c.if-n-eq0.false (sym c.in-HeldBy.ensures), c.if-d.false) refl
