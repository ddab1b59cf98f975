-- What is left to seek from the place at hand is what was to be sought.
use Rattle.std.proofs.Common.{◌≡◌, ℕ, Bool, ◌+◌, ◌≤◌, length, max, drop}
use Rattle.seeking.specs.Sought.{Decides, until}
use Rattle.seeking.proofs.first.Given as goal

abbrev pub invariant-loop-i : goal.invariant-loop-i
invariant-loop-i g l = (l.i ≤ max l.at (length l.s)) × ((p : ℕ → Bool) → Decides (goal.F-post g l.test) p → l.i + until p (drop l.i l.s) ≡ l.at + until p (drop l.at l.s))
