-- 01: "A term reads a list, a list reads terms, and the text left grows shorter". The measure is the length of the text that is left,
-- counted double, since a list calls for a term at its own position and so stands one above it; a term calls for a list behind its '(',
-- where there is less text. The loop's invariant: what stands from p on says what stands from `at` on.
use Rattle.std.proofs.Common.{◌≡◌, ◌+◌, ◌-◌, ◌*◌, ◌≤◌, length}
use Rattle.csexp.specs.At.{behind}
use Rattle.csexp.specs.Answers.{fields_at}
use Rattle.csexp.specs.Limits.{shallows}
use Rattle.csexp.proofs.cycle.+more_terms_one_term.Given as goal

abbrev pub decreases-more_terms : goal.decreases-more_terms
decreases-more_terms l = 2 * (length l.s.now - l.at) + 1

abbrev pub decreases-one_term : goal.decreases-one_term
decreases-one_term l = 2 * (length l.s.now - l.at)

abbrev pub invariant-more_terms-loop-e : goal.invariant-more_terms-loop-e
invariant-more_terms-loop-e l = record {
  forward : l.at ≤ l.p;
  same : behind (fields_at (shallows l.levels) l.s l.at) ≡ behind (fields_at (shallows l.levels) l.s l.p);
}

abbrev pub decreases-more_terms-loop-e : goal.decreases-more_terms-loop-e
decreases-more_terms-loop-e l = length l.s - l.p
