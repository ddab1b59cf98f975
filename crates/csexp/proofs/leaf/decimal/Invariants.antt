-- The number is `value` with the digits from `next` on behind it.
use Rattle.std.proofs.Common.{◌≡◌, ◌-◌, ◌≤◌, length}
use Rattle.csexp.specs.At.{number_at}
use Rattle.csexp.proofs.Digits.{run_at}
use Rattle.csexp.proofs.leaf.decimal.Given as goal

abbrev pub invariant-loop-d : goal.invariant-loop-d
invariant-loop-d l = record { so_far : number_at l.s l.at ≡ run_at l.value l.s l.next; within : l.next ≤ length l.s; small : l.value ≤ l.cap }

abbrev pub decreases-loop-d : goal.decreases-loop-d
decreases-loop-d l = length l.s - l.next
