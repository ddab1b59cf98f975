use Rattle.std.proofs.Common.{◌≡◌, ◌-◌, length}
use Rattle.csexp.specs.Answers.{fields_at}
use Rattle.shapes.specs.Items.{more_headers, no_headers}
use Rattle.reading_answers.proofs.headers.more_headers.Given as goal

abbrev pub invariant-loop-end : goal.invariant-loop-end
invariant-loop-end l = fields_at (more_headers no_headers) l.s l.at ≡ fields_at (more_headers l.value) l.s l.next

abbrev pub decreases-loop-end : goal.decreases-loop-end
decreases-loop-end l = length l.s - l.next
