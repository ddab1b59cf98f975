use Rattle.std.proofs.Common.{◌-◌}
use Rattle.shapes.specs.Items.{cookie_of}
use Rattle.csexp.proofs.Filling.{Filling}
use Rattle.reading_parts.proofs.Blanks.{Blank}
use Rattle.reading_parts.proofs.cookies.more_cookies.Given as goal

abbrev pub invariant-loop-end : goal.invariant-loop-end
invariant-loop-end l = record { read : Filling cookie_of 4 l.s l.at l.value.rows l.value.count l.next; blank : Blank l.value.rows l.value.count }

abbrev pub decreases-loop-end : goal.decreases-loop-end
decreases-loop-end l = 4 - l.value.count
