use Rattle.std.proofs.Common.{take}
use Rattle.csexp.specs.Encode.{each}
use Rattle.csexp.specs.Puts.{Items}
use Rattle.shapes.specs.Events.{pair_term}
use Rattle.writing.proofs.cookies.pair_items.Given as goal

-- the first pairs were written
abbrev pub invariant-loop-pair : goal.invariant-loop-pair
invariant-loop-pair l = Items (each pair_term (take l.pair-index l.pair-items)) l.fn.out l.fn.at l.out l.p
