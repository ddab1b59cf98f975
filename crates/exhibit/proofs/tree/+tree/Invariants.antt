-- The cycle of calls write_windows → write_window → document_items → write_whole or write_limited → write_windows (000 Definition 35).
-- The measure is four for each level that is left, and up to three more by the place in the cycle: only a list of windows takes a level. Of the loop, the rows before i are done.
use Rattle.std.proofs.Common.{◌+◌, ◌-◌, ◌*◌}
use Rattle.browser.specs.View.{view}
use Rattle.layouts.specs.Tables.{windows_in}
use Rattle.exhibit.specs.Levels.{hangs}
use Rattle.exhibit_parts.proofs.Passing.{Passing}
use Rattle.exhibit.proofs.Trees.{of_window}
use Rattle.exhibit.proofs.tree.+tree.Given as goal

abbrev pub decreases-document_items : goal.decreases-document_items
decreases-document_items l = 4 * l.levels + 2

abbrev pub decreases-write_limited : goal.decreases-write_limited
decreases-write_limited l = 4 * l.levels + 1

abbrev pub decreases-write_whole : goal.decreases-write_whole
decreases-write_whole l = 4 * l.levels + 1

abbrev pub decreases-write_window : goal.decreases-write_window
decreases-write_window l = 4 * l.levels + 3

abbrev pub decreases-write_windows : goal.decreases-write_windows
decreases-write_windows l = 4 * l.levels

abbrev pub invariant-write_windows-loop-i : goal.invariant-write_windows-loop-i
invariant-write_windows-loop-i l = Passing windows_in (hangs l.place) (of_window (l.levels - 1) (view l.m) l.origin) l.m l.i-end l.i l.initial.out l.initial.p l.out l.p
