-- From row i on, the bits of the rows are there.
use Rattle.memory.specs.Rows.{table}
use Rattle.layouts.specs.Tables.{windows_in, documents_in}
use Rattle.wim.specs.Navigable.{may_navigate}
use Rattle.navigable.proofs.Masking.{Masking}
use Rattle.navigable.proofs.mask.Given as goal

abbrev pub invariant-loop-i : goal.invariant-loop-i
invariant-loop-i l = Masking (may_navigate (table windows_in l.m) (table documents_in l.m) l.o l.w) l.m l.i l.bits
