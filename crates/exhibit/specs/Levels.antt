-- The tree as the code has it: the windows that hang at a place, and what stands in a window.
use Rattle.std.specs.Prelude.{Bool, ℕ}
use Rattle.std.specs.Prelude.{Option, None as none, Some as some}
use Rattle.csexp.specs.Term.{Terms, nil, cons}
use Rattle.sorted.specs.Table.{keep}
use Rattle.tables.specs.Tables.{windows, Tables}
use Rattle.wim.specs.Nouns.{Origin, Parent, Top, Under, Window, Document}
use Rattle.wim.specs.Shown.{is_top_window, is_under_document, document_term, tree}

-- a window hangs at the top, or under this document
abbrev pub hangs_under : Parent → Parent → Bool
hangs_under Top p = is_top_window p
hangs_under (Under n) p = is_under_document n p

abbrev pub hangs : Parent → Window → Bool
hangs place r = hangs_under place r.parent

-- the windows that hang there, with what stands in them
abbrev pub windows_under : ℕ → Tables → Origin → Parent → Terms
windows_under n b o place = tree n b o (keep (hangs place) (b windows))

abbrev pub below : ℕ → Tables → Origin → Document → Terms
below n b o d = windows_under n b o (Under d.number)

-- what stands in a window, by its active document
abbrev pub within : ℕ → Tables → Origin → Option Document → Terms
within n b o none = nil
within n b o (some d) = cons (document_term b o d (below n b o d)) nil
