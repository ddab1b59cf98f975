-- NAVBACK and NAVFORWARD as one: where a history leads in a direction, and what the algorithms do once that is known.
use Rattle.std.specs.Prelude.{true, false, List, map, ℕ}
use Rattle.std.specs.Prelude.{Option, None as none, Some as some}
use Rattle.types.specs.declared.WindowNumber.{WindowNumber}
use Rattle.types.specs.declared.Cancelled.TheVariants.{Bare}
use Rattle.types.specs.declared.refusals.Refusal.TheVariants.{Stopped}
use Rattle.types.specs.declared.rows.Document.{Document}
use Rattle.tables.specs.Tables.{documents, Tables, update}
use Rattle.tables.specs.Rows.{setting_active}
use Rattle.wim.specs.Walks.{documents_of, active_among}
use Rattle.wim.specs.Program.{Program, refuse, revise, done, ◌>>◌}
use Rattle.wim.specs.Sending.{cancel_nav}
use Rattle.wim.specs.History.{document_before, document_after, neighbour, place_of, nav_back, nav_forward}
use Rattle.history.specs.declared.Towards.{Towards}
use Rattle.history.specs.declared.Towards.TheVariants.{Before, After}

abbrev pub nav : Towards → WindowNumber → (Program → Program) → Program
nav Before = nav_back
nav After = nav_forward

abbrev pub near : Towards → List Document → Document → Option Document
near Before = document_before
near After = document_after

-- among all documents, those of the window
abbrev pub beside : Towards → WindowNumber → List Document → Document → Option Document
beside q w ds = near q (documents_of ds w)

-- the places from which and to which it goes
abbrev pub places : Option Document → Option Document → Option (ℕ × ℕ)
places current none = none
places current (some e) = some (place_of current, e.place)

abbrev pub way_among : Towards → List Document → Option (ℕ × ℕ)
way_among q ds = places (active_among ds) (neighbour (near q) ds (active_among ds))

abbrev pub way : Towards → WindowNumber → List Document → Option (ℕ × ℕ)
way q w ds = way_among q (documents_of ds w)

-- 3 to 6 of both algorithms, as a program and as the change that it makes to the tables
abbrev pub turn : WindowNumber → ℕ → ℕ → Program
turn w from to = do
  revise documents (setting_active w from false)  -- 3
  revise documents (setting_active w to true)  -- 4
  cancel_nav (Bare w) (done none)  -- 5, 6

abbrev pub turned : WindowNumber → ℕ → ℕ → Tables → Tables
turned w from to b = update documents (map (setting_active w to true)) (update documents (map (setting_active w from false)) b)

-- 2 to 6, once it is known where the history leads; `storing` is what the step does before it moves (a trigger: nothing; a script: what it stores)
abbrev pub going : (Program → Program) → WindowNumber → Option (ℕ × ℕ) → Program
going storing w none = refuse Stopped
going storing w (some z) = storing (turn w z.0 z.1)
