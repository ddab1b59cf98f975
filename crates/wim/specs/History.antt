-- 000 Algorithms 5 and 6, NAVBACK and NAVFORWARD.
use Rattle.std.specs.Prelude.{true, false, List, ℕ, suc, eqb}
use Rattle.std.specs.Prelude.{Option, None as none, Some as some}
use Rattle.sorted.specs.Table.{find}
use Rattle.tables.specs.Tables.{documents}
use Rattle.tables.specs.Rows.{setting_active}
use Rattle.wim.specs.Nouns.{WindowNumber, Bare, Document, Stopped}
use Rattle.wim.specs.Walks.{active_among}
use Rattle.wim.specs.Program.{Program, ask, revise, refuse, done, history, ◌>>=◌, ◌>>◌}
use Rattle.wim.specs.Sending.{cancel_nav}

-- the document before, and the document after another in its history
abbrev pub document_before : List Document → Document → Option Document
document_before ds d = find (λ (e : Document). eqb (suc e.place) d.place) ds

abbrev pub document_after : List Document → Document → Option Document
document_after ds d = find (λ (e : Document). eqb e.place (suc d.place)) ds

abbrev pub neighbour : (List Document → Document → Option Document) → List Document → Option Document → Option Document
neighbour towards ds none = none
neighbour towards ds (some d) = towards ds d

abbrev pub place_of : Option Document → ℕ
place_of none = 0
place_of (some d) = d.place

-- 2 to 6 of both algorithms; `storing` is what the step does before it moves (a trigger: nothing; a script: what it stores)
unfoldable pub moved : WindowNumber → (Program → Program) → List Document → Option Document → Program
moved w storing ds none = refuse Stopped
moved w storing ds (some e) = do
  storing
  revise documents (setting_active w (place_of (active_among ds)) false)  -- 3
  revise documents (setting_active w e.place true)  -- 4
  cancel_nav (Bare w) (done none)  -- 5, 6

-- ALGORITHM 5, NAVBACK(w', s').
unfoldable pub nav_back : WindowNumber → (Program → Program) → Program
nav_back w storing = do
  ds ← ask (history w)
  moved w storing ds (neighbour document_before ds (active_among ds))

-- ALGORITHM 6, NAVFORWARD(w', s').
unfoldable pub nav_forward : WindowNumber → (Program → Program) → Program
nav_forward w storing = do
  ds ← ask (history w)
  moved w storing ds (neighbour document_after ds (active_among ds))
