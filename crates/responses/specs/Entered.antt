-- What a new document finds in a window with the history h (000 A8:35 to 43), and what it does there (A8:41 to 44).
use Rattle.std.specs.Prelude.{◌≡◌, false, List, [], ◌∷◌, map, suc, length}
use Rattle.types.specs.declared.WindowNumber.{WindowNumber}
use Rattle.types.specs.declared.rows.Document.{Document}
use Rattle.sorted.specs.Table.{put}
use Rattle.tables.specs.Tables.{documents, Tables, update, apply}
use Rattle.tables.specs.Rows.{setting_active}
use Rattle.wim.specs.Walks.{active_among, Removal}
use Rattle.wim.specs.History.{place_of}
use Rattle.wim.specs.Program.{observed, history, under}
use Rattle.wim.specs.Response.{later_than, up_to}
use Rattle.removing.specs.Gone.{going, removed}
use Rattle.responses.specs.declared.loading.Spot.{Spot}

-- what goes: the documents behind the active one of the window v, with everything under them
abbrev pub behind : WindowNumber → Tables → Removal
behind v b = observed (under (map (λ (d : Document). d.number) (later_than (active_among (observed (history v) b)) (observed (history v) b)))) b

-- the place of the active document, its own, and what goes
pub record Finds (h : List Document) (goes : Removal) (s : Spot) : Type 0 where
  pub was : s.was ≡ place_of (active_among h)
  pub place : s.place ≡ suc (length (up_to (active_among h) h))
  pub gone : going s.gone ≡ goes

-- the edits of `wim`, as a function; the document that was active stands at the place `was`
abbrev pub entered : Spot → Document → Tables → Tables
entered s row b =
    apply documents (put row ∷ [])
    (update documents (map (setting_active row.window s.was false))
    (removed (going s.gone).windows (going s.gone).documents b))
