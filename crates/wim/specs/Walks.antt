-- Windows and the documents that hold them: what is reached, what stands above, what stands under (000 Definitions 29 to 31 and 34).
-- Parents are followed upward, at most 32 steps (01 "What a step does").
use Rattle.std.specs.Prelude.{Bool, false, cond, ◌||◌, List, map, ℕ, zero, suc}
use Rattle.std.specs.Prelude.{Option, None as none, Some as some}
use Rattle.sorted.specs.Table.{find, keep, is_some, at}
use Rattle.tables.specs.Tables.{windows, key_of, cmp}
use Rattle.tables.specs.Rows.{same_window, same_document, one_of, origin_of, same_origin}
use Rattle.wim.specs.Nouns.{WindowNumber, DocumentNumber, Origin, Window, Document, Parent, Top, Under}

-- the documents of a window in the order of its history, and the active one among them (Definition 29)
unfoldable pub documents_of : List Document → WindowNumber → List Document
documents_of ds w = keep (λ (d : Document). same_window d.window w) ds

abbrev pub active_among : List Document → Option Document
active_among ds = find (λ (d : Document). d.active) ds

unfoldable pub active_document : List Document → WindowNumber → Option Document
active_document ds w = active_among (documents_of ds w)

unfoldable pub window_numbered : List Window → WindowNumber → Option Window
window_numbered ws w = at (key_of windows) (cmp windows) w.0 ws

unfoldable pub document_numbered : List Document → DocumentNumber → Option Document
document_numbered ds n = find (λ (d : Document). same_document d.number n) ds

-- 01: "A window with no document has the origin of none."
abbrev pub has_origin : Origin → Option Document → Bool
has_origin o none = false
has_origin o (some d) = same_origin (origin_of d) o

-- What stands above a window: the document that holds it, nothing (it is a top-level window), or it isn't there at all. Walks go by these three cases.
pub data Above : Type 0 where
  missing : Above
  topmost : Above
  held_by : Document → Above

abbrev pub above_document : Option Document → Above
above_document none = missing
above_document (some d) = held_by d

abbrev pub above_parent : List Document → Parent → Above
above_parent ds Top = topmost
above_parent ds (Under n) = above_document (document_numbered ds n)

abbrev pub above_row : List Document → Option Window → Above
above_row ds none = missing
above_row ds (some r) = above_parent ds r.parent

unfoldable pub above : List Window → List Document → WindowNumber → Above
above ws ds w = above_row ds (window_numbered ws w)

abbrev pub steps : ℕ
steps = 32

-- The top-level window above a window; inactive documents count on the way up.
abbrev pub top_at : (WindowNumber → Option WindowNumber) → WindowNumber → Above → Option WindowNumber
top_at up w missing = none
top_at up w topmost = some w
top_at up w (held_by d) = up d.window

unfoldable pub top_above : ℕ → List Window → List Document → WindowNumber → Option WindowNumber
top_above zero ws ds w = none
top_above (suc n) ws ds w = top_at (top_above n ws ds) w (above ws ds w)

-- Definition 34: the top-level window from which a window is reached through active documents, if it is in Subwindows.
abbrev pub reached_at : (WindowNumber → Option WindowNumber) → WindowNumber → Above → Option WindowNumber
reached_at up w missing = none
reached_at up w topmost = some w
reached_at up w (held_by d) = cond d.active (up d.window) none

unfoldable pub reached_from : ℕ → List Window → List Document → WindowNumber → Option WindowNumber
reached_from zero ws ds w = none
reached_from (suc n) ws ds w = reached_at (reached_from n ws ds) w (above ws ds w)

abbrev pub is_reached : List Window → List Document → WindowNumber → Bool
is_reached ws ds w = is_some (reached_from steps ws ds w)

-- One of these documents stands above the window, on whatever level.
abbrev pub under_at : (WindowNumber → Bool) → List DocumentNumber → Above → Bool
under_at up gone missing = false
under_at up gone topmost = false
under_at up gone (held_by d) = one_of d.number gone || up d.window

unfoldable pub is_under : ℕ → List Window → List Document → List DocumentNumber → WindowNumber → Bool
is_under zero ws ds gone w = false
is_under (suc n) ws ds gone w = under_at (is_under n ws ds gone) gone (above ws ds w)

-- What goes when these documents go: they themselves and all windows and documents under them, on all levels, under inactive documents too.
pub record Removal : Type 0 where
  pub windows : List WindowNumber
  pub documents : List DocumentNumber

unfoldable pub removal : List Window → List Document → List DocumentNumber → Removal
removal ws ds gone = record {
  windows = map (λ (r : Window). r.number) (keep (λ (r : Window). is_under steps ws ds gone r.number) ws);
  documents = map (λ (d : Document). d.number) (keep (λ (d : Document). one_of d.number gone || is_under steps ws ds gone d.window) ds);
}
