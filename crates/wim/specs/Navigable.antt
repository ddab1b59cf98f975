-- 000 Definition 38: the windows that the active document of a window may navigate, as the least set under its four rules; and how it is
-- computed, as a test, as a mask with a bit for each window row, and as its size.
use Rattle.std.specs.Prelude.{◌≡◌, ◌⊎◌, Bool, true, false, ◌&&◌, ◌||◌, List, [], ◌∷◌, ℕ, zero, suc, ◌+◌, ◌*◌, length}
use Rattle.std.specs.Prelude.{Option, None as none, Some as some}
use Rattle.sorted.specs.Order.{bit}
use Rattle.sorted.specs.Table.{keep}
use Rattle.tables.specs.Rows.{same_window, origin_of}
use Rattle.wim.specs.Nouns.{WindowNumber, Origin, Window, Document, Opener, Nobody, OpenedBy}
use Rattle.wim.specs.Walks.{active_document, window_numbered, has_origin, Above, missing, topmost, held_by, above, steps, reached_from, is_reached}

-- v is a child of p in the active document of p, or of a child of p (Definition 31, childof⁺)
pub data ChildOf⁺ (ws : List Window) (ds : List Document) : WindowNumber → WindowNumber → Type 0 where
  child : {v : WindowNumber} {d : Document} → above ws ds v ≡ held_by d → d.active ≡ true → ChildOf⁺ ws ds v d.window
  further : {v p : WindowNumber} {d : Document} → above ws ds v ≡ held_by d → d.active ≡ true → ChildOf⁺ ws ds d.window p → ChildOf⁺ ws ds v p

-- v is p, or a child of it on whatever level (childof*)
abbrev pub ChildOf* : List Window → List Document → WindowNumber → WindowNumber → Type 0
ChildOf* ws ds v p = (v ≡ p) ⊎ ChildOf⁺ ws ds v p

-- the active document of v has the origin of the script's document
abbrev pub HasOrigin : List Document → Origin → WindowNumber → Type 0
HasOrigin ds o v = has_origin o (active_document ds v) ≡ true

abbrev pub opened_by : Option Window → Opener
opened_by none = Nobody
opened_by (some r) = r.opener

abbrev pub opener_of : List Window → WindowNumber → Opener
opener_of ws v = opened_by (window_numbered ws v)

-- For a script of origin o in the window w. The four rules speak of reached windows only, Subwindows(s').
pub data Navigable (ws : List Window) (ds : List Document) (o : Origin) (w : WindowNumber) : WindowNumber → Type 0 where
  -- "the active documents in w and w' are same-origin"
  same-origin : {v : WindowNumber} → is_reached ws ds v ≡ true → HasOrigin ds o v → Navigable ws ds o w v
  -- "w' is a top-level window", and w is it or a child of it: no window stands above v
  top-level : {v : WindowNumber} → is_reached ws ds v ≡ true → is_reached ws ds w ≡ true → ChildOf* ws ds w v → above ws ds v ≡ topmost → Navigable ws ds o w v
  -- "there is an ancestor window p of w' with an active document that has the same origin"
  ancestor : {v p : WindowNumber} → is_reached ws ds v ≡ true → ChildOf⁺ ws ds v p → HasOrigin ds o p → Navigable ws ds o w v
  -- "w is allowed to navigate the opener window of w'", which is reached
  opened : {v p : WindowNumber} → is_reached ws ds v ≡ true → opener_of ws v ≡ OpenedBy p → is_reached ws ds p ≡ true → Navigable ws ds o w p → Navigable ws ds o w v

-- Computed. Some window above v has the origin:
abbrev pub ancestor_at : (WindowNumber → Bool) → List Document → Origin → Above → Bool
ancestor_at up ds o missing = false
ancestor_at up ds o topmost = false
ancestor_at up ds o (held_by d) = d.active && (has_origin o (active_document ds d.window) || up d.window)

unfoldable pub ancestor_has : ℕ → List Window → List Document → Origin → WindowNumber → Bool
ancestor_has zero ws ds o v = false
ancestor_has (suc n) ws ds o v = ancestor_at (ancestor_has n ws ds o) ds o (above ws ds v)

abbrev pub is_window : WindowNumber → Option WindowNumber → Bool
is_window v none = false
is_window v (some w) = same_window v w

-- the first three rules; the top-level window above w is the one from which it is reached
unfoldable pub navigable_directly : List Window → List Document → Origin → WindowNumber → WindowNumber → Bool
navigable_directly ws ds o w v = has_origin o (active_document ds v) || (is_window v (reached_from steps ws ds w) || ancestor_has steps ws ds o v)

-- all four: openers are followed at most as often as there are windows
unfoldable pub follows : ℕ → List Window → List Document → Origin → WindowNumber → WindowNumber → Bool
follows zero ws ds o w v = false
follows (suc n) ws ds o w v =
    let opener = elim (opener_of ws v) as (λ _. Bool) [ Nobody ↦ false | OpenedBy p ↦ follows n ws ds o w p ] in
    is_reached ws ds v && (navigable_directly ws ds o w v || opener)

abbrev pub may_navigate : List Window → List Document → Origin → WindowNumber → WindowNumber → Bool
may_navigate ws ds o w v = follows (suc (length ws)) ws ds o w v

-- "It is given as one number with a bit for each window row, lowest number first, and its size is the count of those bits."
abbrev pub mask_of : (WindowNumber → Bool) → List Window → ℕ
mask_of p [] = 0
mask_of p (r ∷ rs) = bit (p r.number) + 2 * mask_of p rs

-- of an unreached window, and of one without a document, it is 0 (DECISIONS 29)
abbrev pub when_displayed : {A : Type 0} → A → Bool → Option Document → (Origin → A) → A
when_displayed {A} x false d f = x
when_displayed {A} x true none f = x
when_displayed {A} x true (some d) f = f (origin_of d)

unfoldable pub navigable_mask : List Window → List Document → WindowNumber → ℕ
navigable_mask ws ds w = when_displayed 0 (is_reached ws ds w) (active_document ds w) (λ o. mask_of (may_navigate ws ds o w) ws)

unfoldable pub navigable_size : List Window → List Document → WindowNumber → ℕ
navigable_size ws ds w = when_displayed 0 (is_reached ws ds w) (active_document ds w) (λ o. length (keep (λ (r : Window). may_navigate ws ds o w r.number) ws))
