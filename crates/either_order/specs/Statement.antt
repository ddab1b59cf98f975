-- Demand 3: two local steps under different top-level windows, or under none, may be taken in either order (01 "Local steps, for demand 3").
use Rattle.std.specs.Prelude.{◌≡◌, true, List, ◌++◌, ℕ, ◌+◌, ◌≤◌, length}
use Rattle.std.specs.Prelude.{Option, Some as some}
use Rattle.sorted.specs.Table.{In}
use Rattle.tables.specs.Tables.{Table, cap, Tables}
use Rattle.tables.specs.Labels.{Label}
use Rattle.shapes.specs.Events.{Message}
use Rattle.shapes.specs.Texts.{item, item_in}
use Rattle.wim.specs.Nouns.{WindowNumber, Host, Item}
use Rattle.wim.specs.Step.{Accepted}
use Rattle.wim.specs.Main.{cookies_in}
use Rattle.wim.specs.Step.{fresh_labels, Browser, accepted, step}
pub use Rattle.wim.specs.Made.{Made, empty, next}
use Rattle.wim.specs.LocalSteps.{is_local, stands, hosts, names}
use Rattle.wim.specs.Wire.{Returned, rehearse}
use Rattle.wim.specs.Run.{event_line, line, play}

-- every table has eight free rows
abbrev pub EightFree : Tables → Type 0
EightFree b = (t : Table) → length (b t) + 8 ≤ cap t

-- a local step; "At most four cookies in one answer or from one script step" holds of every item that is read
pub record LocalStep (i : Item) : Type 0 where
  pub kind : is_local i.event ≡ true
  pub cookies : length (cookies_in i.cookies) ≤ 4

-- Two items that have nothing to do with one another in a browser.
pub record Apart (i j : Item) (b : Tables) : Type 0 where
  -- they don't stand under the same top-level window; one or both may stand under none
  pub tops : (t : WindowNumber) → stands i.event b ≡ some t → stands j.event b ≡ some t → ⊥
  -- no host is one of both
  pub no-host : (h : Host) → In h (hosts i.event b) → In h (hosts j.event b) → ⊥
  -- no number is brought by both, and neither names a number that the other brings
  pub new-new : (l : Label) → In l (fresh_labels i.fresh) → In l (fresh_labels j.fresh) → ⊥
  pub new-named : (l : Label) → In l (fresh_labels i.fresh) → In l (names j.event) → ⊥
  pub named_new : (l : Label) → In l (names i.event) → In l (fresh_labels j.fresh) → ⊥

-- THE DEMAND, on browsers: where either item is accepted first, the other is accepted after it, each sends what it sends when it comes
-- first, and the browser is the same in the end.
abbrev pub EitherOrder : Type 0
EitherOrder = (b : Browser) → Made b → EightFree b.tables
    → (i j : Item) → LocalStep i → LocalStep j → Apart i j b.tables
    → (bi bj : Browser) (mi mj : Option Message) → step i b ≡ accepted bi mi → step j b ≡ accepted bj mj
    → (c : Browser) × (step j bi ≡ accepted c mj) × (step i bj ≡ accepted c mi)

-- The same on texts and buffers: each text gets the verdict, writes the count of bytes and leaves the buffer that it does when it comes first.
-- The buffers and places that are lent may be any with room for the two events.
pub record SameLine (r s : Returned) : Type 0 where
  pub verdict : r.verdict ≡ s.verdict
  pub count : r.count ≡ s.count
  pub buffer : r.buffer ≡ s.buffer

abbrev pub EitherOrderOnTexts : Type 0
EitherOrderOnTexts = (b : Browser) → Made b → EightFree b.tables
    → (s u : List ℕ) (i j : Item) → item_in s ≡ item i → item_in u ≡ item j → is_local i.event ≡ true → is_local j.event ≡ true → Apart i j b.tables
    → (out lent : List ℕ) (place from : ℕ)
    → (rehearse s b out place).verdict ≡ Accepted → (rehearse u b lent from).verdict ≡ Accepted
    → SameLine (rehearse u (rehearse s b out place).browser lent from) (rehearse u b lent from)
    × SameLine (rehearse s (rehearse u b lent from).browser out place) (rehearse s b out place)
    × ((rehearse u (rehearse s b out place).browser lent from).browser ≡ (rehearse s (rehearse u b lent from).browser out place).browser)

-- The same in a player's run: the two items, one behind the other and before whatever follows, print the same two lines and then the same.
abbrev pub EitherOrderInARun : Type 0
EitherOrderInARun = (b : Browser) → Made b → EightFree b.tables
    → (s u : List ℕ) (i j : Item) → item_in s ≡ item i → item_in u ≡ item j → is_local i.event ≡ true → is_local j.event ≡ true → Apart i j b.tables
    → (bi bj : Browser) (mi mj : Option Message) → step i b ≡ accepted bi mi → step j b ≡ accepted bj mj
    → (r : List ℕ) → (rest : List ℕ)
    × (play (s ++ (u ++ r)) b ≡ line (event_line mi) ++ (line (event_line mj) ++ rest))
    × (play (u ++ (s ++ r)) b ≡ line (event_line mj) ++ (line (event_line mi) ++ rest))
