-- A step's code changes the memory table by table, and looks once, at the end, whether there was room. The definitions judge 6 on "the tables
-- as they stand after the step": the two agree, since no table loses a row after it was given one.
use Rattle.std.specs.Prelude.{◌≡◌, Bool, true, false, not, ◌&&◌, List, [], ◌∷◌, ◌++◌, ℕ, leb, eqb, length}
use Rattle.sorted.specs.Table.{In}
use Rattle.tables.specs.Tables.{Table, cap, index, Tables}
use Rattle.browser.specs.View.{view}

-- The memory stands for the tables w: it says them; or there was no room, and one of the tables ts, which were given rows, is too long for it.
pub record Holds (ts : List Table) (w : Tables) (m : List ℕ) (room : Bool) : Type 0 where
  pub rows : room ≡ true → view m ≡ w
  pub long : room ≡ false → (t : Table) × In t ts × (leb (length (w t)) (cap t) ≡ false)

-- none of these tables is one of those
abbrev pub apart_from : Table → List Table → Bool
apart_from t [] = true
apart_from t (u ∷ us) = not (eqb (index t) (index u)) && apart_from t us

abbrev pub apart : List Table → List Table → Bool
apart [] us = true
apart (t ∷ ts) us = apart_from t us && apart ts us

-- From the memory m to the memory n the tables change by f; rows are put into the first tables and taken from the second; whether there was room for them.
pub record Carries (f : Tables → Tables) (puts drops : List Table) (m n : List ℕ) (room : Bool) : Type 0 where
  pub carry : (ts : List Table) (w : Tables) (before : Bool) → apart drops ts ≡ true → Holds ts w m before → Holds (puts ++ ts) (f w) n (room && before)
