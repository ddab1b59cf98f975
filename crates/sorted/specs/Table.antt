-- Tables: lists of rows in rising order of a key, over any row and key.
use Rattle.std.specs.Prelude.{◌≡◌, ◌⊎◌, Bool, true, false, cond, not, List, [], ◌∷◌, ◌++◌, ℕ, zero, suc, leb, length, take, drop as behind}
use Rattle.std.specs.Prelude.{Option, None as none, Some as some}
use Rattle.std.specs.declared.cmp.Ordering.{Ordering as Order}
use Rattle.std.specs.declared.cmp.Ordering.TheVariants.{Less as Before, Equal as Same, Greater as After}
use Rattle.sorted.specs.Order.{same, after}

-- ROWS OF ANY LIST.
module _ {A : Type 0} where
  -- the first row that passes a test
  unfoldable pub find : (A → Bool) → List A → Option A
  find p [] = none
  find p (x ∷ l) = cond (p x) (some x) (find p l)

  -- all that pass
  unfoldable pub keep : (A → Bool) → List A → List A
  keep p [] = []
  keep p (x ∷ l) = cond (p x) (x ∷ keep p l) (keep p l)

  abbrev pub In : A → List A → Type 0
  In x [] = ⊥
  In x (y ∷ l) = (x ≡ y) ⊎ In x l

  -- a fact of each member of a list that is written out: its proof is a tuple
  abbrev pub All : (A → Type 0) → List A → Type 0
  All P [] = Unit {0}
  All P (x ∷ l) = P x × All P l

  abbrev pub is_some : Option A → Bool
  is_some none = false
  is_some (some x) = true

-- ONE CHANGE OF A TABLE: a row is put in, in the place of the one with its key; the row with a key goes; only rows that pass stay.
pub data Edit (R K : Type 0) : Type 0 where
  put : R → Edit R K
  drop : K → Edit R K
  sift : (R → Bool) → Edit R K

module _ {R K : Type 0} (key : R → K) (cmp : K → K → Order) where
  -- rows in rising order
  abbrev pub Sorted : List R → Type 0
  Sorted [] = Unit {0}
  Sorted (x ∷ l) = ((y : R) → In y l → cmp (key x) (key y) ≡ Before) × Sorted l

  -- the row with a key
  abbrev pub at : K → List R → Option R
  at k l = find (λ x. same (cmp k (key x))) l

  -- r before x, in the place of x, or further on
  abbrev pub place : Order → R → R → List R → List R → List R
  place Before r x l further = r ∷ (x ∷ l)
  place Same r x l further = r ∷ l
  place After r x l further = x ∷ further

  unfoldable pub insert : R → List R → List R
  insert r [] = r ∷ []
  insert r (x ∷ l) = place (cmp (key r) (key x)) r x l (insert r l)

  abbrev pub remove : K → List R → List R
  remove k l = keep (λ x. not (same (cmp k (key x)))) l

  abbrev pub act : Edit R K → List R → List R
  act (put r) l = insert r l
  act (drop k) l = remove k l
  act (sift p) l = keep p l

  -- one edit after the other
  abbrev pub acts : List (Edit R K) → List R → List R
  acts [] l = l
  acts (e ∷ es) l = acts es (act e l)

  -- how a row that is to go in stands to a row of the table
  abbrev pub stand : R → R → Order
  stand r x = cmp (key r) (key x)

-- WHAT THE CODE'S FUNCTIONS ENSURE. A table of the code is an array of `capacity` rows and a count; its rows are `take count rows`.

-- what a lookup hands back: the row, where `found` says so
abbrev pub looked : {A : Type 0} → Bool → A → Option A
looked true r = some r
looked false r = none

-- an array of n: the list, and behind it d as often as need be
abbrev pub fill : {A : Type 0} → A → ℕ → List A → List A
fill d zero l = []
fill d (suc n) [] = d ∷ fill d n []
fill d (suc n) (x ∷ l) = x ∷ fill d n l

-- r at p, and the rows from p on behind it
abbrev pub opened : {A : Type 0} → ℕ → A → List A → List A
opened p r l = take p l ++ r ∷ behind p l

-- the search for the place of a row, where `c` says how that stands to a row of the table
module _ {A : Type 0} (c : A → Order) where
  -- how many rows stand before it
  unfoldable pub lower : List A → ℕ
  lower [] = 0
  lower (x ∷ l) = cond (after (c x)) (suc (lower l)) 0

  -- whether the next has its key
  unfoldable pub has : List A → Bool
  has [] = false
  has (x ∷ l) = cond (after (c x)) (has l) (same (c x))

pub record Sought {A : Type 0} (c : A → Order) (count capacity : ℕ) (rows : List A) (at : ℕ) (hit : Bool) (used : ℕ) : Type 0 where
  pub len : length rows ≡ capacity
  pub place : at ≡ lower c (take count rows)
  pub there : hit ≡ has c (take count rows)
  pub size : used ≡ length (take count rows)

-- rows were to go in: whether there was room, and the table if there was; where there was none, nothing is said of it
pub record Offered {A : Type 0} (capacity : ℕ) (wished given : List A) (done : Bool) : Type 0 where
  pub had : done ≡ leb (length wished) capacity
  pub rows : done ≡ true → given ≡ wished
