-- How a table lies, and what a closure says of its rows.
use Rattle.std.specs.Prelude.{◌≡◌, Bool, List, ℕ, Result, Ok, Err}
use Rattle.memory.specs.Rows.{Layout}

-- a table by its constants
abbrev pub laid : {A : Type 0} → ℕ → ℕ → ℕ → (List ℕ → A) → Layout A
laid count width capacity decode = record { base = count; width = width; capacity = capacity; decode = decode }

-- a closure says of a row's head what p says of the row
abbrev pub Decides : {F H A : Type 0} → (F → H → Bool → Type 0) → F → (A → H) → (A → Bool) → Type 0
Decides post test head_of p = (r : _) (b : Bool) → post test (head_of r) b → b ≡ p r

-- a closure makes of a row what f makes of it
abbrev pub Makes : {F A : Type 0} → (F → A → A → Type 0) → F → (A → A) → Type 0
Makes post change f = (r s : _) → post change r s → s ≡ f r

-- where a row is, or where it goes
abbrev pub place_of : Result ℕ ℕ → ℕ
place_of (Ok i) = i
place_of (Err i) = i
