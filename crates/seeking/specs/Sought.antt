-- The place where a byte that is sought first stands, from a place on.
use Rattle.std.specs.Prelude.{◌≡◌, Bool, cond, not, List, [], ◌∷◌, ℕ, suc, ◌+◌, eqb, drop}

-- how many bytes stand before the first that passes, or before the end where none does
abbrev pub until : (ℕ → Bool) → List ℕ → ℕ
until p [] = 0
until p (x ∷ s) = cond (p x) 0 (suc (until p s))

abbrev pub is : ℕ → ℕ → Bool
is b x = eqb x b

abbrev pub is_another : ℕ → ℕ → Bool
is_another b x = not (eqb x b)

-- the test with this postcondition is p
abbrev pub Decides : (ℕ → Bool → Type 0) → (ℕ → Bool) → Type 0
Decides post p = (x : ℕ) (b : Bool) → post x b → b ≡ p x

pub record Sought (p : ℕ → Bool) (s : List ℕ) (at r : ℕ) : Type 0 where
  pub exactly : r ≡ at + until p (drop at s)
