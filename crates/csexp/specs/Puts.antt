-- What a writer leaves in a slice. A writer takes a position, stores its bytes from there on as far as the slice reaches, and hands back
-- the position behind them, whether they fitted or not: past the end it only counts.
use Rattle.std.specs.Prelude.{◌≡◌, List, [], ◌∷◌, ◌++◌, ℕ, ◌+◌, min, set}
use Rattle.csexp.specs.Term.{Term, atom, Terms, write, writes}

-- the largest position; a count stops there, and no slice is that long
abbrev pub top : ℕ
top = 18446744073709551615

-- A slice and a position, with the bytes put one by one: each is stored if the slice has that place (`set` past the end changes nothing).
unfoldable pub put : List ℕ → List ℕ × ℕ → List ℕ × ℕ
put [] x = x
put (b ∷ bs) (s, at) = put bs (set s at b, min (at + 1) top)

-- The bytes bs were put into s at `at`: s₂ is left, and p is the position behind them.
pub record Puts (bs s : List ℕ) (at : ℕ) (s₂ : List ℕ) (p : ℕ) : Type 0 where
  pub exactly : (s₂, p) ≡ put bs (s, at)

-- the same of a term
pub record Writes (t : Term) (s : List ℕ) (at : ℕ) (s₂ : List ℕ) (p : ℕ) : Type 0 where
  pub puts : Puts (write t) s at s₂ p

-- the same of some terms
pub record Items (ts : Terms) (s : List ℕ) (at : ℕ) (s₂ : List ℕ) (p : ℕ) : Type 0 where
  pub puts : Puts (writes ts) s at s₂ p

-- the same of the terms that are left of a list, and its ')'
pub record Rest (ts : Terms) (s : List ℕ) (at : ℕ) (s₂ : List ℕ) (p : ℕ) : Type 0 where
  pub puts : Puts (writes ts ++ (41 ∷ [])) s at s₂ p

-- the same of the '(' and the first word of a list
pub record Opens (w s : List ℕ) (at : ℕ) (s₂ : List ℕ) (p : ℕ) : Type 0 where
  pub puts : Puts (40 ∷ write (atom w)) s at s₂ p
