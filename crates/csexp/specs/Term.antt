-- The terms of canonical S-expressions (RFC 9804), and how each is written.
use Rattle.std.specs.Prelude.{cond, List, [], ◌∷◌, ◌++◌, ℕ, zero, suc, ◌+◌, ◌/◌, ◌%◌, max, length, ltb}

-- A term is an atom, which is a string of bytes, or a list of terms.
mutual
  pub data Term : Type 0 where
    atom : List ℕ → Term
    list : Terms → Term

  pub data Terms : Type 0 where
    nil : Terms
    cons : Term → Terms → Terms

-- The decimal digits of n, without leading zeros. The first argument bounds how many there are.
unfoldable pub digits : ℕ → ℕ → List ℕ
digits zero n = []
digits (suc f) n = let more = digits f (n / 10) ++ ((48 + n % 10) ∷ []) in cond (ltb n 10) ((48 + n) ∷ []) more

unfoldable pub decimal : ℕ → List ℕ
decimal n = digits (suc n) n

-- An atom is its length, ':' and its bytes. A list is '(', its terms and ')'.
unfoldable mutual
  pub write : Term → List ℕ
  write (atom bs) = decimal (length bs) ++ (58 ∷ bs)
  write (list ts) = 40 ∷ (writes ts ++ (41 ∷ []))

  pub writes : Terms → List ℕ
  writes nil = []
  writes (cons t ts) = write t ++ writes ts

-- How many lists stand inside one another: 0 of an atom, 1 of a list of atoms.
unfoldable mutual
  pub levels : Term → ℕ
  levels (atom bs) = 0
  levels (list ts) = suc (levels_in ts)

  pub levels_in : Terms → ℕ
  levels_in nil = 0
  levels_in (cons t ts) = max (levels t) (levels_in ts)
