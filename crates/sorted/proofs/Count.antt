-- The rows of an array that count, `take count rows`, as a loop goes through them: n is the count that the array has room for, i the next row.
use mathlib.Core.Path.{◌≡◌, refl, sym, ap, ◌∙◌}
use mathlib.Core.Bool.{Bool, true, false}
use mathlib.Core.List.{List, [], ◌∷◌, map}
use Prim.Native.Nat.{ℕ, zero, suc, ◌+◌, ◌≤◌, ◌<◌, min}
use native.Mathlib.Nat.{min-eq_left, min-eq_right, le_of_lt}
use native.Mathlib.Numerals.{add-one}
use native.Mathlib.Omega.{arith}
use borrow.Author.Tests.{ltb-true, ltb-false}
use lib.Dec.{ltb}
use lib.ListN.{length, get_or, take, drop, drop_of_length-le, length-map, length-take}
use lib.Seq.{drop-cons, take_all, get_or-take, length-take-le}
use Rattle.sorted.specs.Table.{fill}

-- the length of an array of structs, as owning it tells it: `search mapped` at `length rows ≡ capacity`
pub mapped : (X Y : Type 0) (f : X → Y) (l : List X) (n : ℕ) → length (map f l) ≡ n → length l ≡ n
mapped X Y f l n p = sym (length-map l f) ∙ p

pub taken-fits : {A : Type 0} (count capacity : ℕ) (rows : List A) → length rows ≡ capacity → length (take count rows) ≤ capacity
taken-fits count capacity rows e = rw (length-take count rows) (omega arith)

-- of an array that was filled up, the rows that count
pub take_fill : {A : Type 0} (d : A) (n : ℕ) (l : List A) → length l ≤ n → take (length l) (fill d n l) ≡ l
take_fill d zero [] h = refl
take_fill d zero (x ∷ l) h = absurd (omega arith)
take_fill d (suc n) [] h = refl
take_fill d (suc n) (x ∷ l) h = ap (x ∷◌) (take_fill d n l (omega arith))

-- a count beyond the capacity reads as the capacity
used_take : {A : Type 0} (count capacity : ℕ) (rows : List A) → length rows ≡ capacity → take (min count capacity) rows ≡ take count rows
used_take count capacity rows len = go (ltb count capacity) refl
  where
    go : (b : Bool) → ltb count capacity ≡ b → take (min count capacity) rows ≡ take count rows
    go true e = rw (min-eq_left (le_of_lt (ltb-true count capacity e)))
    go false e =
        let h : capacity ≤ count = ltb-false count capacity e in
        rw (min-eq_right h) (take_all capacity rows (omega arith) ∙ sym (take_all count rows (omega arith)))

module _ {A : Type 0} (count capacity n : ℕ) (rows : List A) (len : length rows ≡ capacity) (counts : n ≡ min count capacity) where
  pub all-rows : take n rows ≡ take count rows
  all-rows = ap (λ (m : ℕ). take m rows) counts ∙ used_take count capacity rows len

  pub row_count : n ≡ length (take count rows)
  row_count = sym (length-take-le n rows (omega arith)) ∙ ap length all-rows

  pub next_row : (i : ℕ) (d : A) → i < n → drop i (take n rows) ≡ get_or rows i d ∷ drop (i + 1) (take n rows)
  next_row i d h =
      let l : length (take n rows) ≡ n = length-take-le n rows (omega arith) in
      rw (add-one, drop-cons (take n rows) i d (omega arith), get_or-take n rows i d h)

  pub no_row : (i : ℕ) → n ≤ i → drop i (take n rows) ≡ []
  no_row i h =
      let l : length (take n rows) ≡ n = length-take-le n rows (omega arith) in
      drop_of_length-le (take n rows) {i = i} (omega arith)
