-- The windows that go: one more at the front.
use mathlib.Core.Path.{◌≡◌, refl, sym, ◌∙◌, ap}
use mathlib.Core.Bool.{Bool, true, false}
use mathlib.Core.List.{List, [], ◌∷◌, ◌++◌}
use Prim.Native.Nat.{ℕ, ◌+◌, ◌-◌, ◌≤◌, min}
use native.Mathlib.Nat.{min-eq_left, min-eq_right}
use native.Mathlib.Numerals.{add-one}
use native.Mathlib.Omega.{arith}
use borrow.Author.Tests.{leb-true, leb-false}
use lib.Dec.{leb}
use lib.ListN.{length, take, drop, set, length-map, length-take, length-drop}
use lib.Seq.{take_all, take-take}
use Rattle.types.specs.declared.DocumentNumber.{DocumentNumber}
use Rattle.types.specs.declared.WindowNumber.{WindowNumber}
use Rattle.types.specs.declared.rows.Document.{Document}
use Rattle.types.specs.declared.rows.Window.{Window}
use Rattle.sorted.specs.Table.{keep}
use Rattle.sorted.proofs.Member.{length_keep}
use Rattle.wim.specs.Walks.{steps, is_under, Removal, removal}
use Rattle.wim.specs.Script.{with_window}

module _ {A : Type 0} (capacity count : ℕ) (rows : List A) where
  fewer : take (min count capacity) rows ≡ take capacity (take count rows)
  fewer = go (leb count capacity) refl
    where
      go : (x : Bool) → leb count capacity ≡ x → take (min count capacity) rows ≡ take capacity (take count rows)
      go true e =
          let h = leb-true count capacity e in
          let l = length-take count rows in
          ap (λ (n : ℕ). take n rows) (min-eq_left h) ∙ sym (take_all capacity (take count rows) (omega arith))
      go false e =
          let h = leb-false count capacity e in
          let k : capacity ≤ count = omega arith in
          ap (λ (n : ℕ). take n rows) (min-eq_right k) ∙ sym (take-take capacity count rows k)

  -- as many as there may be, and one before them
  pub front : (n : ℕ) (v : A) (given : List A) → n ≡ min count capacity → given ≡ take (capacity + 1) (v ∷ rows) → take (n + 1) given ≡ v ∷ take capacity (take count rows)
  front n v given e f =
      ap (take (n + 1)) f ∙ take-take (n + 1) (capacity + 1) (v ∷ rows) (omega arith)
      ∙ ap (λ (k : ℕ). take k (v ∷ rows)) (add-one n)
      ∙ ap (λ (k : ℕ). v ∷ take k rows) e
      ∙ ap (λ (l : List A). v ∷ l) fewer

-- WHAT GOES WITH A WINDOW.
module _ (ws : List Window) (ds : List Document) (capacity : ℕ) (fits : length ws ≤ capacity) where
  -- under documents there are no more windows than there are
  under-fits : (own : List DocumentNumber) → take capacity (removal ws ds own).windows ≡ (removal ws ds own).windows
  unfolding removal
  under-fits own =
      let hangs : Window → Bool = λ (r : Window). is_under steps ws ds own r.number in
      let k = length_keep hangs ws in
      let m = length-map (keep hangs ws) (λ (r : Window). r.number) in
      take_all capacity (removal ws ds own).windows (omega arith)

  pub goes_with : (v : WindowNumber) (own of : List DocumentNumber) (under : Removal) (all : List WindowNumber) → all ≡ v ∷ take capacity under.windows → under ≡ removal ws ds own → own ≡ of
      → record { windows = all; documents = under.documents } ≡ with_window v (removal ws ds of)
  goes_with v own of under all e f g =
      ap (λ (l : List WindowNumber). record { windows = l; documents = under.documents }) (e ∙ ap (λ (u : Removal). v ∷ take capacity u.windows) f ∙ ap (λ (l : List WindowNumber). v ∷ l) (under-fits own))
      ∙ ap (λ (u : Removal). record { windows = v ∷ (removal ws ds own).windows; documents = u.documents }) f
      ∙ ap (λ (l : List DocumentNumber). with_window v (removal ws ds l)) g

-- THE LAST PLACE COMES ROUND to the front and is v's.
module _ {A : Type 0} (v : A) where
  first_set : (xs ys : List A) → length xs ≡ 1 → set (xs ++ ys) 0 v ≡ v ∷ ys
  first_set [] ys e = absurd (omega arith)
  first_set (x ∷ []) ys e = refl
  first_set (x ∷ (y ∷ xs)) ys e = absurd (omega arith)

  pub turned : (rows new : List A) → length rows ≡ 33 → new ≡ drop (length rows - 1) rows ++ take (length rows - 1) rows → set new 0 v ≡ take 33 (v ∷ rows)
  turned rows new e f =
      let g : new ≡ drop 32 rows ++ take 32 rows = f ∙ ap (λ (k : ℕ). drop (k - 1) rows ++ take (k - 1) rows) e in
      let l = length-drop 32 rows in
      ap (λ (u : List A). set u 0 v) g ∙ first_set (drop 32 rows) (take 32 rows) (omega arith)
