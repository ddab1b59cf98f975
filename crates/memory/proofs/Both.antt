-- What is found, kept or counted among the rows that pass one test is found, kept, counted among all rows by both tests.
use mathlib.Core.Path.{◌≡◌, refl, ap}
use mathlib.Core.Bool.{Bool, true, false, cond, ◌&&◌}
use mathlib.Core.List.{List, [], ◌∷◌}
use Rattle.std.specs.Prelude.{Some as some}
use Rattle.sorted.specs.Table.{find, keep}

module _ {A : Type 0} (q p : A → Bool) where
  pub find-both : (l : List A) → find p (keep q l) ≡ find (λ x. q x && p x) l
  unfolding find keep
  find-both [] = refl
  find-both (x ∷ l) = go (q x) (find-both l)
    where
      go : (b : Bool) → find p (keep q l) ≡ find (λ y. q y && p y) l → find p (cond b (x ∷ keep q l) (keep q l)) ≡ cond (b && p x) (some x) (find (λ y. q y && p y) l)
      go true e = ap (cond (p x) (some x)) e
      go false e = e

  pub keep-both : (l : List A) → keep p (keep q l) ≡ keep (λ x. q x && p x) l
  unfolding keep
  keep-both [] = refl
  keep-both (x ∷ l) = go (q x) (keep-both l)
    where
      go : (b : Bool) → keep p (keep q l) ≡ keep (λ y. q y && p y) l → keep p (cond b (x ∷ keep q l) (keep q l)) ≡ cond (b && p x) (x ∷ keep (λ y. q y && p y) l) (keep (λ y. q y && p y) l)
      go true e = ap (λ (k : List A). cond (p x) (x ∷ k) k) e
      go false e = e
