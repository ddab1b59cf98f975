-- Rows in rising order of a number, of which each is the first or follows on another, are numbered without gaps: the last number is how many there are.
use mathlib.Core.Path.{◌≡◌, refl, sym, ◌∙◌, ap}
use mathlib.Core.Logic.{◌⊎◌, inl, inr}
use mathlib.Core.List.{List, [], ◌∷◌}
use Prim.Native.Nat.{ℕ, suc, ◌+◌, ◌≤◌, ◌<◌}
use native.Mathlib.Omega.{arith}
use lib.ListN.{length}
use Rattle.std.specs.declared.cmp.Ordering.{Ordering as Order}
use Rattle.std.specs.declared.cmp.Ordering.TheVariants.{Less as Before}
use Rattle.sorted.specs.Order.{cmpℕ, lex, then}
use Rattle.sorted.specs.Table.{In, Sorted}
use Rattle.sorted.proofs.Linear.{before-lt, self-same}

module _ {A : Type 0} where
  -- rows of one owner are in the order of the second part of their keys
  pub rising : (key : A → ℕ × ℕ) (k : ℕ) (l : List A) → Sorted key (lex cmpℕ cmpℕ) l → ((x : A) → In x l → (key x).0 ≡ k) → Sorted (λ x. (key x).1) cmpℕ l
  rising key k [] s h = tt
  rising key k (x ∷ l) s h = (λ y i. below y i, rising key k l s.1 (λ y i. h y (inr i)))
    where
      below : (y : A) → In y l → cmpℕ (key x).1 (key y).1 ≡ Before
      below y i =
          let e : (key y).0 ≡ (key x).0 = h y (inr i) ∙ sym (h x (inl refl)) in
          let f : cmpℕ (key x).0 (key y).0 ≡ _ = ap (cmpℕ (key x).0) e ∙ self-same (key x).0 in
          sym (ap (λ (o : Order). then o (cmpℕ (key x).1 (key y).1)) f) ∙ s.0 y i

  module _ (place : A → ℕ) where
    -- above m: the next number, or one more than another's
    abbrev pub Gapless : ℕ → List A → Type 0
    Gapless m l = (x : A) → In x l → (place x ≡ suc m) ⊎ ((y : A) × In y l × (suc (place y) ≡ place x))

    first-is : (m : ℕ) (x : A) (l : List A) → Sorted place cmpℕ (x ∷ l) → Gapless m (x ∷ l) → place x ≡ suc m
    first-is m x l s g = go (g x (inl refl))
      where
        later : (y : A) → (y ≡ x) ⊎ In y l → suc (place y) ≡ place x → place x ≡ suc m
        later y (inl p) e = let q : place y ≡ place x = ap place p in absurd (omega arith)
        later y (inr i) e = let q = before-lt (place x) (place y) (s.0 y i) in absurd (omega arith)

        go : (place x ≡ suc m) ⊎ ((y : A) × ((y ≡ x) ⊎ In y l) × (suc (place y) ≡ place x)) → place x ≡ suc m
        go (inl e) = e
        go (inr z) = later z.0 z.1 z.2

    rest_gapless : (m : ℕ) (x : A) (l : List A) → Sorted place cmpℕ (x ∷ l) → Gapless m (x ∷ l) → Gapless (suc m) l
    rest_gapless m x l s g y i = go (g y (inr i))
      where
        f : place x ≡ suc m
        f = first-is m x l s g

        b : place x < place y
        b = before-lt (place x) (place y) (s.0 y i)

        one : (z : A) → (z ≡ x) ⊎ In z l → suc (place z) ≡ place y → (place y ≡ suc (suc m)) ⊎ ((z : A) × In z l × (suc (place z) ≡ place y))
        one z (inl p) e = let q : place z ≡ place x = ap place p in inl (omega (arith, f))
        one z (inr j) e = inr (z, j, e)

        go : (place y ≡ suc m) ⊎ ((z : A) × ((z ≡ x) ⊎ In z l) × (suc (place z) ≡ place y)) → (place y ≡ suc (suc m)) ⊎ ((z : A) × In z l × (suc (place z) ≡ place y))
        go (inl e) = absurd (omega (arith, f, b))
        go (inr z) = one z.0 z.1 z.2

    counted-above : (m : ℕ) (l : List A) → Sorted place cmpℕ l → Gapless m l
        → ((x : A) → In x l → place x ≤ m + length l) × ((length l ≡ 0) ⊎ ((y : A) × In y l × (place y ≡ m + length l)))
    counted-above m [] s g = (λ x i. absurd i, inl refl)
    counted-above m (x ∷ l) s g = go (first-is m x l s g) (counted-above (suc m) l s.1 (rest_gapless m x l s g))
      where
        go : place x ≡ suc m → ((y : A) → In y l → place y ≤ suc m + length l) × ((length l ≡ 0) ⊎ ((y : A) × In y l × (place y ≡ suc m + length l)))
            → ((y : A) → (y ≡ x) ⊎ In y l → place y ≤ m + suc (length l)) × ((suc (length l) ≡ 0) ⊎ ((y : A) × ((y ≡ x) ⊎ In y l) × (place y ≡ m + suc (length l))))
        go e h = (most, inr (last h.1))
          where
            most : (y : A) → (y ≡ x) ⊎ In y l → place y ≤ m + suc (length l)
            most y (inl p) = let q : place y ≡ place x = ap place p in omega arith
            most y (inr i) = let q = h.0 y i in omega arith

            last : (length l ≡ 0) ⊎ ((y : A) × In y l × (place y ≡ suc m + length l)) → (y : A) × ((y ≡ x) ⊎ In y l) × (place y ≡ m + suc (length l))
            last (inl z) = (x, inl refl, omega arith)
            last (inr z) = (z.0, inr z.1, (let q = z.2 in omega arith))

    -- numbers from 1: none is beyond their count, and where there are any the count is one of them
    pub counted : (l : List A) → Sorted place cmpℕ l → Gapless 0 l → ((x : A) → In x l → place x ≤ length l) × ((length l ≡ 0) ⊎ ((y : A) × In y l × (place y ≡ length l)))
    counted l s g = let h = counted-above 0 l s g in (λ x i. (let q = h.0 x i in omega arith), last h.1)
      where
        last : (length l ≡ 0) ⊎ ((y : A) × In y l × (place y ≡ 0 + length l)) → (length l ≡ 0) ⊎ ((y : A) × In y l × (place y ≡ length l))
        last (inl z) = inl z
        last (inr z) = inr (z.0, z.1, (let q = z.2 in omega arith))
