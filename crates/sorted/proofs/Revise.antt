-- Images of a list's members; rows changed in place, where their keys stay: what is found, what is there, the order.
use mathlib.Core.Path.{◌≡◌, refl, ◌∙◌, ap}
use mathlib.Core.Logic.{inl, inr}
use mathlib.Core.Bool.{Bool, true, false, cond}
use mathlib.Core.List.{List, [], ◌∷◌, map}
use Rattle.std.specs.Prelude.{Option, None as none, Some as some}
use Rattle.std.specs.declared.cmp.Ordering.{Ordering as Order}
use Rattle.std.specs.declared.cmp.Ordering.TheVariants.{Less as Before}
use Rattle.sorted.specs.Order.{same}
use Rattle.sorted.specs.Table.{find, keep, In, Sorted, at}
use Rattle.sorted.proofs.Sorted.{only}

-- IMAGES.
module _ {A B : Type 0} (f : A → B) where
  pub in_map : (l : List A) (y : B) → In y (map f l) → (x : A) × In x l × (y ≡ f x)
  in_map [] y x' = elim x' [ ]
  in_map (x ∷ l) y (inl e) = (x, inl refl, e)
  in_map (x ∷ l) y (inr i) = let z = in_map l y i in (z.0, inr z.1, z.2)

  pub map_in : (l : List A) (x : A) → In x l → In (f x) (map f l)
  map_in [] x x3 = elim x3 [ ]
  map_in (y ∷ l) x (inl e) = inl (ap f e)
  map_in (y ∷ l) x (inr i) = inr (map_in l x i)

-- ROWS CHANGED IN PLACE.
module _ {R : Type 0} (f : R → R) where
  abbrev pub revised : Option R → Option R
  revised none = none
  revised (some r) = some (f r)

  -- a test that does not see the change
  module _ (q : R → Bool) (blind : (r : R) → q (f r) ≡ q r) where
    pub find_map : (l : List R) → find q (map f l) ≡ revised (find q l)
    unfolding find
    find_map [] = refl
    find_map (x ∷ l) = go (q x) (blind x) (find_map l)
      where
        go : (b : Bool) → q (f x) ≡ b → find q (map f l) ≡ revised (find q l) → cond (q (f x)) (some (f x)) (find q (map f l)) ≡ revised (cond b (some x) (find q l))
        go true e ih = rw e
        go false e ih = rw e ih

    pub keep_map : (l : List R) → keep q (map f l) ≡ map f (keep q l)
    unfolding keep
    keep_map [] = refl
    keep_map (x ∷ l) = go (q x) (blind x) (keep_map l)
      where
        go : (b : Bool) → q (f x) ≡ b → keep q (map f l) ≡ map f (keep q l) → cond (q (f x)) (f x ∷ keep q (map f l)) (keep q (map f l)) ≡ map f (cond b (x ∷ keep q l) (keep q l))
        go true e ih = rw e (ap (f x ∷◌) ih)
        go false e ih = rw e ih

module _ {R K : Type 0} (key : R → K) (cmp : K → K → Order) (f : R → R) (keeps : (r : R) → key (f r) ≡ key r) where
  pub sorted_map : (l : List R) → Sorted key cmp l → Sorted key cmp (map f l)
  sorted_map [] s = tt
  sorted_map (x ∷ l) s = (below, sorted_map l s.1)
    where
      below : (y : R) → In y (map f l) → cmp (key (f x)) (key y) ≡ Before
      below y i =
          let z = in_map f l y i in
          ap (λ (k : K). cmp k (key y)) (keeps x) ∙ ap (cmp (key x)) (ap key z.2 ∙ keeps z.0) ∙ s.0 z.0 z.1

  pub at_map : (k : K) (l : List R) → at key cmp k (map f l) ≡ revised f (at key cmp k l)
  at_map k l = find_map f (λ x. same (cmp k (key x))) (λ r. ap (λ (j : K). same (cmp k j)) (keeps r)) l

  pub only_map : (p : K → Bool) (l : List R) → only key p (map f l) ≡ map f (only key p l)
  only_map p l = keep_map f (λ x. p (key x)) (λ r. ap p (keeps r)) l
