-- Edits keep the rising order.
use mathlib.Core.Path.{◌≡◌, refl, ◌∙◌, ap}
use mathlib.Core.Logic.{◌⊎◌, inl, inr}
use mathlib.Core.Bool.{Bool, true, false, cond, not}
use mathlib.Core.List.{List, [], ◌∷◌}
use Rattle.std.specs.declared.cmp.Ordering.{Ordering as Order}
use Rattle.std.specs.declared.cmp.Ordering.TheVariants.{Less as Before, Equal as Same, Greater as After}
use Rattle.sorted.specs.Order.{same, Linear}
use Rattle.sorted.specs.Table.{keep, In, Edit, put, drop, sift, Sorted, place, insert, act, acts}
use Rattle.sorted.proofs.Member.{in_keep}
use Rattle.sorted.proofs.Edits.{in_insert}

-- the rows whose key is in a part
abbrev pub only : {R K : Type 0} → (R → K) → (K → Bool) → List R → List R
only key p l = keep (λ x. p (key x)) l

module _ {R K : Type 0} (key : R → K) (cmp : K → K → Order) where
  pub sorted-keep : (q : R → Bool) (l : List R) → Sorted key cmp l → Sorted key cmp (keep q l)
  unfolding keep
  sorted-keep q [] h = tt
  sorted-keep q (x ∷ l) h = go (q x) (sorted-keep q l h.1)
    where
      go : (b : Bool) → Sorted key cmp (keep q l) → Sorted key cmp (cond b (x ∷ keep q l) (keep q l))
      go true s = (λ y i. h.0 y (in_keep q l y i).0, s)
      go false s = s

  pub sorted_only : (p : K → Bool) (l : List R) → Sorted key cmp l → Sorted key cmp (only key p l)
  sorted_only p l h = sorted-keep (λ x. p (key x)) l h

  module _ (O : Linear K cmp) where
    pub sorted_insert : (r : R) (l : List R) → Sorted key cmp l → Sorted key cmp (insert key cmp r l)
    unfolding insert
    sorted_insert r [] h = (λ y i. absurd i, tt)
    sorted_insert r (x ∷ l) h = go (cmp (key r) (key x)) refl (sorted_insert r l h.1)
      where
        go : (c : Order) → cmp (key r) (key x) ≡ c → Sorted key cmp (insert key cmp r l) → Sorted key cmp (place key cmp c r x l (insert key cmp r l))
        go Before e s = (below, h)
          where
            below : (y : R) → (y ≡ x) ⊎ In y l → cmp (key r) (key y) ≡ Before
            below y (inl p) = ap (λ (v : R). cmp (key r) (key v)) p ∙ e
            below y (inr i) = O.trans (key r) (key x) (key y) e (h.0 y i)
        go Same e s = (λ y i. ap (λ (k : K). cmp k (key y)) (O.eq (key r) (key x) e) ∙ h.0 y i, h.1)
        go After e s = (λ y i. below y (in_insert key cmp r l y i), s)
          where
            below : (y : R) → (y ≡ r) ⊎ In y l → cmp (key x) (key y) ≡ Before
            below y (inl p) = ap (λ (v : R). cmp (key x) (key v)) p ∙ O.turn (key r) (key x) e
            below y (inr i) = h.0 y i

    pub sorted-act : (e : Edit R K) (l : List R) → Sorted key cmp l → Sorted key cmp (act key cmp e l)
    sorted-act (put r) l h = sorted_insert r l h
    sorted-act (drop k) l h = sorted-keep (λ x. not (same (cmp k (key x)))) l h
    sorted-act (sift p) l h = sorted-keep p l h

    pub sorted-acts : (es : List (Edit R K)) (l : List R) → Sorted key cmp l → Sorted key cmp (acts key cmp es l)
    sorted-acts [] l h = h
    sorted-acts (e ∷ es) l h = sorted-acts es (act key cmp e l) (sorted-act e l h)
