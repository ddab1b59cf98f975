-- What edits do to the members and the length of a table, in whatever order its rows are.
use mathlib.Core.Path.{◌≡◌, refl, sym, ap}
use mathlib.Core.Logic.{◌⊎◌, inl, inr}
use mathlib.Core.Bool.{Bool, true, false, not, false≢true}
use mathlib.Core.List.{List, [], ◌∷◌, ◌++◌, map}
use Prim.Native.Nat.{ℕ, suc, ◌+◌, ◌≤◌, ◌<◌}
use native.Mathlib.Nat.{le_refl, le_trans}
use native.Mathlib.Omega.{arith}
use borrow.Author.Tests.{leb-false, lt-leb}
use lib.Dec.{leb}
use lib.ListN.{length}
use Rattle.std.specs.declared.cmp.Ordering.{Ordering as Order}
use Rattle.std.specs.declared.cmp.Ordering.TheVariants.{Less as Before, Equal as Same, Greater as After}
use Rattle.sorted.specs.Order.{same}
use Rattle.sorted.specs.Table.{In, Edit, put, drop, sift, place, insert, act, acts}
use Rattle.sorted.proofs.Member.{in_keep, length_keep}

module _ {R K : Type 0} where
  -- how many rows at most a list of edits adds
  abbrev pub adds : List (Edit R K) → ℕ
  adds [] = 0
  adds (put r ∷ es) = suc (adds es)
  adds (drop k ∷ es) = adds es
  adds (sift p ∷ es) = adds es

  adds-cons : (e : Edit R K) (es : List (Edit R K)) → adds (e ∷ es) ≡ adds (e ∷ []) + adds es
  adds-cons (put r) es = omega arith
  adds-cons (drop k) es = omega arith
  adds-cons (sift p) es = omega arith

  pub adds_append : (es fs : List (Edit R K)) → adds (es ++ fs) ≡ adds es + adds fs
  adds_append [] fs = omega arith
  adds_append (e ∷ es) fs = let h = adds_append es fs in let m = adds-cons e es in let n = adds-cons e (es ++ fs) in omega arith

  -- the edits are puts alone: they take no row away
  abbrev pub puts_only : List (Edit R K) → Bool
  puts_only [] = true
  puts_only (put r ∷ es) = puts_only es
  puts_only (drop k ∷ es) = false
  puts_only (sift p ∷ es) = false

pub adds-puts : {A R : Type 0} (K : Type 0) (f : A → R) (l : List A) → adds {R = R} {K = K} (map (λ x. put (f x)) l) ≡ length l
adds-puts K f [] = refl
adds-puts K f (x ∷ l) = ap suc (adds-puts K f l)

pub adds_drops : {A K : Type 0} (R : Type 0) (f : A → K) (l : List A) → adds {R = R} {K = K} (map (λ x. drop (f x)) l) ≡ 0
adds_drops R f [] = refl
adds_drops R f (x ∷ l) = adds_drops R f l

pub puts-only : {A R : Type 0} (K : Type 0) (f : A → R) (l : List A) → puts_only {R = R} {K = K} (map (λ x. put (f x)) l) ≡ true
puts-only K f [] = refl
puts-only K f (x ∷ l) = puts-only K f l

module _ {R K : Type 0} (key : R → K) (cmp : K → K → Order) where
  -- MEMBERS: a row of an edited table was there or is put.
  pub in_insert : (r : R) (l : List R) (x : R) → In x (insert key cmp r l) → (x ≡ r) ⊎ In x l
  unfolding insert
  in_insert r [] x (inr x4) = elim x4 [ ]
  in_insert r [] x (inl e) = inl e
  in_insert r (y ∷ l) x i = go (cmp (key r) (key y)) i (in_insert r l x)
    where
      go : (c : Order) → In x (place key cmp c r y l (insert key cmp r l)) → (In x (insert key cmp r l) → (x ≡ r) ⊎ In x l) → (x ≡ r) ⊎ ((x ≡ y) ⊎ In x l)
      go Before (inl e) ih = inl e
      go Before (inr j) ih = inr j
      go Same (inl e) ih = inl e
      go Same (inr j) ih = inr (inr j)
      go After (inl e) ih = inr (inl e)
      go After (inr j) ih = elim (ih j) [ inl e ↦ inl e | inr k ↦ inr (inr k) ]

  pub in_act : (e : Edit R K) (l : List R) (x : R) → In x (act key cmp e l) → (e ≡ put x) ⊎ In x l
  in_act (put r) l x i = elim (in_insert r l x i) [ inl e ↦ inl (ap put (sym e)) | inr j ↦ inr j ]
  in_act (drop k) l x i = inr (in_keep (λ y. not (same (cmp k (key y)))) l x i).0
  in_act (sift p) l x i = inr (in_keep p l x i).0

  pub in_acts : (es : List (Edit R K)) (l : List R) (x : R) → In x (acts key cmp es l) → In (put x) es ⊎ In x l
  in_acts [] l x i = inr i
  in_acts (e ∷ es) l x i = go (in_acts es (act key cmp e l) x i)
    where
      go : In (put x) es ⊎ In x (act key cmp e l) → ((put x ≡ e) ⊎ In (put x) es) ⊎ In x l
      go (inl j) = inl (inr j)
      go (inr j) = elim (in_act e l x j) [ inl p ↦ inl (inl (sym p)) | inr k ↦ inr k ]

  -- LENGTHS: a put adds at most one row and takes none; the other edits add none.
  pub length_insert : (r : R) (l : List R) → (length l ≤ length (insert key cmp r l)) × (length (insert key cmp r l) ≤ suc (length l))
  unfolding insert
  length_insert r [] = (omega arith, omega arith)
  length_insert r (x ∷ l) = go (cmp (key r) (key x)) (length_insert r l)
    where
      go : (c : Order) → (length l ≤ length (insert key cmp r l)) × (length (insert key cmp r l) ≤ suc (length l))
          → (suc (length l) ≤ length (place key cmp c r x l (insert key cmp r l))) × (length (place key cmp c r x l (insert key cmp r l)) ≤ suc (suc (length l)))
      go Before h = (omega arith, omega arith)
      go Same h = (omega arith, omega arith)
      go After h = (omega arith, omega arith)

  pub length_act : (e : Edit R K) (l : List R) → length (act key cmp e l) ≤ adds (e ∷ []) + length l
  length_act (put r) l = let h = (length_insert r l).1 in omega arith
  length_act (drop k) l = let h = length_keep (λ x. not (same (cmp k (key x)))) l in omega arith
  length_act (sift p) l = let h = length_keep p l in omega arith

  pub length_acts : (es : List (Edit R K)) (l : List R) → length (acts key cmp es l) ≤ adds es + length l
  length_acts [] l = omega arith
  length_acts (e ∷ es) l = let h = length_acts es (act key cmp e l) in let k = length_act e l in let m = adds-cons e es in omega arith

  pub length_puts : (es : List (Edit R K)) (l : List R) → puts_only es ≡ true → length l ≤ length (acts key cmp es l)
  length_puts [] l e = le_refl _
  length_puts (put r ∷ es) l e = le_trans (length_insert r l).0 (length_puts es (insert key cmp r l) e)
  length_puts (drop k ∷ es) l e = absurd (false≢true e)
  length_puts (sift p ∷ es) l e = absurd (false≢true e)

  -- no room for one, no room for all
  pub no_room : (capacity : ℕ) (es : List (Edit R K)) (l : List R) → puts_only es ≡ true → leb (length l) capacity ≡ false → leb (length (acts key cmp es l)) capacity ≡ false
  no_room capacity es l only e =
      let h : capacity < length l = leb-false _ _ e in
      let g = length_puts es l only in
      lt-leb (length (acts key cmp es l)) capacity (omega arith)

  pub acts_append : (es fs : List (Edit R K)) (l : List R) → acts key cmp (es ++ fs) l ≡ acts key cmp fs (acts key cmp es l)
  acts_append [] fs l = refl
  acts_append (e ∷ es) fs l = acts_append es fs (act key cmp e l)
