-- The members of a list, and what is found and kept of them.
use mathlib.Core.Path.{◌≡◌, refl, sym, ◌∙◌, ap, subst}
use mathlib.Core.Logic.{◌⊎◌, inl, inr}
use mathlib.Core.Bool.{Bool, true, false, cond}
use mathlib.Core.List.{List, [], ◌∷◌, ◌++◌}
use Rattle.std.specs.Prelude.{None as none, Some as some}
use Prim.Native.Nat.{suc, ◌≤◌}
use native.Mathlib.Omega.{arith}
use lib.ListN.{length}
use Rattle.sorted.specs.Table.{find, keep, In, All, is_some, looked}
use Rattle.sorted.proofs.Never.{never}

module _ {A : Type 0} where
  pub all_in : (P : A → Type 0) (l : List A) → All P l → (x : A) → In x l → P x
  all_in P [] h x x4 = elim x4 [ ]
  all_in P (y ∷ l) h x (inl e) = subst P (sym e) h.0
  all_in P (y ∷ l) h x (inr i) = all_in P l h.1 x i

  pub in_all : (P : A → Type 0) (l : List A) → ((x : A) → In x l → P x) → All P l
  in_all P [] h = tt
  in_all P (x ∷ l) h = (h x (inl refl), in_all P l (λ y i. h y (inr i)))

  pub in_append : (l m : List A) (x : A) → In x (l ++ m) → In x l ⊎ In x m
  in_append [] m x i = inr i
  in_append (y ∷ l) m x (inl e) = inl (inl e)
  in_append (y ∷ l) m x (inr i) = elim (in_append l m x i) [ inl j ↦ inl (inr j) | inr j ↦ inr j ]

  pub in_left : (l m : List A) (x : A) → In x l → In x (l ++ m)
  in_left [] m x x3 = elim x3 [ ]
  in_left (y ∷ l) m x (inl e) = inl e
  in_left (y ∷ l) m x (inr i) = inr (in_left l m x i)

  pub in_right : (l m : List A) (x : A) → In x m → In x (l ++ m)
  in_right [] m x i = i
  in_right (y ∷ l) m x i = inr (in_right l m x i)

  -- KEPT: exactly the members that pass.
  pub in_keep : (q : A → Bool) (l : List A) (x : A) → In x (keep q l) → In x l × (q x ≡ true)
  unfolding keep
  in_keep q [] x i = elim i [ ]
  in_keep q (y ∷ l) x i = go (q y) refl (in_keep q l x) i
    where
      go : (b : Bool) → q y ≡ b → (In x (keep q l) → In x l × (q x ≡ true)) → In x (cond b (y ∷ keep q l) (keep q l)) → ((x ≡ y) ⊎ In x l) × (q x ≡ true)
      go true e ih (inl p) = (inl p, ap q p ∙ e)
      go true e ih (inr j) = (inr (ih j).0, (ih j).1)
      go false e ih j = (inr (ih j).0, (ih j).1)

  pub keep_in : (q : A → Bool) (l : List A) (x : A) → In x l → q x ≡ true → In x (keep q l)
  unfolding keep
  keep_in q [] x i e = elim i [ ]
  keep_in q (y ∷ l) x i e = go (q y) refl i (λ j. keep_in q l x j e)
    where
      go : (b : Bool) → q y ≡ b → (x ≡ y) ⊎ In x l → (In x l → In x (keep q l)) → In x (cond b (y ∷ keep q l) (keep q l))
      go true f (inl p) ih = inl p
      go true f (inr j) ih = inr (ih j)
      go false f (inl p) ih = let z : q x ≡ q y = ap q p in never (cc)
      go false f (inr j) ih = ih j

  pub keep-none : (l : List A) → keep (λ x. false) l ≡ []
  unfolding keep
  keep-none [] = refl
  keep-none (x ∷ l) = keep-none l

  pub length_keep : (q : A → Bool) (l : List A) → length (keep q l) ≤ length l
  unfolding keep
  length_keep q [] = omega arith
  length_keep q (x ∷ l) = go (q x) (length_keep q l)
    where
      go : (b : Bool) → length (keep q l) ≤ length l → length (cond b (x ∷ keep q l) (keep q l)) ≤ suc (length l)
      go true h = omega arith
      go false h = omega arith

  -- FOUND: a member that passes, where one does.
  pub find_in : (q : A → Bool) (l : List A) (x : A) → find q l ≡ some x → In x l × (q x ≡ true)
  unfolding find
  find_in q [] x e = never (cc)
  find_in q (y ∷ l) x e = go (q y) refl e (find_in q l x)
    where
      go : (b : Bool) → q y ≡ b → cond b (some y) (find q l) ≡ some x → (find q l ≡ some x → In x l × (q x ≡ true)) → ((x ≡ y) ⊎ In x l) × (q x ≡ true)
      go true r p ih = let z : x ≡ y = cc in (inl z, ap q z ∙ r)
      go false r p ih = (inr (ih p).0, (ih p).1)

  pub find-some : (q : A → Bool) (l : List A) (x : A) → In x l → q x ≡ true → (y : A) × (find q l ≡ some y)
  unfolding find
  find-some q [] x i e = elim i [ ]
  find-some q (z ∷ l) x i e = go (q z) refl i (λ j. find-some q l x j e)
    where
      go : (b : Bool) → q z ≡ b → (x ≡ z) ⊎ In x l → (In x l → (y : A) × (find q l ≡ some y)) → (y : A) × (cond b (some z) (find q l) ≡ some y)
      go true f j ih = (z, refl)
      go false f (inl p) ih = let w : q x ≡ q z = ap q p in never (cc)
      go false f (inr j) ih = ih j

  pub find_none : (q : A → Bool) (l : List A) → ((x : A) → In x l → q x ≡ false) → find q l ≡ none
  unfolding find
  find_none q [] h = refl
  find_none q (x ∷ l) h = rw (h x (inl refl)) (find_none q l (λ y i. h y (inr i)))

  pub none_pass : (q : A → Bool) (l : List A) → find q l ≡ none → (x : A) → In x l → q x ≡ false
  none_pass q l e x i = go (q x) refl
    where
      go : (b : Bool) → q x ≡ b → b ≡ false
      go true f = let z = find-some q l x i f in let w : none ≡ some z.0 = sym e ∙ z.1 in never (cc)
      go false f = refl

  -- ONE TEST IN THE PLACE OF ANOTHER, where the members do not tell them apart.
  pub find-same : (q r : A → Bool) (l : List A) → ((x : A) → In x l → q x ≡ r x) → find q l ≡ find r l
  unfolding find
  find-same q r [] h = refl
  find-same q r (x ∷ l) h = rw (h x (inl refl), find-same q r l (λ y i. h y (inr i)))

  pub keep_same : (q r : A → Bool) (l : List A) → ((x : A) → In x l → q x ≡ r x) → keep q l ≡ keep r l
  unfolding keep
  keep_same q r [] h = refl
  keep_same q r (x ∷ l) h = rw (h x (inl refl), keep_same q r l (λ y i. h y (inr i)))

  pub keep_all : (q : A → Bool) (l : List A) → ((x : A) → In x l → q x ≡ true) → keep q l ≡ l
  unfolding keep
  keep_all q [] h = refl
  keep_all q (x ∷ l) h = rw (h x (inl refl), keep_all q l (λ y i. h y (inr i)))

  -- ONE TEST AFTER ANOTHER: finding and keeping among the kept rows is finding and keeping among all, where what passes is kept.
  pub find-keep : (q p : A → Bool) (l : List A) → ((x : A) → In x l → q x ≡ true → p x ≡ true) → find q (keep p l) ≡ find q l
  unfolding find keep
  find-keep q p [] h = refl
  find-keep q p (x ∷ l) h = go (p x) (q x) refl refl (find-keep q p l (λ y i. h y (inr i)))
    where
      go : (b c : Bool) → p x ≡ b → q x ≡ c → find q (keep p l) ≡ find q l → find q (cond b (x ∷ keep p l) (keep p l)) ≡ cond c (some x) (find q l)
      go true true e f ih = rw f
      go true false e f ih = rw f ih
      go false true e f ih = let z : p x ≡ true = h x (inl refl) f in never (cc)
      go false false e f ih = ih

  pub keep-keep : (q p : A → Bool) (l : List A) → ((x : A) → In x l → q x ≡ true → p x ≡ true) → keep q (keep p l) ≡ keep q l
  unfolding keep
  keep-keep q p [] h = refl
  keep-keep q p (x ∷ l) h = go (p x) (q x) refl refl (keep-keep q p l (λ y i. h y (inr i)))
    where
      go : (b c : Bool) → p x ≡ b → q x ≡ c → keep q (keep p l) ≡ keep q l → keep q (cond b (x ∷ keep p l) (keep p l)) ≡ cond c (x ∷ keep q l) (keep q l)
      go true true e f ih = rw f (ap (x ∷◌) ih)
      go true false e f ih = rw f ih
      go false true e f ih = let z : p x ≡ true = h x (inl refl) f in never (cc)
      go false false e f ih = ih

  -- LOOKED UP: what the answer of a lookup says.
  pub looked-found : (found : Bool) (r : A) → is_some (looked found r) ≡ found
  looked-found true r = refl
  looked-found false r = refl
