-- What a lookup by key finds after an edit.
use mathlib.Core.Path.{◌≡◌, refl, sym, ◌∙◌, ap, subst}
use mathlib.Core.Logic.{◌⊎◌, inl, inr}
use mathlib.Core.Bool.{Bool, true, false, cond, not}
use mathlib.Core.List.{List, [], ◌∷◌}
use Rattle.std.specs.Prelude.{Option, None as none, Some as some}
use Rattle.std.specs.declared.cmp.Ordering.{Ordering as Order}
use Rattle.std.specs.declared.cmp.Ordering.TheVariants.{Less as Before, Equal as Same, Greater as After}
use Rattle.sorted.specs.Order.{same, Linear}
use Rattle.sorted.specs.Table.{find, keep, In, Edit, put, drop, sift, Sorted, at, place, insert, remove, act, acts}
use Rattle.sorted.proofs.Never.{never}
use Rattle.sorted.proofs.Linear.{same_self, same-eq, same_ne}
use Rattle.sorted.proofs.Member.{find_in, find_none, find-keep}
use Rattle.sorted.proofs.Edits.{in_act}
use Rattle.sorted.proofs.Sorted.{only}

-- the row, if it passes
abbrev pub passing : {R : Type 0} → (R → Bool) → Option R → Option R
passing p none = none
passing p (some x) = cond (p x) (some x) none

module _ {R K : Type 0} (key : R → K) (cmp : K → K → Order) where
  -- what an edit makes of the row with key k
  abbrev pub effect : Edit R K → K → Option R → Option R
  effect (put r) k o = cond (same (cmp k (key r))) (some r) o
  effect (drop j) k o = cond (same (cmp k j)) none o
  effect (sift p) k o = passing p o

-- an edit of the table l concerns the row with key k. A sift does where it takes such a row away: whether its test is one of keys or of whole rows
abbrev pub Touches : {R K : Type 0} → (R → K) → Edit R K → List R → K → Type 0
Touches key (put r) l k = k ≡ key r
Touches key (drop j) l k = k ≡ j
Touches {R} key (sift p) l k = (x : R) × In x l × (k ≡ key x) × (p x ≡ false)

module _ {R K : Type 0} (key : R → K) (cmp : K → K → Order) (O : Linear K cmp) where
  -- what is found has the key
  pub at_key : (k : K) (l : List R) (x : R) → at key cmp k l ≡ some x → In x l × (k ≡ key x)
  at_key k l x e = let z = find_in (λ y. same (cmp k (key y))) l x e in (z.0, same-eq O k (key x) z.1)

  pub at_none : (k : K) (l : List R) → ((y : R) → In y l → cmp k (key y) ≡ Before) → at key cmp k l ≡ none
  at_none k l h = find_none (λ y. same (cmp k (key y))) l (λ y i. ap same (h y i))

  -- a row is found by its key
  pub at_in : (l : List R) (r : R) → Sorted key cmp l → In r l → at key cmp (key r) l ≡ some r
  unfolding find
  at_in [] r s x'' = elim x'' [ ]
  at_in (x ∷ l) r s (inl e) = subst (λ (v : R). at key cmp (key v) (x ∷ l) ≡ some v) (sym e) (rw (same_self O (key x)))
  at_in (x ∷ l) r s (inr i) =
      let n : same (cmp (key r) (key x)) ≡ false = same_ne O (key r) (key x) (λ z. apart (ap (λ (k : K). cmp (key x) k) z ∙ O.self (key x)) (s.0 r i)) in
      ap (λ (b : Bool). cond b (some x) (at key cmp (key r) l)) n ∙ at_in l r s.1 i
    where
      apart : cmp (key x) (key r) ≡ Same → cmp (key x) (key r) ≡ Before → ⊥
      apart p q = never (cc)

  -- AFTER A PUT, in whatever order the rows are.
  pub at-put : (k : K) (r : R) (l : List R) → at key cmp k (insert key cmp r l) ≡ cond (same (cmp k (key r))) (some r) (at key cmp k l)
  unfolding find insert
  at-put k r [] = refl
  at-put k r (x ∷ l) = go (cmp (key r) (key x)) refl (at-put k r l)
    where
      go : (c : Order) → cmp (key r) (key x) ≡ c → at key cmp k (insert key cmp r l) ≡ cond (same (cmp k (key r))) (some r) (at key cmp k l)
          → at key cmp k (place key cmp c r x l (insert key cmp r l)) ≡ cond (same (cmp k (key r))) (some r) (at key cmp k (x ∷ l))
      go Before e ih = refl
      go Same e ih = sub (same (cmp k (key r))) (ap (λ (j : K). same (cmp k j)) (sym (O.eq (key r) (key x) e)))
        where
          sub : (b : Bool) → same (cmp k (key x)) ≡ b → cond b (some r) (at key cmp k l) ≡ cond b (some r) (cond (same (cmp k (key x))) (some x) (at key cmp k l))
          sub true p = refl
          sub false p = rw p
      go After e ih = sub (same (cmp k (key x))) refl ih
        where
          sub : (b : Bool) → same (cmp k (key x)) ≡ b → at key cmp k (insert key cmp r l) ≡ cond (same (cmp k (key r))) (some r) (at key cmp k l)
              → cond b (some x) (at key cmp k (insert key cmp r l)) ≡ cond (same (cmp k (key r))) (some r) (cond b (some x) (at key cmp k l))
          sub false p ih = ih
          sub true p ih = let q : same (cmp k (key r)) ≡ false = same_ne O k (key r) (λ z. apart (sym z ∙ same-eq O k (key x) p)) in rw q
            where
              apart : key r ≡ key x → ⊥
              apart z = let w : cmp (key r) (key x) ≡ Same = ap (λ (j : K). cmp (key r) j) (sym z) ∙ O.self (key r) in never (cc)

  pub at-put-same : (r : R) (l : List R) → at key cmp (key r) (insert key cmp r l) ≡ some r
  at-put-same r l = at-put (key r) r l ∙ ap (λ (b : Bool). cond b (some r) (at key cmp (key r) l)) (same_self O (key r))

  pub at-put-other : (k : K) (r : R) (l : List R) → (k ≡ key r → ⊥) → at key cmp k (insert key cmp r l) ≡ at key cmp k l
  at-put-other k r l n = at-put k r l ∙ ap (λ (b : Bool). cond b (some r) (at key cmp k l)) (same_ne O k (key r) n)

  -- AFTER A SIFT BY A TEST OF KEYS, in whatever order the rows are.
  pub at_only : (p : K → Bool) (k : K) (l : List R) → at key cmp k (only key p l) ≡ cond (p k) (at key cmp k l) none
  unfolding find keep
  at_only p k [] = go (p k)
    where
      go : (b : Bool) → ◌≡◌ {A = Option R} none (cond b none none)
      go true = refl
      go false = refl
  at_only p k (x ∷ l) = go (p (key x)) (same (cmp k (key x))) refl refl (at_only p k l)
    where
      go : (b c : Bool) → p (key x) ≡ b → same (cmp k (key x)) ≡ c → at key cmp k (only key p l) ≡ cond (p k) (at key cmp k l) none
          → at key cmp k (cond b (x ∷ only key p l) (only key p l)) ≡ cond (p k) (cond c (some x) (at key cmp k l)) none
      go true true e f ih = let z : p k ≡ true = ap p (same-eq O k (key x) f) ∙ e in rw (f, z)
      go true false e f ih = rw f ih
      go false true e f ih = let z : p k ≡ false = ap p (same-eq O k (key x) f) ∙ e in ih ∙ rw z
      go false false e f ih = ih

  -- AFTER A DROP, in whatever order the rows are.
  pub at_drop : (k j : K) (l : List R) → at key cmp k (remove key cmp j l) ≡ cond (same (cmp k j)) none (at key cmp k l)
  at_drop k j l = at_only (λ i. not (same (cmp j i))) k l ∙ go (same (cmp k j)) refl
    where
      go : (b : Bool) → same (cmp k j) ≡ b → cond (not (same (cmp j k))) (at key cmp k l) none ≡ cond b none (at key cmp k l)
      go true e = let z : same (cmp j k) ≡ true = ap (λ (i : K). same (cmp j i)) (same-eq O k j e) ∙ same_self O j in rw z
      go false e = let z : same (cmp j k) ≡ false = same_ne O j k (λ w. apart (ap (λ (i : K). same (cmp i j)) (sym w) ∙ same_self O j)) in rw z
        where
          apart : same (cmp k j) ≡ true → ⊥
          apart z = never (cc)

  -- AFTER A SIFT BY ANY TEST: a row that fails might hide another with its key, were the rows out of order.
  pub at-sift : (p : R → Bool) (k : K) (l : List R) → Sorted key cmp l → at key cmp k (keep p l) ≡ passing p (at key cmp k l)
  unfolding find keep
  at-sift p k [] s = refl
  at-sift p k (x ∷ l) s = go (p x) (same (cmp k (key x))) refl refl (at-sift p k l s.1)
    where
      go : (b c : Bool) → p x ≡ b → same (cmp k (key x)) ≡ c → at key cmp k (keep p l) ≡ passing p (at key cmp k l)
          → at key cmp k (cond b (x ∷ keep p l) (keep p l)) ≡ passing p (cond c (some x) (at key cmp k l))
      go true true e f ih = rw (f, e)
      go true false e f ih = rw f ih
      go false true e f ih =
          let n : at key cmp k l ≡ none = at_none k l (λ y i. ap (λ (j : K). cmp j (key y)) (same-eq O k (key x) f) ∙ s.0 y i) in
          ih ∙ ap (passing p) n ∙ (rw e)
      go false false e f ih = ih

  -- AFTER ANY EDIT of a table in order.
  pub at-act : (e : Edit R K) (k : K) (l : List R) → Sorted key cmp l → at key cmp k (act key cmp e l) ≡ effect key cmp e k (at key cmp k l)
  at-act (put r) k l s = at-put k r l
  at-act (drop j) k l s = at_drop k j l
  at-act (sift p) k l s = at-sift p k l s

  -- ROWS THAT EDITS DO NOT CONCERN stay, in whatever order the rows are.
  pub at_other : (e : Edit R K) (l : List R) (k : K) → (Touches key e l k → ⊥) → at key cmp k (act key cmp e l) ≡ at key cmp k l
  at_other (put r) l k n = at-put-other k r l n
  at_other (drop j) l k n = at_drop k j l ∙ ap (λ (b : Bool). cond b none (at key cmp k l)) (same_ne O k j n)
  at_other (sift p) l k n = find-keep (λ x. same (cmp k (key x))) p l (λ x i e. go x i e (p x) refl)
    where
      go : (x : R) → In x l → same (cmp k (key x)) ≡ true → (b : Bool) → p x ≡ b → b ≡ true
      go x i e true f = refl
      go x i e false f = absurd (n (x, i, same-eq O k (key x) e, f))

  pub at-acts-other : (es : List (Edit R K)) (l : List R) (k : K) → ((e : Edit R K) → In e es → Touches key e l k → ⊥) → at key cmp k (acts key cmp es l) ≡ at key cmp k l
  at-acts-other [] l k n = refl
  at-acts-other (e ∷ es) l k n = at-acts-other es (act key cmp e l) k (λ d i. still d (n d (inr i))) ∙ at_other e l k (n e (inl refl))
    where
      still : (d : Edit R K) → (Touches key d l k → ⊥) → Touches key d (act key cmp e l) k → ⊥
      still (put r) m t = m t
      still (drop j) m t = m t
      still (sift p) m t = go (in_act key cmp e l t.0 t.1)
        where
          go : (e ≡ put t.0) ⊎ In t.0 l → ⊥
          go (inl q) = n e (inl refl) (subst (λ (d : Edit R K). Touches key d l k) (sym q) t.2)
          go (inr i) = m (t.0, i, t.2, t.3)

  pub in_act_other : (e : Edit R K) (l : List R) (x : R) → Sorted key cmp l → In x l → (Touches key e l (key x) → ⊥) → In x (act key cmp e l)
  in_act_other e l x s i n = (at_key (key x) (act key cmp e l) x (at_other e l (key x) n ∙ at_in l x s i)).0
