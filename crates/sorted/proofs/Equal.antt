-- Two tables in order with the same rows are equal; and what follows from it.
use mathlib.Core.Path.{◌≡◌, refl, sym, ◌∙◌, ap}
use mathlib.Core.Logic.{◌⊎◌, inl, inr}
use mathlib.Core.Bool.{Bool, true, false, cond}
use mathlib.Core.List.{List, [], ◌∷◌}
use Rattle.std.specs.Prelude.{None as none, Some as some}
use Rattle.std.specs.declared.cmp.Ordering.{Ordering as Order}
use Rattle.std.specs.declared.cmp.Ordering.TheVariants.{Less as Before, Equal as Same, Greater as After}
use Rattle.sorted.specs.Order.{same, Linear}
use Rattle.sorted.specs.Table.{find, In, Edit, put, Sorted, at, insert, act, acts}
use Rattle.sorted.proofs.Never.{never}
use Rattle.sorted.proofs.Linear.{same_self, same-eq}
use Rattle.sorted.proofs.Sorted.{only, sorted_only, sorted_insert, sorted-act}
use Rattle.sorted.proofs.Lookup.{effect, at_key, at_none, at-put-same, at_only, at-act, in_act_other}

module _ {R K : Type 0} (key : R → K) (cmp : K → K → Order) (O : Linear K cmp) where
  -- EQUAL LOOKUPS, EQUAL TABLES.
  hit : (x : R) (l : List R) → at key cmp (key x) (x ∷ l) ≡ some x
  unfolding find
  hit x l = rw (same_self O (key x))

  pub ext : (l m : List R) → Sorted key cmp l → Sorted key cmp m → ((k : K) → at key cmp k l ≡ at key cmp k m) → l ≡ m
  unfolding find
  ext [] [] s t h = refl
  ext [] (y ∷ m) s t h = let p : none ≡ some y = h (key y) ∙ hit y m in never (cc)
  ext (x ∷ l) [] s t h = let p : some x ≡ none = sym (hit x l) ∙ h (key x) in never (cc)
  ext (x ∷ l) (y ∷ m) s t h = go (cmp (key x) (key y)) refl (λ f. ext l m s.1 t.1 f)
    where
      go : (c : Order) → cmp (key x) (key y) ≡ c → (((k : K) → at key cmp k l ≡ at key cmp k m) → l ≡ m) → x ∷ l ≡ y ∷ m
      go Before e ih =
          let p : at key cmp (key x) (y ∷ m) ≡ none = at_none key cmp O (key x) (y ∷ m) below in
          let q : some x ≡ none = sym (hit x l) ∙ (h (key x) ∙ p) in
          never (cc)
        where
          below : (z : R) → (z ≡ y) ⊎ In z m → cmp (key x) (key z) ≡ Before
          below z (inl w) = ap (λ (v : R). cmp (key x) (key v)) w ∙ e
          below z (inr i) = O.trans (key x) (key y) (key z) e (t.0 z i)
      go After e ih =
          let p : at key cmp (key y) (x ∷ l) ≡ none = at_none key cmp O (key y) (x ∷ l) below in
          let q : some y ≡ none = sym (hit y m) ∙ (sym (h (key y)) ∙ p) in
          never (cc)
        where
          below : (z : R) → (z ≡ x) ⊎ In z l → cmp (key y) (key z) ≡ Before
          below z (inl w) = ap (λ (v : R). cmp (key y) (key v)) w ∙ O.turn (key x) (key y) e
          below z (inr i) = O.trans (key y) (key x) (key z) (O.turn (key x) (key y) e) (s.0 z i)
      go Same e ih =
          let kk : key x ≡ key y = O.eq (key x) (key y) e in
          let p : at key cmp (key x) (y ∷ m) ≡ some y = ap (λ (k : K). at key cmp k (y ∷ m)) kk ∙ hit y m in
          let q : some x ≡ some y = sym (hit x l) ∙ (h (key x) ∙ p) in
          let xy : x ≡ y = cc in
          λ i. xy i ∷ ih rest i
        where
          rest : (k : K) → at key cmp k l ≡ at key cmp k m
          rest k = sub (same (cmp k (key x))) refl
            where
              sub : (b : Bool) → same (cmp k (key x)) ≡ b → at key cmp k l ≡ at key cmp k m
              sub true p =
                  let kx : k ≡ key x = same-eq O k (key x) p in
                  let ky : k ≡ key y = kx ∙ O.eq (key x) (key y) e in
                  at_none key cmp O k l (λ z i. ap (λ (j : K). cmp j (key z)) kx ∙ s.0 z i) ∙ sym (at_none key cmp O k m (λ z i. ap (λ (j : K). cmp j (key z)) ky ∙ t.0 z i))
              sub false p =
                  let p' : same (cmp k (key y)) ≡ false = ap (λ (j : K). same (cmp k j)) (sym (O.eq (key x) (key y) e)) ∙ p in
                  let hk : cond (same (cmp k (key x))) (some x) (at key cmp k l) ≡ cond (same (cmp k (key y))) (some y) (at key cmp k m) = h k in
                  rw (p, p') at hk

  -- EQUAL MEMBERS, EQUAL TABLES.
  -- A PART OF A TABLE: the rows whose keys pass p.
  pub same_at : (p : K → Bool) (l m : List R) → only key p l ≡ only key p m → (k : K) → p k ≡ true → at key cmp k l ≡ at key cmp k m
  same_at p l m e k s =
      let x : at key cmp k (only key p l) ≡ at key cmp k l = at_only key cmp O p k l ∙ ap (λ (c : Bool). cond c (at key cmp k l) none) s in
      let y : at key cmp k (only key p m) ≡ at key cmp k m = at_only key cmp O p k m ∙ ap (λ (c : Bool). cond c (at key cmp k m) none) s in
      sym x ∙ (ap (at key cmp k) e ∙ y)

  pub only_ext : (p : K → Bool) (l m : List R) → Sorted key cmp l → Sorted key cmp m → ((k : K) → p k ≡ true → at key cmp k l ≡ at key cmp k m) → only key p l ≡ only key p m
  only_ext p l m s t h =
      ext (only key p l) (only key p m) (sorted_only key cmp p l s) (sorted_only key cmp p m t) (λ k. at_only key cmp O p k l ∙ (go k (p k) refl ∙ sym (at_only key cmp O p k m)))
    where
      go : (k : K) (c : Bool) → p k ≡ c → cond (p k) (at key cmp k l) none ≡ cond (p k) (at key cmp k m) none
      go k true e = rw (h k e)
      go k false e = rw e

  -- two tables that agree in a part agree there after the same edits
  pub only_acts : (p : K → Bool) (es : List (Edit R K)) (l m : List R) → Sorted key cmp l → Sorted key cmp m → only key p l ≡ only key p m → only key p (acts key cmp es l) ≡ only key p (acts key cmp es m)
  only_acts p [] l m s t e = e
  only_acts p (d ∷ es) l m s t e =
      only_acts p es (act key cmp d l) (act key cmp d m) (sorted-act key cmp O d l s) (sorted-act key cmp O d m t)
      (only_ext p (act key cmp d l) (act key cmp d m) (sorted-act key cmp O d l s) (sorted-act key cmp O d m t)
      (λ k q. at-act key cmp O d k l s ∙ (ap (effect key cmp d k) (same_at p l m e k q) ∙ sym (at-act key cmp O d k m t))))

  -- EDITS COMMUTE where their effects do.
  pub act-act : (d e : Edit R K) (l : List R) → Sorted key cmp l
      → ((k : K) → effect key cmp d k (effect key cmp e k (at key cmp k l)) ≡ effect key cmp e k (effect key cmp d k (at key cmp k l)))
      → act key cmp d (act key cmp e l) ≡ act key cmp e (act key cmp d l)
  act-act d e l s h = ext (act key cmp d (act key cmp e l)) (act key cmp e (act key cmp d l)) (sorted-act key cmp O d (act key cmp e l) t) (sorted-act key cmp O e (act key cmp d l) u) same_rows
    where
      t : Sorted key cmp (act key cmp e l)
      t = sorted-act key cmp O e l s

      u : Sorted key cmp (act key cmp d l)
      u = sorted-act key cmp O d l s

      same_rows : (k : K) → at key cmp k (act key cmp d (act key cmp e l)) ≡ at key cmp k (act key cmp e (act key cmp d l))
      same_rows k =
          at-act key cmp O d k (act key cmp e l) t ∙ ap (effect key cmp d k) (at-act key cmp O e k l s) ∙ h k
          ∙ sym (at-act key cmp O e k (act key cmp d l) u ∙ ap (effect key cmp e k) (at-act key cmp O d k l s))

  pub put-put-other : (r x : R) (l : List R) → Sorted key cmp l → (key r ≡ key x → ⊥) → insert key cmp r (insert key cmp x l) ≡ insert key cmp x (insert key cmp r l)
  put-put-other r x l s n = act-act (put r) (put x) l s (λ k. go k (same (cmp k (key r))) (same (cmp k (key x))) refl refl)
    where
      go : (k : K) (b c : Bool) → same (cmp k (key r)) ≡ b → same (cmp k (key x)) ≡ c → cond b (some r) (cond c (some x) (at key cmp k l)) ≡ cond c (some x) (cond b (some r) (at key cmp k l))
      go k true true e f = absurd (n (sym (same-eq O k (key r) e) ∙ same-eq O k (key x) f))
      go k true false e f = refl
      go k false true e f = refl
      go k false false e f = refl

  -- the later of two puts with one key stays
  pub put-put-same : (r x : R) (l : List R) → Sorted key cmp l → key r ≡ key x → insert key cmp r (insert key cmp x l) ≡ insert key cmp r l
  put-put-same r x l s e = ext (insert key cmp r (insert key cmp x l)) (insert key cmp r l) (sorted_insert key cmp O r (insert key cmp x l) (sorted_insert key cmp O x l s)) (sorted_insert key cmp O r l s) same_rows
    where
      sub : (k : K) (b : Bool) → same (cmp k (key x)) ≡ b → cond b (some r) (cond (same (cmp k (key x))) (some x) (at key cmp k l)) ≡ cond b (some r) (at key cmp k l)
      sub k true f = refl
      sub k false f = rw f

      same_rows : (k : K) → at key cmp k (insert key cmp r (insert key cmp x l)) ≡ at key cmp k (insert key cmp r l)
      same_rows k =
          at-act key cmp O (put r) k (insert key cmp x l) (sorted_insert key cmp O x l s) ∙ ap (effect key cmp (put r) k) (at-act key cmp O (put x) k l s)
          ∙ sub k (same (cmp k (key r))) (ap (λ (j : K). same (cmp k j)) (sym e)) ∙ sym (at-act key cmp O (put r) k l s)

  -- A ROW THAT IS PUT IS THERE, and rows with other keys stay.
  pub put_in : (r : R) (l : List R) → In r (insert key cmp r l)
  put_in r l = (at_key key cmp O (key r) (insert key cmp r l) r (at-put-same key cmp O r l)).0

  pub in_put : (r : R) (l : List R) (x : R) → Sorted key cmp l → In x l → (key x ≡ key r → ⊥) → In x (insert key cmp r l)
  in_put r l x s i n = in_act_other key cmp O (put r) l x s i n
