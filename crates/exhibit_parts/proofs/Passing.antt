-- The loop that writes something of each row of a table that passes a test, one behind the other: rows before i are done. Inputs, cookies and windows
-- are written by it.
--     pass_start · pass_takes · pass_skips · pass_end
use mathlib.Core.Path.{◌≡◌, refl, sym, ap, subst, ◌∙◌}
use mathlib.Core.Bool.{Bool, true, false, cond}
use mathlib.Core.List.{List, [], ◌∷◌, ◌++◌}
use Prim.Native.Nat.{ℕ, ◌+◌, ◌≤◌, ◌<◌}
use native.Mathlib.Numerals.{add-one}
use native.Mathlib.Omega.{arith}
use lib.ListN.{length, take}
use lib.Seq.{take-suc, take_all, get_or-take}
use Rattle.csexp.specs.Term.{Term, Terms, nil, cons}
use Rattle.csexp.specs.Encode.{each, joins}
use Rattle.csexp.specs.Puts.{top, Writes, Items}
use Rattle.csexp.proofs.write.Steps.{absent, single, both}
use Rattle.memory.specs.Rows.{Layout, rows, count, table, Read}
use Rattle.memory.proofs.Table.{counted}
use Rattle.sorted.specs.Table.{keep}

pub record Passing {A : Type 0} (t : Layout A) (p : A → Bool) (f : A → Term) (m : List ℕ) (n i : ℕ) (s : List ℕ) (at : ℕ) (s₂ : List ℕ) (q : ℕ) : Type 0 where
  pub counts : n ≡ length (table t m)
  pub all : Items (each f (keep p (take i (table t m)))) s at s₂ q

module _ {A : Type 0} (p : A → Bool) (f : A → Term) where
  -- the terms of one row more: its own behind the others, or none
  each-takes : (l : List A) (x : A) → p x ≡ true → each f (keep p (l ++ (x ∷ []))) ≡ joins (each f (keep p l)) (cons (f x) nil)
  unfolding keep each joins
  each-takes [] x e = rw e
  each-takes (y ∷ l) x e = go (p y) (each-takes l x e)
    where
      go : (c : Bool) → each f (keep p (l ++ (x ∷ []))) ≡ joins (each f (keep p l)) (cons (f x) nil)
          → each f (cond c (y ∷ keep p (l ++ (x ∷ []))) (keep p (l ++ (x ∷ [])))) ≡ joins (each f (cond c (y ∷ keep p l) (keep p l))) (cons (f x) nil)
      go true h = ap (cons (f y)) h
      go false h = h

  each-skips : (l : List A) (x : A) → p x ≡ false → each f (keep p (l ++ (x ∷ []))) ≡ each f (keep p l)
  unfolding keep each
  each-skips [] x e = rw e
  each-skips (y ∷ l) x e = go (p y) (each-skips l x e)
    where
      go : (c : Bool) → each f (keep p (l ++ (x ∷ []))) ≡ each f (keep p l)
          → each f (cond c (y ∷ keep p (l ++ (x ∷ []))) (keep p (l ++ (x ∷ [])))) ≡ each f (cond c (y ∷ keep p l) (keep p l))
      go true h = ap (cons (f y)) h
      go false h = h

module _ {A : Type 0} {t : Layout A} {p : A → Bool} {f : A → Term} {m : List ℕ} {n : ℕ} where
  pub pass_start : (s : List ℕ) (at : ℕ) → n ≡ length (table t m) → at ≤ top → Passing t p f m n 0 s at s at
  unfolding keep each
  pass_start s at e h = record { counts = e; all = absent s at h }

  module _ {i : ℕ} {s s₁ : List ℕ} {at q : ℕ} (u : Passing t p f m n i s at s₁ q) where
    more : {r : A} → Read t m i r → i < n → take (i + 1) (table t m) ≡ take i (table t m) ++ (r ∷ [])
    more {r} g h =
        let a = u.counts in
        let b = counted t m in
        ap (λ (k : ℕ). take k (table t m)) (add-one i)
        ∙ take-suc (table t m) i (t.decode []) (omega arith)
        ∙ ap (λ (x : A). take i (table t m) ++ (x ∷ [])) (get_or-take (count t m) (rows t m) i (t.decode []) (omega arith) ∙ sym g.is)

    pub pass_takes : {r : A} {s₂ : List ℕ} {q₂ : ℕ} → Read t m i r → i < n → p r ≡ true → Writes (f r) s₁ q s₂ q₂ → Passing t p f m n (i + 1) s at s₂ q₂
    pass_takes {r} {s₂} {q₂} g h e w = record {
      counts = u.counts;
      all = subst (λ (ts : Terms). Items ts s at s₂ q₂)
          (sym (ap (λ (x : List A). each f (keep p x)) (more g h) ∙ each-takes p f (take i (table t m)) r e))
          (both u.all (single w));
    }

    pub pass_skips : {r : A} → Read t m i r → i < n → p r ≡ false → Passing t p f m n (i + 1) s at s₁ q
    pass_skips {r} g h e = record {
      counts = u.counts;
      all = subst (λ (ts : Terms). Items ts s at s₁ q)
          (sym (ap (λ (x : List A). each f (keep p x)) (more g h) ∙ each-skips p f (take i (table t m)) r e))
          u.all;
    }

    pub pass_end : n ≤ i → Items (each f (keep p (table t m))) s at s₁ q
    pass_end h = let a = u.counts in subst (λ (x : List A). Items (each f (keep p x)) s at s₁ q) (take_all i (table t m) (omega arith)) u.all
