-- The code compares five numbers one by one; the definitions match a list of labels. Both say the same, since the five have different kinds.
use mathlib.Core.Path.{◌≡◌, refl, sym, ap, ◌∙◌}
use mathlib.Core.Bool.{Bool, true, false, cond, not, ◌&&◌, false≢true}
use mathlib.Core.List.{List, [], ◌∷◌}
use Prim.Native.Nat.{ℕ, ◌<◌}
use native.Mathlib.Omega.{arith}
use borrow.Author.Tests.{eq-eqb, ne_eqb}
use lib.Dec.{eqb, lit≤}
use Rattle.types.specs.declared.Fresh.{Fresh}
use Rattle.types.specs.declared.Wants.{Wants}
use Rattle.types.specs.declared.refusals.Refusal.TheVariants.{NotFresh}
use Rattle.sorted.proofs.Tests.{and_left, and_right}
use Rattle.tables.specs.Tables.{Tables}
use Rattle.tables.specs.Labels.{Kind, code, Label}
use Rattle.wim.specs.Program.{Program, refused, run}
use Rattle.wim.specs.Step.{numbers, given, fresh_labels, all_fresh, fitted, admit}
use Rattle.stepping.specs.Wanted.{flags, chosen, kinds, picked, exactly, ready}
use Rattle.stepping.specs.Brings.{Brings}
use Rattle.stepping.proofs.Bringing.{matches, stale, fresh-fitted}

-- LABELS OF RISING KINDS.
Above : ℕ → List Label → Type 0
Above n [] = Unit {0}
Above n (l ∷ ls) = (n < code l.0) × Above n ls

Rising : List Label → Type 0
Rising [] = Unit {0}
Rising (l ∷ ls) = Above (code l.0) ls × Rising ls

five_rising : (f : Fresh) → Rising (numbers f)
unfolding Rising Above
five_rising f = ((lit≤ tt, (lit≤ tt, (lit≤ tt, (lit≤ tt, tt)))), ((lit≤ tt, (lit≤ tt, (lit≤ tt, tt))), ((lit≤ tt, (lit≤ tt, tt)), ((lit≤ tt, tt), (tt, tt)))))

none-given : (κ : Kind) (ks : List Kind) (ls : List Label) → Above (code κ) ls → matches (κ ∷ ks) (given ls) ≡ false
unfolding Above
none-given κ ks [] h = refl
none-given κ ks (l ∷ ls) h = go (eqb l.1 0) (none-given κ ks ls h.1)
  where
    go : (z : Bool) → matches (κ ∷ ks) (given ls) ≡ false → matches (κ ∷ ks) (cond z (given ls) (l ∷ given ls)) ≡ false
    go true ih = ih
    go false ih = let k = h.0 in rw (ne_eqb (code κ) (code l.0) (λ (e : code κ ≡ code l.0). omega arith))

one_too_many : (l : Label) (f : List Label) (xs : List Bool) (ls : List Label) → Above (code l.0) ls → matches (kinds (chosen xs ls)) (l ∷ f) ≡ false
unfolding Above
one_too_many l f [] ls h = refl
one_too_many l f (x ∷ xs) [] h = refl
one_too_many l f (x ∷ xs) (m ∷ ls) h = go x (one_too_many l f xs ls h.1)
  where
    go : (x : Bool) → matches (kinds (chosen xs ls)) (l ∷ f) ≡ false → matches (kinds (cond x (m ∷ chosen xs ls) (chosen xs ls))) (l ∷ f) ≡ false
    go true ih = let k = h.0 in rw (ne_eqb (code m.0) (code l.0) (λ (e : code m.0 ≡ code l.0). omega arith))
    go false ih = ih

-- as many flags as labels
data Paired : List Bool → List Label → Type 0 where
  both_end : Paired [] []
  both-more : {xs : List Bool} {ls : List Label} (x : Bool) (l : Label) → Paired xs ls → Paired (x ∷ xs) (l ∷ ls)

exact_matches : {xs : List Bool} {ls : List Label} → Paired xs ls → Rising ls → exactly xs ls ≡ matches (kinds (chosen xs ls)) (given ls)
unfolding Rising
exact_matches both_end r = refl
exact_matches (both-more {xs} {ls} x l p) r = go x (eqb l.1 0) (exact_matches p r.1)
  where
    go : (x z : Bool) → exactly xs ls ≡ matches (kinds (chosen xs ls)) (given ls)
        → (cond z (not x) x && exactly xs ls) ≡ matches (kinds (cond x (l ∷ chosen xs ls) (chosen xs ls))) (cond z (given ls) (l ∷ given ls))
    go true true ih = sym (none-given l.0 (kinds (chosen xs ls)) ls r.0)
    go true false ih = rw (eq-eqb (code l.0) (code l.0) refl) ih
    go false true ih = ih
    go false false ih = sym (one_too_many l (given ls) xs ls r.0)

exact_given : {xs : List Bool} {ls : List Label} → Paired xs ls → exactly xs ls ≡ true → given ls ≡ chosen xs ls
exact_given both_end e = refl
exact_given (both-more {xs} {ls} x l p) e = go x (eqb l.1 0) refl e (exact_given p)
  where
    go : (x z : Bool) → eqb l.1 0 ≡ z → (cond z (not x) x && exactly xs ls) ≡ true → (exactly xs ls ≡ true → given ls ≡ chosen xs ls)
        → cond z (given ls) (l ∷ given ls) ≡ cond x (l ∷ chosen xs ls) (chosen xs ls)
    go true true q e ih = absurd (false≢true e)
    go true false q e ih = ap (l ∷◌) (ih e)
    go false true q e ih = ih e
    go false false q e ih = absurd (false≢true e)

paired : (w : Wants) (f : Fresh) → Paired (flags w) (numbers f)
paired w f = both-more _ _ (both-more _ _ (both-more _ _ (both-more _ _ (both-more _ _ both_end))))

-- 5 for a program that refuses nothing more, and what is left beyond it
pub unready : (p : Program) (w : Wants) (f : Fresh) (b : Tables) → Brings (kinds (picked w f)) p → ready w f b ≡ false → admit (fresh_labels f) b (run p b (fresh_labels f)) ≡ refused NotFresh
unready p w f b h e = stale p (kinds (picked w f)) h b (fresh_labels f) (ap (◌&& all_fresh b (fresh_labels f)) (sym (exact_matches (paired w f) (five_rising f))) ∙ e)

pub readied : (p : Program) (w : Wants) (f : Fresh) (b : Tables) → ready w f b ≡ true → admit (fresh_labels f) b (run p b (fresh_labels f)) ≡ fitted (run p b (picked w f))
readied p w f b e =
    let x = exactly (flags w) (numbers f) in
    fresh-fitted (fresh_labels f) b (run p b (fresh_labels f)) (and_right x (all_fresh b (fresh_labels f)) e)
    ∙ ap (λ (l : List Label). fitted (run p b l)) (exact_given (paired w f) (and_left x (all_fresh b (fresh_labels f)) e))

-- the last of five tests ends the list
pub five : (a b c d e : Bool) → (a && (b && (c && (d && e)))) ≡ (a && (b && (c && (d && (e && true)))))
five a b c d true = refl
five a b c d false = refl
