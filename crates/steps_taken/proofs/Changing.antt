-- Memories compared number for number: `count` places differ before the place i.
use Rattle.std.proofs.Common.{◌≡◌, ℕ, zero, suc, ◌+◌, ◌<◌, ◌≤◌, Bool, true, false, cond, eqb, List, [], ◌∷◌, length, get_or, drop, refl, ap, ◌∙◌, arith, drop-cons}
use Rattle.steps_taken.specs.Changes.{differ, changes}

pub differ_once : (x y d : ℕ) → d ≡ differ x y → d ≤ 1
differ_once x y d e = let o = go (eqb x y) in omega arith
  where
    go : (h : Bool) → cond h 0 1 ≤ 1
    go true = omega arith
    go false = omega arith

drop-none : (a : List ℕ) → drop 0 a ≡ a
drop-none [] = refl
drop-none (x ∷ a) = refl

none_left : (a b : List ℕ) (i : ℕ) → length a ≤ i → changes (drop i a) b ≡ 0
none_left [] b zero h = refl
none_left [] b (suc i) h = refl
none_left (x ∷ a) b zero h = absurd (omega arith)
none_left (x ∷ a) b (suc i) h = none_left a b i (omega arith)

pub record Comparing (a b : List ℕ) (n count i : ℕ) : Type 0 where
  pub long : length a ≡ n
  pub wide : length b ≡ n
  pub few : count ≤ i
  pub within : i ≤ n
  pub rest : count + changes (drop i a) (drop i b) ≡ changes a b

pub compare_start : (a b : List ℕ) {n : ℕ} → length a ≡ n → length b ≡ n → Comparing a b n 0 0
compare_start a b l w = record { long = l; wide = w; few = omega arith; within = omega arith; rest = let e = ap (λ (s : List ℕ). changes s (drop 0 b)) (drop-none a) ∙ ap (changes a) (drop-none b) in omega arith }

module _ {a b : List ℕ} {n count i : ℕ} (c : Comparing a b n count i) where
  pub compare_next : (x y d : ℕ) → i < n → x ≡ get_or a i 0 → y ≡ get_or b i 0 → d ≡ differ x y → Comparing a b n (count + d) (i + 1)
  compare_next x y d h p q e =
      let l = c.long in
      let w = c.wide in
      let f = c.few in
      let one = differ_once x y d e in
      let they = ap (λ (z : ℕ). differ z y) p ∙ ap (differ (get_or a i 0)) q in
      let here : changes (drop i a) (drop i b) ≡ changes (get_or a i 0 ∷ drop (suc i) a) (get_or b i 0 ∷ drop (suc i) b) = ap (λ (s : List ℕ). changes s (drop i b)) (drop-cons a i 0 (omega arith)) ∙ ap (changes (get_or a i 0 ∷ drop (suc i) a)) (drop-cons b i 0 (omega arith)) in
      let o : suc i ≡ i + 1 = omega arith in
      let next : changes (drop (suc i) a) (drop (suc i) b) ≡ changes (drop (i + 1) a) (drop (i + 1) b) = ap (λ (j : ℕ). changes (drop j a) (drop j b)) o in
      let r = c.rest in
      record { long = l; wide = w; few = omega arith; within = omega arith; rest = omega arith }

  pub compare_end : n ≤ i → count ≡ changes a b
  compare_end h = let l = c.long in let z = none_left a (drop i b) i (omega arith) in let r = c.rest in omega arith
