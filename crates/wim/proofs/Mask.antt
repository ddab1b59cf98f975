-- Masks: a bit for each row, the lowest for the first; how many are set, and which is the first.
use mathlib.Core.Path.{◌≡◌, refl, sym, ◌∙◌, ap, ap₂}
use mathlib.Core.Logic.{inl, inr}
use mathlib.Core.Bool.{Bool, true, false, cond}
use mathlib.Core.List.{List, [], ◌∷◌, ◌++◌}
use Rattle.std.specs.Prelude.{None as none, Some as some}
use Prim.Native.Nat.{ℕ, zero, suc, ◌+◌, ◌*◌, ◌/◌, ◌%◌, ◌^◌, ◌≤◌, ◌<◌, suc-le-suc}
use native.Mathlib.Nat.{pow-suc, pow-succ', mul_assoc, div-one}
use native.Mathlib.Omega.{arith}
use lib.ListN.{length, get_or}
use lib.Pow.{shr-shr}
use lib.Count.{ones, ones_step, under, count_trailing_zeros}
use Rattle.sorted.specs.Order.{bit}
use Rattle.sorted.specs.Table.{find, keep, In}
use Rattle.wim.specs.Nouns.{WindowNumber, Window}
use Rattle.wim.specs.Navigable.{mask_of}

-- a bit below a number: taken off by halving
pub low_bit : (b : Bool) (m : ℕ) → (bit b + 2 * m) % 2 ≡ bit b
low_bit true m = omega arith
low_bit false m = omega arith

pub high_bits : (b : Bool) (m : ℕ) → (bit b + 2 * m) / 2 ≡ m
high_bits true m = omega arith
high_bits false m = omega arith

module _ (p : WindowNumber → Bool) where
  -- BIT i IS THE ANSWER FOR ROW i.
  pub mask-bit : (l : List Window) (i : ℕ) (d : Window) → i < length l → mask_of p l / 2 ^ i % 2 ≡ bit (p (get_or l i d).number)
  mask-bit [] i d h = absurd (omega arith)
  mask-bit (r ∷ l) zero d h = ap (λ (n : ℕ). n % 2) (div-one (mask_of p (r ∷ l))) ∙ low_bit (p r.number) (mask_of p l)
  mask-bit (r ∷ l) (suc i) d h =
      let e : suc i ≡ 1 + i = omega arith in
      ap (λ (j : ℕ). mask_of p (r ∷ l) / 2 ^ j % 2) e ∙ ap (λ (n : ℕ). n % 2) (sym (shr-shr (mask_of p (r ∷ l)) 1 i))
      ∙ ap (λ (n : ℕ). n / 2 ^ i % 2) (high_bits (p r.number) (mask_of p l)) ∙ mask-bit l i d (omega arith)

  -- NO BIT STANDS ABOVE THOSE.
  pub mask_below : (l : List Window) → mask_of p l < 2 ^ length l
  mask_below [] = omega arith
  mask_below (r ∷ l) = go (p r.number) (mask_below l)
    where
      go : (b : Bool) → mask_of p l < 2 ^ length l → bit b + 2 * mask_of p l < 2 ^ suc (length l)
      go true h = let z = pow-suc 2 (length l) in omega arith
      go false h = let z = pow-suc 2 (length l) in omega arith

  -- AS MANY BITS ARE SET AS ROWS PASS.
  pub mask-ones : (l : List Window) → ones (mask_of p l) ≡ length (keep (λ (r : Window). p r.number) l)
  unfolding keep ones
  mask-ones [] = refl
  mask-ones (r ∷ l) =
      ones_step (mask_of p (r ∷ l)) ∙ ap₂ (λ (x y : ℕ). x + ones y) (low_bit (p r.number) (mask_of p l)) (high_bits (p r.number) (mask_of p l)) ∙ go (p r.number) (mask-ones l)
    where
      kept : List Window
      kept = keep (λ (r : Window). p r.number) l

      go : (b : Bool) → ones (mask_of p l) ≡ length kept → bit b + ones (mask_of p l) ≡ length (cond b (r ∷ kept) kept)
      go true e = omega arith
      go false e = omega arith

  -- THE LOWEST BIT SET IS THAT OF THE FIRST ROW THAT PASSES.
  pub mask_first : (l : List Window) (k : ℕ) → length l ≤ k → zero < mask_of p l
      → (count_trailing_zeros k (mask_of p l) < length l) × ((d : Window) → find (λ (r : Window). p r.number) l ≡ some (get_or l (count_trailing_zeros k (mask_of p l)) d))
  unfolding find count_trailing_zeros
  mask_first [] k h n = absurd (omega arith)
  mask_first (r ∷ l) zero h n = absurd (omega arith)
  mask_first (r ∷ l) (suc k) h n = rw (low_bit (p r.number) (mask_of p l), high_bits (p r.number) (mask_of p l)) (go (p r.number) n (mask_first l k (omega arith)))
    where
      q : Window → Bool
      q x = p x.number

      go : (b : Bool) → zero < bit b + 2 * mask_of p l
          → (zero < mask_of p l → (count_trailing_zeros k (mask_of p l) < length l) × ((d : Window) → find q l ≡ some (get_or l (count_trailing_zeros k (mask_of p l)) d)))
          → (under (bit b) (count_trailing_zeros k (mask_of p l)) < suc (length l)) × ((d : Window) → cond b (some r) (find q l) ≡ some (get_or (r ∷ l) (under (bit b) (count_trailing_zeros k (mask_of p l))) d))
      go true m ih = (omega arith, λ d. refl)
      go false m ih = let z = ih (omega arith) in (suc-le-suc z.0, z.1)

  pub mask-none : (l : List Window) → mask_of p l ≡ zero → find (λ (r : Window). p r.number) l ≡ none
  unfolding find
  mask-none [] e = refl
  mask-none (r ∷ l) e = go (p r.number) e (mask-none l)
    where
      q : Window → Bool
      q x = p x.number

      go : (b : Bool) → bit b + 2 * mask_of p l ≡ zero → (mask_of p l ≡ zero → find q l ≡ none) → cond b (some r) (find q l) ≡ none
      go true e ih = absurd (omega arith)
      go false e ih = ih (omega arith)

  -- the rows so far, and those to come above them
  pub mask_append : (l m : List Window) → mask_of p (l ++ m) ≡ mask_of p l + 2 ^ length l * mask_of p m
  mask_append [] m = omega arith
  mask_append (r ∷ l) m =
      let ih = mask_append l m in
      let e : 2 ^ suc (length l) * mask_of p m ≡ 2 * (2 ^ length l * mask_of p m) = ap (λ (n : ℕ). n * mask_of p m) (pow-succ' 2 (length l)) ∙ mul_assoc 2 (2 ^ length l) (mask_of p m) in
      omega arith

-- tests that the rows do not tell apart
pub mask-same : (p q : WindowNumber → Bool) (l : List Window) → ((r : Window) → In r l → p r.number ≡ q r.number) → mask_of p l ≡ mask_of q l
mask-same p q [] h = refl
mask-same p q (r ∷ l) h = ap₂ (λ (b : Bool) (n : ℕ). bit b + 2 * n) (h r (inl refl)) (mask-same p q l (λ x i. h x (inr i)))
