-- Bytes that were put into a slice, as a part of it.
--     put_append                 one part behind another
--     put_byte                   one byte
--     puts_nowhere               a run over a slice of no place
--     puts_bytes · puts_next     what is left of a slice as long as the code's are, and the position behind what was put
use mathlib.Core.Path.{◌≡◌, refl, sym, ap, ◌∙◌}
use mathlib.Core.List.{List, [], ◌∷◌, ◌++◌}
use Prim.Native.Nat.{ℕ, zero, suc, ◌+◌, ◌≤◌, ◌<◌, min}
use native.Mathlib.Omega.{arith}
use mathlib.Core.Bool.{Bool, true, false, cond}
use lib.ListN.{length, set, length-set}
use lib.Seq.{set_out}
use lib.Dec.{ltb, leb}
use borrow.Author.Tests.{ltb-false, leb-true, leb-false}
use Rattle.csexp.specs.Puts.{top, put, Puts}

pub put_append : (a b : List ℕ) (x : List ℕ × ℕ) → put (a ++ b) x ≡ put b (put a x)
unfolding put
put_append [] b x = refl
put_append (y ∷ a) b (s, at) = put_append a b (set s at y, min (at + 1) top)

-- one byte, which is stored if the slice has that place
pub put_byte : (b : ℕ) (s : List ℕ) (at : ℕ) → put (b ∷ []) (s, at) ≡ (cond (ltb at (length s)) (set s at b) s, min (at + 1) top)
unfolding put
put_byte b s at = go (ltb at (length s)) refl
  where
    go : (c : Bool) → ltb at (length s) ≡ c → ◌≡◌ {A = List ℕ × ℕ} (set s at b, min (at + 1) top) (cond c (set s at b) s, min (at + 1) top)
    go true e = refl
    go false e = λ i. (set_out s at b (ltb-false at (length s) e) i, min (at + 1) top)

-- s with bs from `at` on, as far as s reaches
unfoldable pub over : List ℕ → ℕ → List ℕ → List ℕ
over [] at bs = []
over (x ∷ s) (suc at) bs = x ∷ over s at bs
over (x ∷ s) zero [] = x ∷ s
over (x ∷ s) zero (b ∷ bs) = b ∷ over s zero bs

over_none : (s : List ℕ) (at : ℕ) → over s at [] ≡ s
unfolding over
over_none [] at = refl
over_none (x ∷ s) zero = refl
over_none (x ∷ s) (suc at) = ap (λ (l : List ℕ). x ∷ l) (over_none s at)

over_past : (s : List ℕ) (at : ℕ) (bs : List ℕ) → length s ≤ at → over s at bs ≡ s
unfolding over
over_past [] at bs h = refl
over_past (x ∷ s) zero bs h = absurd (omega arith)
over_past (x ∷ s) (suc at) bs h = ap (λ (l : List ℕ). x ∷ l) (over_past s at bs (omega arith))

-- one byte, and the others behind it
over_more : (s : List ℕ) (at b : ℕ) (bs : List ℕ) → over (set s at b) (suc at) bs ≡ over s at (b ∷ bs)
unfolding over
over_more [] at b bs = refl
over_more (x ∷ s) zero b bs = refl
over_more (x ∷ s) (suc at) b bs = ap (λ (l : List ℕ). x ∷ l) (over_more s at b bs)

put_next : (bs s : List ℕ) (at : ℕ) → at ≤ top → (put bs (s, at)).1 ≡ min (at + length bs) top
unfolding put
put_next [] s at h = omega arith
put_next (b ∷ bs) s at h = put_next bs (set s at b) (min (at + 1) top) (omega arith) ∙ omega arith

put_bytes : (bs s : List ℕ) (at : ℕ) → length s ≤ top → at ≤ top → (put bs (s, at)).0 ≡ over s at bs
unfolding put
put_bytes [] s at l h = sym (over_none s at)
put_bytes (b ∷ bs) s at l h = put_bytes bs (set s at b) (min (at + 1) top) (let e = length-set s at b in omega arith) (omega arith) ∙ there (leb (suc at) top) refl
  where
    there : (c : Bool) → leb (suc at) top ≡ c → over (set s at b) (min (at + 1) top) bs ≡ over s at (b ∷ bs)
    there true e =
        let k : suc at ≤ top = leb-true (suc at) top e in
        ap (λ (n : ℕ). over (set s at b) n bs) (let q : min (at + 1) top ≡ suc at = omega arith in q) ∙ over_more s at b bs
    there false e =
        let k : top < suc at = leb-false (suc at) top e in
        let past : length s ≤ at = omega arith in
        ap (λ (r : List ℕ). over r (min (at + 1) top) bs) (set_out s at b past) ∙ over_past s (min (at + 1) top) bs (omega arith) ∙ sym (over_past s at (b ∷ bs) past)

module _ {bs s s₂ : List ℕ} {at p : ℕ} (u : Puts bs s at s₂ p) (h : at ≤ top) where
  pub puts_next : p ≡ min (at + length bs) top
  puts_next = ap (λ (x : List ℕ × ℕ). x.1) u.exactly ∙ put_next bs s at h

  pub puts_bytes : length s ≤ top → s₂ ≡ over s at bs
  puts_bytes l = ap (λ (x : List ℕ × ℕ). x.0) u.exactly ∙ put_bytes bs s at l h

-- a run over a slice of no place only counts
pub puts_nowhere : {bs : List ℕ} {n : ℕ} → n ≡ length bs → n ≤ top → Puts bs [] 0 [] n
unfolding over
puts_nowhere {bs} {n} e h = record {
  exactly = λ i. (sym (put_bytes bs [] 0 (omega arith) (omega arith)) i, (let q : n ≡ (put bs ([], 0)).1 = omega (arith, put_next bs [] 0 (omega arith)) in q) i);
}

-- a part that is filled whole
pub over-all : (s bs : List ℕ) → length s ≡ length bs → over s 0 bs ≡ bs
unfolding over
over-all [] [] h = refl
over-all [] (b ∷ bs) h = absurd (omega arith)
over-all (x ∷ s) [] h = absurd (omega arith)
over-all (x ∷ s) (b ∷ bs) h = ap (λ (l : List ℕ). b ∷ l) (over-all s bs (omega arith))
