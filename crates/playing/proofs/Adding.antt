-- Bytes that are added to a buffer.
--     adds_none · adds_byte · adds-into     no byte, one, some that fit
--     adds_then · adds_as                   one part behind another; the same bytes, said otherwise
use mathlib.Core.Path.{◌≡◌, refl, sym, ap, subst, ◌∙◌}
use mathlib.Core.List.{List, [], ◌∷◌, ◌++◌, append_assoc, append-nil}
use Prim.Native.Nat.{ℕ, ◌+◌, ◌≤◌, ◌<◌}
use native.Mathlib.Numerals.{add-one}
use native.Mathlib.Omega.{arith}
use lib.ListN.{length, take, drop, set, length-append}
use lib.Seq.{length-take-le, take-suc-set, drop-set-lt, take_at, drop_at, drop-drop}
use Rattle.playing.specs.Lines.{Adds}

pub adds_none : (s : List ℕ) (at : ℕ) → Adds [] s at s at
adds_none s at = record { place = omega arith; before = sym (append-nil (take at s)); behind = refl }

pub adds_byte : (s : List ℕ) (at b : ℕ) → at < length s → Adds (b ∷ []) s at (set s at b) (at + 1)
adds_byte s at b h = record {
  place = refl;
  before = ap (λ (n : ℕ). take n (set s at b)) (add-one at) ∙ take-suc-set s at b h;
  behind = drop-set-lt (at + 1) s at b (omega arith);
}

pub adds-into : (l s : List ℕ) (at : ℕ) → at + length l ≤ length s → Adds l s at (take at s ++ (l ++ drop (at + length l) s)) (at + length l)
adds-into l s at h =
    let long : length (take at s ++ l) ≡ at + length l = length-append (take at s) l ∙ ap (λ (n : ℕ). n + length l) (length-take-le at s (omega arith)) in
    let apart : take at s ++ (l ++ drop (at + length l) s) ≡ (take at s ++ l) ++ drop (at + length l) s = sym (append_assoc (take at s) l (drop (at + length l) s)) in
    record {
      place = refl;
      before = ap (take (at + length l)) apart ∙ take_at (take at s ++ l) (drop (at + length l) s) (at + length l) long;
      behind = ap (drop (at + length l)) apart ∙ drop_at (take at s ++ l) (drop (at + length l) s) (at + length l) long;
    }

pub adds_as : {l k s s₂ : List ℕ} {at p : ℕ} → l ≡ k → Adds l s at s₂ p → Adds k s at s₂ p
adds_as {l} {k} {s} {s₂} {at} {p} e u = subst (λ (x : List ℕ). Adds x s at s₂ p) e u

pub adds_then : {l k s s₁ s₂ : List ℕ} {at p q : ℕ} → Adds l s at s₁ p → Adds k s₁ p s₂ q → Adds (l ++ k) s at s₂ q
adds_then {l} {k} {s} {s₁} {s₂} {at} {p} {q} u v =
    let split : (x : List ℕ) → drop q x ≡ drop (length k) (drop p x) = λ x. ap (λ (n : ℕ). drop n x) v.place ∙ sym (drop-drop (length k) p x) in
    record {
      place = let a = u.place in let b = v.place in let c = length-append l k in omega arith;
      before = v.before ∙ ap (λ (x : List ℕ). x ++ k) u.before ∙ append_assoc (take at s) l k;
      behind = v.behind ∙ split s₁ ∙ ap (drop (length k)) u.behind ∙ sym (split s);
    }
