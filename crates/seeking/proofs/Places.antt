-- Bytes sought one by one: what one byte says, and where the place can be.
use mathlib.Core.Path.{◌≡◌, refl, ◌∙◌, ap}
use mathlib.Core.Bool.{Bool, true, false, cond}
use mathlib.Core.List.{List, [], ◌∷◌}
use Prim.Native.Nat.{ℕ, zero, suc, ◌+◌, ◌≤◌, ◌<◌}
use native.Mathlib.Omega.{arith}
use lib.ListN.{length, get_or, drop}
use lib.Seq.{drop-cons}
use Rattle.seeking.specs.Sought.{until, Sought}

drop_past : (s : List ℕ) (i : ℕ) → length s ≤ i → drop i s ≡ []
drop_past [] zero h = refl
drop_past [] (suc i) h = refl
drop_past (x ∷ s) zero h = absurd (omega arith)
drop_past (x ∷ s) (suc i) h = drop_past s i (omega arith)

length-drop : (s : List ℕ) (i : ℕ) → i ≤ length s → i + length (drop i s) ≡ length s
length-drop s zero h = omega arith
length-drop [] (suc i) h = absurd (omega arith)
length-drop (x ∷ s) (suc i) h = let e = length-drop s i (omega arith) in omega arith

module _ (p : ℕ → Bool) where
  until-within : (s : List ℕ) → until p s ≤ length s
  until-within [] = omega arith
  until-within (x ∷ s) = go (p x) (until-within s)
    where
      go : (h : Bool) → until p s ≤ length s → cond h 0 (suc (until p s)) ≤ suc (length s)
      go true z = omega arith
      go false z = omega arith

  said : (s : List ℕ) (i : ℕ) (h : Bool) → i < length s → p (get_or s i 0) ≡ h → until p (drop i s) ≡ cond h 0 (suc (until p (drop (suc i) s)))
  said s i h l e = ap (until p) (drop-cons s i 0 l) ∙ ap (λ (x : Bool). cond x 0 (suc (until p (drop (suc i) s)))) e

  -- What is left to seek from a place is what was to be sought: at the end, at a byte that passes, at another.
  pub ended : (s : List ℕ) (at i : ℕ) → i + until p (drop i s) ≡ at + until p (drop at s) → length s ≤ i → Sought p s at i
  ended s at i e h = record { exactly = let z = ap (until p) (drop_past s i h) in omega arith }

  pub hit : (s : List ℕ) (at i : ℕ) → i + until p (drop i s) ≡ at + until p (drop at s) → i < length s → p (get_or s i 0) ≡ true → Sought p s at i
  hit s at i e h t = record { exactly = let z = said s i true h t in omega arith }

  pub again : (s : List ℕ) (i t : ℕ) → i + until p (drop i s) ≡ t → i < length s → p (get_or s i 0) ≡ false → (i + 1) + until p (drop (i + 1) s) ≡ t
  again s i t e h f =
      let z = said s i false h f in
      let o : suc i ≡ i + 1 = omega arith in
      let next : until p (drop (suc i) s) ≡ until p (drop (i + 1) s) = ap (λ (j : ℕ). until p (drop j s)) o in
      omega arith

module _ {p : ℕ → Bool} {s : List ℕ} {at r : ℕ} (f : Sought p s at r) where
  pub from : at ≤ r
  from = let e = f.exactly in omega arith

  pub within : at ≤ length s → r ≤ length s
  within h = let e = f.exactly in let u = until-within p (drop at s) in let l = length-drop s at h in omega arith
