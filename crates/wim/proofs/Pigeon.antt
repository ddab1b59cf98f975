-- Rows of as many different heights as there are numbers below k are k rows (pigeonhole).
use mathlib.Core.Path.{◌≡◌, refl, sym, ◌∙◌, ap, subst}
use mathlib.Core.Logic.{◌⊎◌, inl, inr}
use mathlib.Core.List.{List, ◌∷◌}
use Prim.Native.Nat.{ℕ, zero, suc, ◌≤◌, ◌<◌}
use native.Mathlib.Omega.{arith}
use lib.ListN.{length}
use Rattle.sorted.specs.Table.{In}

-- one row taken out of a list
take_out : {A : Type 0} (l : List A) (x : A) → In x l → (l' : List A) × (length l ≡ suc (length l')) × ((y : A) → In y l → (y ≡ x → ⊥) → In y l')
take_out {A = A} mathlib.Core.List.[] x x3 = elim x3 [ ]
take_out (z ∷ l) x (inl e) = (l, refl, pass)
  where
    pass : (y : _) → (y ≡ z) ⊎ In y l → (y ≡ x → ⊥) → In y l
    pass y (inl p) n = absurd (n (p ∙ sym e))
    pass y (inr i) n = i
take_out (z ∷ l) x (inr i) = go (take_out l x i)
  where
    go : ((l' : List _) × (length l ≡ suc (length l')) × ((y : _) → In y l → (y ≡ x → ⊥) → In y l')) → (l' : List _) × (suc (length l) ≡ suc (length l')) × ((y : _) → (y ≡ z) ⊎ In y l → (y ≡ x → ⊥) → In y l')
    go s = (z ∷ s.0, ap suc s.1, pass)
      where
        pass : (y : _) → (y ≡ z) ⊎ In y l → (y ≡ x → ⊥) → (y ≡ z) ⊎ In y s.0
        pass y (inl p) n = inl p
        pass y (inr j) n = inr (s.2 y j n)

pub pigeon : {A : Type 0} (H : ℕ → A → Type 0) → ((m n : ℕ) (x : A) → H m x → H n x → m ≡ n) → (k : ℕ) (l : List A) → ((m : ℕ) → m < k → (x : A) × In x l × H m x) → k ≤ length l
pigeon H u zero l w = omega arith
pigeon H u (suc k) l w =
    let x = w k (omega arith) in
    let s = take_out l x.0 x.1 in
    let r = pigeon H u k s.0 (λ m p. let y = w m (omega arith) in (y.0, s.2 y.0 y.1 (λ e. let z : m ≡ k = u m k x.0 (subst (H m) e y.2) x.2 in omega arith), y.2)) in
    let e = s.1 in
    omega arith
