-- Small laws of the tests and of what reading finds.
use mathlib.Core.Path.{◌≡◌, refl}
use mathlib.Core.Bool.{Bool, true, false, cond}
use mathlib.Core.List.{List}
use Prim.Native.Nat.{ℕ, ◌≤◌}
use lib.Dec.{leb}
use borrow.Author.Tests.{leb-true, le-leb}
use Rattle.sorted.proofs.Never.{never}
use Rattle.csexp.specs.Read.{Got, no, got, then, digit}

pub cond_cong : {A : Type 0} (b : Bool) (x y z : A) → (b ≡ false → y ≡ z) → cond b x y ≡ cond b x z
cond_cong true x y z h = refl
cond_cong false x y z h = h refl

pub no-got : {A B : Type 0} {a : A} {r : List ℕ} → no ≡ got a r → B
no-got e = never (cc)

pub false_true : {B : Type 0} → false ≡ true → B
false_true e = never (cc)

-- Both steps of a reading that came to something came to something.
pub then_inv : {A B : Type 0} (m : Got A) {k : A → List ℕ → Got B} {b : B} {r : List ℕ} → then m k ≡ got b r
    → (a : A) × (s : List ℕ) × (m ≡ got a s) × (k a s ≡ got b r)
then_inv no e = no-got e
then_inv (got a s) e = (a, s, refl, e)

pub then_cong : {A B : Type 0} (m : Got A) {k l : A → List ℕ → Got B} → ((a : A) (r : List ℕ) → m ≡ got a r → k a r ≡ l a r)
    → then m k ≡ then m l
then_cong no h = refl
then_cong (got a r) h = h a r refl

pub digit_low : (b : ℕ) → digit b ≡ true → 48 ≤ b
digit_low b e = go (leb 48 b) refl e
  where
    go : (t : Bool) → leb 48 b ≡ t → cond t (leb b 57) false ≡ true → 48 ≤ b
    go true h e = leb-true 48 b h
    go false h e = false_true e

pub digit-high : (b : ℕ) → digit b ≡ true → b ≤ 57
digit-high b e = go (leb 48 b) e
  where
    go : (t : Bool) → cond t (leb b 57) false ≡ true → b ≤ 57
    go true e = leb-true b 57 e
    go false e = false_true e

pub is_digit : (b : ℕ) → 48 ≤ b → b ≤ 57 → digit b ≡ true
is_digit b l h = simp (le-leb 48 b l, le-leb b 57 h)
