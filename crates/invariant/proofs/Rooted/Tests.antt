-- Tests that fail, and one of some numbers: the test and the fact.
use mathlib.Core.Path.{◌≡◌, refl}
use mathlib.Core.Logic.{◌⊎◌, inl, inr}
use mathlib.Core.Bool.{Bool, true, false, ◌||◌}
use mathlib.Core.List.{List, [], ◌∷◌}
use Rattle.sorted.specs.Table.{In}
use Rattle.sorted.proofs.Never.{never}
use Rattle.sorted.proofs.Tests.{or_left, or_right, or_one}
use Rattle.tables.specs.Rows.{same_window, same_document, one_of, window_one_of}
use Rattle.wim.specs.Nouns.{WindowNumber, DocumentNumber}
use Rattle.wim.proofs.Numbers.{same-window, window_same, same-document, document-same}

-- TESTS.
pub or_neither : (b c : Bool) → (b || c) ≡ false → (b ≡ false) × (c ≡ false)
or_neither true c e = never (cc)
or_neither false c e = (refl, e)

pub neither_or : (b c : Bool) → b ≡ false → c ≡ false → (b || c) ≡ false
neither_or true c e f = e
neither_or false c e f = f

-- a test fails if its passing leads nowhere
pub fails : (b : Bool) → (b ≡ true → ⊥) → b ≡ false
fails true h = absurd (h refl)
fails false h = refl

pub not-both : {A : Type 0} {b : Bool} → b ≡ true → b ≡ false → A
not-both {b} e f = never (cc)

-- ONE OF SOME NUMBERS.
pub one_in : (n : DocumentNumber) (ms : List DocumentNumber) → one_of n ms ≡ true → In n ms
one_in n [] e = never (cc)
one_in n (m ∷ ms) e = go (or_one (same_document n m) (one_of n ms) e) (one_in n ms)
  where
    go : (same_document n m ≡ true) ⊎ (one_of n ms ≡ true) → (one_of n ms ≡ true → In n ms) → (n ≡ m) ⊎ In n ms
    go (inl p) ih = inl (same-document n m p)
    go (inr p) ih = inr (ih p)

pub in_one : (n : DocumentNumber) (ms : List DocumentNumber) → In n ms → one_of n ms ≡ true
in_one n [] x' = elim x' [ ]
in_one n (m ∷ ms) (inl e) = or_left (same_document n m) (one_of n ms) (document-same n m e)
in_one n (m ∷ ms) (inr i) = or_right (same_document n m) (one_of n ms) (in_one n ms i)

pub window_in : (v : WindowNumber) (ws : List WindowNumber) → window_one_of v ws ≡ true → In v ws
window_in v [] e = never (cc)
window_in v (w ∷ ws) e = go (or_one (same_window v w) (window_one_of v ws) e) (window_in v ws)
  where
    go : (same_window v w ≡ true) ⊎ (window_one_of v ws ≡ true) → (window_one_of v ws ≡ true → In v ws) → (v ≡ w) ⊎ In v ws
    go (inl p) ih = inl (same-window v w p)
    go (inr p) ih = inr (ih p)

pub in_window : (v : WindowNumber) (ws : List WindowNumber) → In v ws → window_one_of v ws ≡ true
in_window v [] x' = elim x' [ ]
in_window v (w ∷ ws) (inl e) = or_left (same_window v w) (window_one_of v ws) (window_same v w e)
in_window v (w ∷ ws) (inr i) = or_right (same_window v w) (window_one_of v ws) (in_window v ws i)
