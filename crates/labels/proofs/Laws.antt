-- Labels in lists of labels, and numbers in lists of numbers.
use mathlib.Core.Path.{◌≡◌, refl, ap, ap₂, ◌∙◌}
use mathlib.Core.Bool.{false, ◌||◌}
use mathlib.Core.List.{List, [], ◌∷◌}
use Prim.Native.Nat.{ℕ, min}
use native.Mathlib.Omega.{arith}
use lib.Dec.{eqb}
use lib.ListN.{length, take}
use Rattle.std.specs.List.{list_any}
use Rattle.std.proofs.lemmas.Bool.Decides.{nat_tests}
use Rattle.types.specs.declared.Label.{Label as Mark}
use Rattle.types.specs.declared.Label.TheVariants.{OfWindow, OfRequest, OfDns, OfKey, OfDocument}
use Rattle.sorted.proofs.Count.{all-rows}
use Rattle.tables.specs.Nouns.{WindowNumber, DocumentNumber}
use Rattle.tables.specs.Labels.{host, same_label}
use Rattle.tables.specs.Rows.{one_of, window_one_of}
use Rattle.tables.specs.View.{label_of}

-- no fresh number is a host
pub no-host : (l : Mark) (h : ℕ) → same_label (label_of l) (host, h) ≡ false
no-host (OfWindow n) h = refl
no-host (OfRequest n) h = refl
no-host (OfDns n) h = refl
no-host (OfKey n) h = refl
no-host (OfDocument n) h = refl

-- A number is one of some where a slice contains it, which asks the other way round; what counts is a part of the array.
eq_turned : (a b : ℕ) → eqb b a ≡ eqb a b
eq_turned a b = grind (arith, nat_tests)

one-of : (n : DocumentNumber) (l : List DocumentNumber) → list_any (λ m. eqb m.0 n.0) l ≡ one_of n l
one-of n [] = refl
one-of n (m ∷ l) = ap₂ ◌||◌ (eq_turned n.0 m.0) (one-of n l)

window-one_of : (n : WindowNumber) (l : List WindowNumber) → list_any (λ m. eqb m.0 n.0) l ≡ window_one_of n l
window-one_of n [] = refl
window-one_of n (m ∷ l) = ap₂ ◌||◌ (eq_turned n.0 m.0) (window-one_of n l)

module _ (count capacity k : ℕ) where
  pub contains-one_of : (n : DocumentNumber) (rows : List DocumentNumber) → length rows ≡ capacity → k ≡ min count capacity → list_any (λ m. eqb m.0 n.0) (take k rows) ≡ one_of n (take count rows)
  contains-one_of n rows l e = one-of n (take k rows) ∙ ap (one_of n) (all-rows count capacity k rows l e)

  pub contains-window_one_of : (n : WindowNumber) (rows : List WindowNumber) → length rows ≡ capacity → k ≡ min count capacity → list_any (λ m. eqb m.0 n.0) (take k rows) ≡ window_one_of n (take count rows)
  contains-window_one_of n rows l e = window-one_of n (take k rows) ∙ ap (window_one_of n) (all-rows count capacity k rows l e)
