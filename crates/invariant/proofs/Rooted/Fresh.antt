-- Fresh numbers: no window and no document of the tables has them.
use mathlib.Core.Path.{◌≡◌, sym, ◌∙◌, ap}
use mathlib.Core.Logic.{inl, inr}
use mathlib.Core.Bool.{true}
use mathlib.Core.List.{List, ◌∷◌}
use Prim.Native.Nat.{ℕ}
use Rattle.sorted.specs.Table.{In}
use Rattle.tables.specs.Tables.{windows, documents, Tables}
use Rattle.tables.specs.Labels.{window, document, Label, clean, is_fresh}
use Rattle.wim.specs.Nouns.{Window, Document}
use Rattle.wim.specs.Step.{all_fresh}
use Rattle.sorted.proofs.Tests.{and_split}
use Rattle.invariant.proofs.Numbered.Fresh.{clean_absent}

abbrev pub Fresh : Tables → Label → Type 0
Fresh b l = is_fresh b l ≡ true

pub all-fresh : (b : Tables) (f : List Label) → all_fresh b f ≡ true → (l : Label) → In l f → Fresh b l
unfolding all_fresh
all-fresh b mathlib.Core.List.[] e l x'' = elim x'' [ ]
all-fresh b (m ∷ f) e l (inl p) = ap (is_fresh b) p ∙ (and_split (is_fresh b m) (all_fresh b f) e).0
all-fresh b (m ∷ f) e l (inr i) = all-fresh b f (and_split (is_fresh b m) (all_fresh b f) e).1 l i

module _ (b : Tables) (n : ℕ) where
  pub new-window : Fresh b (window, n) → (r : Window) → In r (b windows) → r.number.0 ≡ n → ⊥
  unfolding is_fresh
  new-window e r i p = clean_absent windows (window, n) (b windows) (and_split (clean windows (window, n) (b windows)) _ e).0 r i (inl (ap (λ (k : ℕ). (window, k)) (sym p)))

  pub new-document : Fresh b (document, n) → (d : Document) → In d (b documents) → d.number.0 ≡ n → ⊥
  unfolding is_fresh
  new-document e d i p =
      let c : clean documents (document, n) (b documents) ≡ true = (and_split (clean documents (document, n) (b documents)) _ (and_split (clean windows (document, n) (b windows)) _ e).1).0 in
      clean_absent documents (document, n) (b documents) c d i (inr (inl (ap (λ (k : ℕ). (document, k)) (sym p))))
