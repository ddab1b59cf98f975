-- Places and arrivals count from 1 without gaps, so none exceeds the rows of its table.
use mathlib.Core.Path.{◌≡◌, refl, ◌∙◌, ap}
use mathlib.Core.Logic.{◌⊎◌, inl, inr}
use mathlib.Core.Bool.{Bool}
use mathlib.Core.List.{List}
use Prim.Native.Nat.{ℕ, suc, ◌≤◌}
use native.Mathlib.Omega.{arith}
use borrow.Author.Tests.{eq-eqb, eqb-true}
use lib.Dec.{eqb}
use lib.ListN.{length}
use Rattle.sorted.specs.Order.{cmpℕ, lex}
use Rattle.sorted.specs.Table.{keep, In, Sorted}
use Rattle.sorted.proofs.Member.{in_keep, keep_in, length_keep}
use Rattle.sorted.proofs.Sorted.{sorted-keep}
use Rattle.tables.specs.Tables.{documents, inputs, key_of, cap, Tables}
use Rattle.wim.specs.Nouns.{WindowNumber, DocumentNumber, Document, Input}
use Rattle.wim.specs.Invariant.{Numbered, Rooted}
use Rattle.invariant.proofs.Rooted.Counted.{rising, Gapless, counted}

module _ {A : Type 0} (key : A → ℕ × ℕ) (l : List A) (s : Sorted key (lex cmpℕ cmpℕ) l) where
  -- the first of its owner, or the next after another of its owner
  abbrev Follows : A → Type 0
  Follows x = ((key x).1 ≡ 1) ⊎ ((y : A) × In y l × ((key y).0 ≡ (key x).0) × (suc (key y).1 ≡ (key x).1))

  bounded : ((x : A) → In x l → Follows x) → (x : A) → In x l → (key x).1 ≤ length l
  bounded follows x i =
      let all = (counted (λ y. (key y).1) mine (rising key (key x).0 mine (sorted-keep key (lex cmpℕ cmpℕ) own l s) (λ y j. (was_in y j).1)) gapless).0 x (in_mine x i refl) in
      let few = length_keep own l in
      omega arith
    where
      own : A → Bool
      own y = eqb (key y).0 (key x).0

      mine : List A
      mine = keep own l

      was_in : (y : A) → In y mine → In y l × ((key y).0 ≡ (key x).0)
      was_in y j = let z = in_keep own l y j in (z.0, eqb-true (key y).0 (key x).0 z.1)

      in_mine : (y : A) → In y l → (key y).0 ≡ (key x).0 → In y mine
      in_mine y j e = keep_in own l y j (eq-eqb (key y).0 (key x).0 e)

      gapless : Gapless (λ y. (key y).1) 0 mine
      gapless y j = go (follows y (was_in y j).0)
        where
          go : Follows y → ((key y).1 ≡ 1) ⊎ ((z : A) × In z mine × (suc (key z).1 ≡ (key y).1))
          go (inl p) = inl p
          go (inr z) = inr (z.0, in_mine z.0 z.1 (z.2 ∙ (was_in y j).1), z.3)

module _ (b : Tables) (N : Numbered b) (R : Rooted b) where
  pub places_bounded : (d : Document) → In d (b documents) → d.place ≤ cap documents
  places_bounded d i =
      let few = bounded (key_of documents) (b documents) (N.sorted documents) (λ x j. elim (R.places x j) [ inl p ↦ inl p | inr e ↦ inr (e.0, e.1, ap (λ (w : WindowNumber). w.0) e.2, e.3) ]) d i in
      let size = N.sizes documents in
      omega arith

  pub arrivals_bounded : (x : Input) → In x (b inputs) → x.arrival ≤ cap inputs
  arrivals_bounded x i =
      let few = bounded (key_of inputs) (b inputs) (N.sorted inputs) (λ y j. elim (R.arrivals y j) [ inl p ↦ inl p | inr z ↦ inr (z.0, z.1, ap (λ (n : DocumentNumber). n.0) z.2, z.3) ]) x i in
      let size = N.sizes inputs in
      omega arith
