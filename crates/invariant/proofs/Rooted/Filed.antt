-- An input is filed behind those that its document has.
use mathlib.Core.Path.{◌≡◌, ◌∙◌, ap}
use mathlib.Core.Logic.{◌⊎◌, inl, inr}
use mathlib.Core.List.{List}
use Rattle.std.specs.Prelude.{Some as some}
use Prim.Native.Nat.{ℕ, suc, ◌≤◌}
use native.Mathlib.Omega.{arith}
use lib.ListN.{length}
use Rattle.sorted.specs.Table.{keep, In, Sorted, insert}
use Rattle.sorted.proofs.Member.{in_keep, keep_in}
use Rattle.sorted.proofs.Sorted.{sorted-keep}
use Rattle.tables.specs.Tables.{inputs, key_of, cmp}
use Rattle.tables.specs.Rows.{same_document}
use Rattle.wim.specs.Nouns.{DocumentNumber, Window, Document, Input, News}
use Rattle.wim.specs.Walks.{document_numbered}
use Rattle.wim.proofs.Numbers.{document-eq, same-document, document-same}
use Rattle.invariant.proofs.Rooted.Stands.{Arrives, Stands}
use Rattle.invariant.proofs.Rooted.Counted.{rising, Gapless, counted}
use Rattle.invariant.proofs.Rooted.Added.{framed_input}

-- the inputs that a document has, and the next one
abbrev pub inputs_of : DocumentNumber → List Input → List Input
inputs_of n is = keep (λ (i : Input). same_document i.document n) is

abbrev pub next_input : DocumentNumber → List Input → News → Input
next_input n is news = record { document = n; arrival = suc (length (inputs_of n is)); news = news }

module _ (ws : List Window) (ds : List Document) (is : List Input) (S : Stands ws ds is) (s : Sorted (key_of inputs) (cmp inputs) is) (n : DocumentNumber) (d : Document) (found : document_numbered ds n ≡ some d) where
  abbrev mine : List Input
  mine = inputs_of n is

  was_in : (x : Input) → In x mine → In x is × (x.document ≡ n)
  was_in x i = let z = in_keep (λ (i : Input). same_document i.document n) is x i in (z.0, same-document x.document n z.1)

  in_mine : (x : Input) → In x is → x.document ≡ n → In x mine
  in_mine x i e = keep_in (λ (i : Input). same_document i.document n) is x i (document-same x.document n e)

  arrived-count : ((x : Input) → In x mine → x.arrival ≤ length mine) × ((length mine ≡ 0) ⊎ ((y : Input) × In y mine × (y.arrival ≡ length mine)))
  arrived-count = counted (λ (i : Input). i.arrival) mine
      (rising (key_of inputs) n.0 mine (sorted-keep (key_of inputs) (cmp inputs) (λ (i : Input). same_document i.document n) is s) (λ x i. ap (λ (m : DocumentNumber). m.0) (was_in x i).1)) gapless
    where
      gapless : Gapless (λ (i : Input). i.arrival) 0 mine
      gapless x i = go (S.framed.arrivals x (was_in x i).0)
        where
          go : Arrives is x → (x.arrival ≡ 1) ⊎ ((y : Input) × In y mine × (suc y.arrival ≡ x.arrival))
          go (inl p) = inl p
          go (inr j) = inr (j.0, in_mine j.0 j.1 (j.2 ∙ (was_in x i).1), j.3)

  pub stands_filed : (news : News) → Stands ws ds (insert (key_of inputs) (cmp inputs) (next_input n is news) is)
  stands_filed news = record { framed = framed_input ws ds is S.framed (next_input n is news) d s found free (behind arrived-count.1); one-active = S.one-active; only_active = S.only_active }
    where
      free : (y : Input) → In y is → key_of inputs y ≡ (n.0, suc (length mine)) → ⊥
      free y i k =
          let l = arrived-count.0 y (in_mine y i (document-eq y.document n (ap (λ (z : ℕ × ℕ). z.0) k))) in
          let q : y.arrival ≡ suc (length mine) = ap (λ (z : ℕ × ℕ). z.1) k in
          omega arith

      behind : (length mine ≡ 0) ⊎ ((y : Input) × In y mine × (y.arrival ≡ length mine)) → (suc (length mine) ≡ 1) ⊎ ((j : Input) × In j is × (j.document ≡ n) × (suc j.arrival ≡ suc (length mine)))
      behind (inl p) = inl (omega arith)
      behind (inr y) = let z = was_in y.0 y.1 in inr (y.0, z.0, z.1, ap suc y.2)
