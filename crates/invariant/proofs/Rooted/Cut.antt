-- Windows and documents that go together: where what stays has its window, its parent, its earlier documents and its active document stay, it stands.
use mathlib.Core.Path.{◌≡◌, refl, sym, ◌∙◌, ap}
use mathlib.Core.Logic.{◌⊎◌, inl, inr}
use mathlib.Core.Bool.{Bool, true, false, not}
use mathlib.Core.List.{List}
use Rattle.std.specs.Prelude.{Some as some}
use Prim.Native.Nat.{suc}
use borrow.Author.Tests.{not-true}
use Rattle.sorted.specs.Order.{same}
use Rattle.sorted.specs.Table.{keep, In}
use Rattle.sorted.proofs.Linear.{linearℕ, same-eq}
use Rattle.sorted.proofs.Member.{in_keep, keep_in, find-keep}
use Rattle.tables.specs.Tables.{windows, cmp}
use Rattle.tables.specs.Rows.{same_document}
use Rattle.wim.specs.Nouns.{WindowNumber, DocumentNumber, Window, Document, Input, Under}
use Rattle.wim.specs.Walks.{window_numbered, document_numbered, steps, top_above}
use Rattle.wim.proofs.Numbers.{row-numbered, window-eq, same-document, found-document}
use Rattle.invariant.proofs.Rooted.Stands.{Follows, Arrives, Stands}
use Rattle.invariant.proofs.Rooted.Lines.{top-follows}

-- what is left where `W` tells which windows go and `D` which documents
abbrev pub windows_left : (WindowNumber → Bool) → List Window → List Window
windows_left W ws = keep (λ (r : Window). not (W r.number)) ws

abbrev pub documents_left : (DocumentNumber → Bool) → List Document → List Document
documents_left D ds = keep (λ (d : Document). not (D d.number)) ds

abbrev pub inputs_left : (DocumentNumber → Bool) → List Input → List Input
inputs_left D is = keep (λ (i : Input). not (D i.document)) is

pub record Cut (W : WindowNumber → Bool) (D : DocumentNumber → Bool) (ws : List Window) (ds : List Document) : Type 0 where
  pub parents : (r : Window) (n : DocumentNumber) → In r ws → W r.number ≡ false → r.parent ≡ Under n → D n ≡ false
  pub homes : (d : Document) → In d ds → D d.number ≡ false → W d.window ≡ false
  pub histories : (d e : Document) → In d ds → In e ds → e.window ≡ d.window → D d.number ≡ false → (suc e.place ≡ d.place) ⊎ (e.active ≡ true) → D e.number ≡ false

module _ (W : WindowNumber → Bool) (D : DocumentNumber → Bool) (ws : List Window) (ds : List Document) (is : List Input) (C : Cut W D ws ds) (S : Stands ws ds is) where
  pub row_stays : (v : WindowNumber) → W v ≡ false → window_numbered (windows_left W ws) v ≡ window_numbered ws v
  unfolding window_numbered
  row_stays v e = find-keep (λ (r : Window). same (cmp windows v.0 r.number.0)) (λ (r : Window). not (W r.number)) ws
      (λ r i p. ap not (ap W (sym (window-eq v r.number (same-eq linearℕ v.0 r.number.0 p))) ∙ e))

  document-stays : (n : DocumentNumber) → D n ≡ false → document_numbered (documents_left D ds) n ≡ document_numbered ds n
  unfolding document_numbered
  document-stays n e = find-keep (λ (d : Document). same_document d.number n) (λ (d : Document). not (D d.number)) ds
      (λ d i p. ap not (ap D (same-document d.number n p) ∙ e))

  pub was : (d : Document) → In d (documents_left D ds) → In d ds × (D d.number ≡ false)
  was d i = let z = in_keep (λ (d : Document). not (D d.number)) ds d i in (z.0, not-true (D d.number) z.1)

  pub stays : (d : Document) → In d ds → D d.number ≡ false → In d (documents_left D ds)
  stays d i e = keep_in (λ (d : Document). not (D d.number)) ds d i (ap not e)

  lines_stay : (v t : WindowNumber) → W v ≡ false → top_above steps ws ds v ≡ some t → top_above steps (windows_left W ws) (documents_left D ds) v ≡ some t
  lines_stay v t = top-follows ws (windows_left W ws) ds (documents_left D ds) (λ x. W x ≡ false) (λ x r p e. row_stays x p ∙ e) held steps v t
    where
      held : (x : WindowNumber) (r : Window) (n : DocumentNumber) (d : Document) → W x ≡ false → window_numbered ws x ≡ some r → r.parent ≡ Under n → document_numbered ds n ≡ some d
          → (e : Document) × (document_numbered (documents_left D ds) n ≡ some e) × (e.window ≡ d.window) × (W d.window ≡ false)
      held x r n d p e f g =
          let z = row-numbered ws x r e in
          let k : D n ≡ false = C.parents r n z.0 (ap W z.1 ∙ p) f in
          let y = found-document ds n d g in
          (d, document-stays n k ∙ g, refl, C.homes d y.0 (ap D y.1 ∙ k))

  pub stands-cut : Stands (windows_left W ws) (documents_left D ds) (inputs_left D is)
  stands-cut =
      record {
        framed = record {
          windows-there = λ d i. (let z = was d i in let r = S.framed.windows-there d z.0 in (r.0, row_stays d.window (C.homes d z.0 z.1) ∙ r.1));
          documents-there = λ x i. (let z = kept-input x i in let d = S.framed.documents-there x z.0 in (d.0, document-stays x.document z.1 ∙ d.1));
          tops-there = λ r i. (let z = in_keep (λ (r : Window). not (W r.number)) ws r i in let t = S.framed.tops-there r z.0 in (t.0, lines_stay r.number t.0 (not-true (W r.number) z.1) t.1));
          places = λ d i. (let z = was d i in place d z (S.framed.places d z.0));
          arrivals = λ x i. (let z = kept-input x i in arrival x z (S.framed.arrivals x z.0));
        };
        one-active = λ d i. (let z = was d i in let e = S.one-active d z.0 in (e.0, stays e.0 e.1 (C.histories d e.0 z.0 e.1 e.2 z.1 (inr e.3)), e.2, e.3));
        only_active = λ d e i j. S.only_active d e (was d i).0 (was e j).0;
      }
    where
      kept-input : (x : Input) → In x (inputs_left D is) → In x is × (D x.document ≡ false)
      kept-input x i = let z = in_keep (λ (i : Input). not (D i.document)) is x i in (z.0, not-true (D x.document) z.1)

      place : (d : Document) → In d ds × (D d.number ≡ false) → Follows ds d
          → Follows (documents_left D ds) d
      place d z (inl p) = inl p
      place d z (inr e) = inr (e.0, stays e.0 e.1 (C.histories d e.0 z.0 e.1 e.2 z.1 (inl e.3)), e.2, e.3)

      arrival : (x : Input) → In x is × (D x.document ≡ false) → Arrives is x
          → Arrives (inputs_left D is) x
      arrival x z (inl p) = inl p
      arrival x z (inr j) = inr (j.0, keep_in (λ (i : Input). not (D i.document)) is j.0 j.1 (ap not (ap D j.2 ∙ z.1)), j.2, j.3)
