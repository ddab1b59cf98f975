-- A row more: a window, a document or an input that is put in keeps the frame.
use mathlib.Core.Path.{◌≡◌, refl, sym, ◌∙◌, ap, subst}
use mathlib.Core.Logic.{◌⊎◌, inl, inr}
use mathlib.Core.Bool.{Bool, false, cond}
use mathlib.Core.List.{List, [], ◌∷◌}
use Rattle.std.specs.Prelude.{Option, Some as some}
use Prim.Native.Nat.{◌≤◌}
use lib.ListN.{length}
use Rattle.std.specs.declared.cmp.Ordering.{Ordering as Order}
use Rattle.std.specs.declared.cmp.Ordering.TheVariants.{Less as Before, Equal as Same, Greater as After}
use Rattle.sorted.specs.Order.{Linear}
use Rattle.sorted.specs.Table.{find, In, Sorted, place, insert}
use Rattle.sorted.proofs.Linear.{linearℕ}
use Rattle.sorted.proofs.Edits.{in_insert}
use Rattle.sorted.proofs.Lookup.{at-put-other, at-put-same}
use Rattle.sorted.proofs.Equal.{in_put}
use Rattle.tables.specs.Tables.{windows, documents, inputs, key_of, cmp}
use Rattle.tables.specs.Rows.{same_document}
use Rattle.wim.specs.Nouns.{WindowNumber, DocumentNumber, Window, Document, Input, Top, Under}
use Rattle.wim.specs.Walks.{window_numbered, document_numbered, steps, top_above}
use Rattle.invariant.proofs.Rooted.Tests.{fails}
use Rattle.wim.proofs.Numbers.{row-numbered, found-document, window-eq, same-document}
use Rattle.invariant.proofs.Rooted.Stands.{Follows, Arrives, Framed, linear_pair}
use Rattle.invariant.proofs.Rooted.Lines.{is-topmost, is_held, up_top, top_itself, top-follows}
use Rattle.invariant.proofs.Rooted.Depth.{settled}

-- what is found beside a new row
find-beside : {R K : Type 0} (key : R → K) (order : K → K → Order) → Linear K order → (q : R → Bool) (r : R) (l : List R)
    → q r ≡ false → ((x : R) → In x l → key x ≡ key r → ⊥) → find q (insert key order r l) ≡ find q l
unfolding find insert
find-beside key order O q r [] e n = rw e
find-beside {R} {K} key order O q r (x ∷ l) e n = go (order (key r) (key x)) refl (find-beside key order O q r l e (λ y i. n y (inr i)))
  where
    go : (c : Order) → order (key r) (key x) ≡ c → find q (insert key order r l) ≡ find q l → find q (place key order c r x l (insert key order r l)) ≡ cond (q x) (some x) (find q l)
    go Before p ih = rw e
    go Same p ih = absurd (n x (inl refl) (sym (O.eq (key r) (key x) p)))
    go After p ih = ap (λ (o : Option R). cond (q x) (some x) o) ih

module _ (ws : List Window) (ds : List Document) (is : List Input) (F : Framed ws ds is) where
  -- A NEW WINDOW, with a number that no window has.
  module _ (r : Window) (new : (x : Window) → In x ws → x.number ≡ r.number → ⊥) where
    abbrev pub with_row : List Window
    with_row = insert (key_of windows) (cmp windows) r ws

    row_stays : (v : WindowNumber) (x : Window) → window_numbered ws v ≡ some x → window_numbered with_row v ≡ some x
    unfolding window_numbered
    row_stays v x e =
        let z = row-numbered ws v x e in
        at-put-other (key_of windows) (cmp windows) linearℕ v.0 r ws (λ p. new x z.0 (z.1 ∙ window-eq v r.number p)) ∙ e

    row-found : window_numbered with_row r.number ≡ some r
    unfolding window_numbered
    row-found = at-put-same (key_of windows) (cmp windows) linearℕ r ws

    lines_stay : (v t : WindowNumber) → top_above steps ws ds v ≡ some t → top_above steps with_row ds v ≡ some t
    lines_stay v t e = top-follows ws with_row ds ds (λ x. Unit {0}) (λ x y p. row_stays x y) (λ x y n d p f g h. (d, h, refl, tt)) steps v t tt e

    framed_window : (t : WindowNumber) → top_above steps with_row ds r.number ≡ some t → Framed with_row ds is
    framed_window t e =
        record {
          windows-there = λ d i. (let z = F.windows-there d i in (z.0, row_stays d.window z.0 z.1));
          documents-there = F.documents-there;
          tops-there = λ x i. top x (in_insert (key_of windows) (cmp windows) r ws x i);
          places = F.places;
          arrivals = F.arrivals;
        }
      where
        top : (x : Window) → (x ≡ r) ⊎ In x ws → (t : WindowNumber) × (top_above steps with_row ds x.number ≡ some t)
        top x (inl p) = (t, ap (λ (y : Window). top_above steps with_row ds y.number) p ∙ e)
        top x (inr i) = let z = F.tops-there x i in (z.0, lines_stay x.number z.0 z.1)

    -- a top-level window
    pub framed_top : r.parent ≡ Top → Framed with_row ds is
    framed_top p = framed_window r.number (top_itself with_row ds 31 r.number (is-topmost with_row ds r.number r row-found p))

    -- a frame in a document that is there
    pub framed_frame : (d : Document) → r.parent ≡ Under d.number → (e : Document) → document_numbered ds d.number ≡ some e → length with_row ≤ steps → Framed with_row ds is
    framed_frame d p e f l =
        let w = F.windows-there e (found-document ds d.number e f).0 in
        let x = row-numbered ws e.window w.0 w.1 in
        let t = F.tops-there w.0 x.0 in
        let u : top_above steps with_row ds e.window ≡ some t.0 = lines_stay e.window t.0 (ap (top_above steps ws ds) (sym x.1) ∙ t.1) in
        framed_window t.0 (settled with_row ds steps r.number l ∙ up_top with_row ds steps r.number t.0 e (is_held with_row ds r.number r d.number e row-found p f) u)

  -- A NEW DOCUMENT, in a window that is there, with a number that no document has, at a place that follows on another or is the first.
  module _ (d : Document) (s : Sorted (key_of documents) (cmp documents) ds)
      (new : (x : Document) → In x ds → x.number ≡ d.number → ⊥)
      (free : (x : Document) → In x ds → key_of documents x ≡ key_of documents d → ⊥) where
    abbrev pub with_document : List Document
    with_document = insert (key_of documents) (cmp documents) d ds

    document-stays : (n : DocumentNumber) (x : Document) → document_numbered ds n ≡ some x → document_numbered with_document n ≡ some x
    unfolding document_numbered
    document-stays n x e =
        let z = found-document ds n x e in
        find-beside (key_of documents) (cmp documents) linear_pair (λ (y : Document). same_document y.number n) d ds
        (fails (same_document d.number n) (λ p. new x z.0 (z.1 ∙ sym (same-document d.number n p)))) free ∙ e

    pub still_in : (x : Document) → In x ds → In x with_document
    still_in x i = in_put (key_of documents) (cmp documents) linear_pair d ds x s i (free x i)

    pub framed_document : (r : Window) → window_numbered ws d.window ≡ some r
        → Follows ds d → Framed ws with_document is
    framed_document r e p =
        record {
          windows-there = λ x i. there x (in_insert (key_of documents) (cmp documents) d ds x i);
          documents-there = λ x i. (let z = F.documents-there x i in (z.0, document-stays x.document z.0 z.1));
          tops-there = λ x i. (let z = F.tops-there x i in (z.0, lines x z.0 z.1));
          places = λ x i. behind x (in_insert (key_of documents) (cmp documents) d ds x i);
          arrivals = F.arrivals;
        }
      where
        there : (x : Document) → (x ≡ d) ⊎ In x ds → (r : Window) × (window_numbered ws x.window ≡ some r)
        there x (inl q) = (r, ap (λ (y : Document). window_numbered ws y.window) q ∙ e)
        there x (inr i) = F.windows-there x i

        lines : (x : Window) (t : WindowNumber) → top_above steps ws ds x.number ≡ some t → top_above steps ws with_document x.number ≡ some t
        lines x t = top-follows ws ws ds with_document (λ v. Unit {0}) (λ v y p f. f) (λ v y n z p f g h. (z, document-stays n z h, refl, tt)) steps x.number t tt

        wider : (x : Document) → Follows ds x → Follows with_document x
        wider x (inl q) = inl q
        wider x (inr z) = inr (z.0, still_in z.0 z.1, z.2, z.3)

        behind : (x : Document) → (x ≡ d) ⊎ In x ds → Follows with_document x
        behind x (inl q) = subst (Follows with_document) (sym q) (wider d p)
        behind x (inr i) = wider x (F.places x i)

  -- A NEW INPUT, of a document that is there, with an arrival that follows on another or is the first.
  pub framed_input : (x : Input) (d : Document) → Sorted (key_of inputs) (cmp inputs) is → document_numbered ds x.document ≡ some d
      → ((y : Input) → In y is → key_of inputs y ≡ key_of inputs x → ⊥) → Arrives is x
      → Framed ws ds (insert (key_of inputs) (cmp inputs) x is)
  framed_input x d s e free p =
      record {
        windows-there = F.windows-there;
        documents-there = λ y i. there y (in_insert (key_of inputs) (cmp inputs) x is y i);
        tops-there = F.tops-there;
        places = F.places;
        arrivals = λ y i. behind y (in_insert (key_of inputs) (cmp inputs) x is y i);
      }
    where
      there : (y : Input) → (y ≡ x) ⊎ In y is → (d : Document) × (document_numbered ds y.document ≡ some d)
      there y (inl q) = (d, ap (λ (z : Input). document_numbered ds z.document) q ∙ e)
      there y (inr i) = F.documents-there y i

      more : List Input
      more = insert (key_of inputs) (cmp inputs) x is

      wider : (y : Input) → Arrives is y → Arrives more y
      wider y (inl q) = inl q
      wider y (inr z) = inr (z.0, in_put (key_of inputs) (cmp inputs) linear_pair x is z.0 s z.1 (free z.0 z.1), z.2, z.3)

      behind : (y : Input) → (y ≡ x) ⊎ In y is → Arrives more y
      behind y (inl q) = subst (Arrives more) (sym q) (wider x p)
      behind y (inr i) = wider y (F.arrivals y i)
