-- Rooted speaks of three tables only: windows, documents and inputs. Here it is said of these three lists.
use mathlib.Core.Path.{◌≡◌}
use mathlib.Core.Logic.{◌⊎◌}
use mathlib.Core.Bool.{true}
use mathlib.Core.List.{List, []}
use Rattle.std.specs.Prelude.{Some as some}
use Prim.Native.Nat.{ℕ, suc}
use Rattle.sorted.specs.Order.{Linear, cmpℕ, lex}
use Rattle.sorted.specs.Table.{In, Sorted}
use Rattle.sorted.proofs.Linear.{linearℕ, linear_lex}
use Rattle.sorted.proofs.Member.{find-some}
use Rattle.sorted.proofs.Lookup.{at_in}
use Rattle.tables.specs.Tables.{windows, documents, inputs, key_of, cmp, Tables}
use Rattle.tables.specs.Rows.{same_document}
use Rattle.wim.specs.Nouns.{WindowNumber, DocumentNumber, Window, Document, Input}
use Rattle.wim.specs.Walks.{window_numbered, document_numbered, steps, top_above}
use Rattle.wim.specs.Invariant.{Rooted}
use Rattle.wim.proofs.Numbers.{document-same}

-- a document at its window's first place, or at the place after another
abbrev pub Follows : List Document → Document → Type 0
Follows ds d = (d.place ≡ 1) ⊎ ((e : Document) × In e ds × (e.window ≡ d.window) × (suc e.place ≡ d.place))

-- an input that is the first of its document, or came after another
abbrev pub Arrives : List Input → Input → Type 0
Arrives is i = (i.arrival ≡ 1) ⊎ ((j : Input) × In j is × (j.document ≡ i.document) × (suc j.arrival ≡ i.arrival))

-- everything but which documents are active
pub record Framed (ws : List Window) (ds : List Document) (is : List Input) : Type 0 where
  pub windows-there : (d : Document) → In d ds → (r : Window) × (window_numbered ws d.window ≡ some r)
  pub documents-there : (i : Input) → In i is → (d : Document) × (document_numbered ds i.document ≡ some d)
  pub tops-there : (r : Window) → In r ws → (t : WindowNumber) × (top_above steps ws ds r.number ≡ some t)
  pub places : (d : Document) → In d ds → Follows ds d
  pub arrivals : (i : Input) → In i is → Arrives is i

pub record Stands (ws : List Window) (ds : List Document) (is : List Input) : Type 0 where
  pub framed : Framed ws ds is
  pub one-active : (d : Document) → In d ds → (e : Document) × In e ds × (e.window ≡ d.window) × (e.active ≡ true)
  pub only_active : (d e : Document) → In d ds → In e ds → d.window ≡ e.window → d.active ≡ true → e.active ≡ true → d ≡ e

pub rooted-stands : (b : Tables) → Rooted b → Stands (b windows) (b documents) (b inputs)
rooted-stands b R =
    record {
      framed = record { windows-there = R.windows-there; documents-there = R.documents-there; tops-there = R.tops-there; places = R.places; arrivals = R.arrivals };
      one-active = R.one-active;
      only_active = R.only_active;
    }

pub stands-rooted : (b : Tables) → Stands (b windows) (b documents) (b inputs) → Rooted b
stands-rooted b S =
    record {
      windows-there = S.framed.windows-there;
      documents-there = S.framed.documents-there;
      tops-there = S.framed.tops-there;
      places = S.framed.places;
      arrivals = S.framed.arrivals;
      one-active = S.one-active;
      only_active = S.only_active;
    }

-- NO ROWS AT ALL.
pub stands-empty : Stands [] [] []
stands-empty =
    record {
      framed = record { windows-there = λ d i. absurd i; documents-there = λ x i. absurd i; tops-there = λ r i. absurd i; places = λ d i. absurd i; arrivals = λ x i. absurd i };
      one-active = λ d i. absurd i;
      only_active = λ d e i. absurd i;
    }

-- ROWS BY THEIR NUMBERS.
pub in_row : (ws : List Window) → Sorted (key_of windows) (cmp windows) ws → (r : Window) → In r ws → window_numbered ws r.number ≡ some r
unfolding window_numbered
in_row ws s r i = at_in (key_of windows) (cmp windows) linearℕ ws r s i

pub in_document : (ds : List Document) (n : DocumentNumber) (d : Document) → In d ds → d.number ≡ n → (e : Document) × (document_numbered ds n ≡ some e)
unfolding document_numbered
in_document ds n d i e = find-some (λ (x : Document). same_document x.number n) ds d i (document-same d.number n e)

pub linear_pair : Linear (ℕ × ℕ) (lex cmpℕ cmpℕ)
linear_pair = linear_lex linearℕ linearℕ
