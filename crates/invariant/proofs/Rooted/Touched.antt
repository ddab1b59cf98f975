-- What a step does before its command: nothing, or what a script stores. Of the three tables that only changes a document's state.
use mathlib.Core.Path.{◌≡◌, refl, sym, ap, subst₃}
use mathlib.Core.List.{List, [], ◌∷◌, map}
use Prim.Native.Nat.{◌≤◌}
use lib.ListN.{length}
use Rattle.tables.specs.Tables.{windows, documents, inputs, Tables}
use Rattle.tables.specs.Labels.{Label}
use Rattle.tables.specs.Rows.{same_document, with_state, changing}
use Rattle.wim.specs.Nouns.{WindowNumber, DocumentNumber, Cookie, Output, Sending, Window, Document, Input}
use Rattle.wim.specs.Walks.{steps}
use Rattle.wim.specs.Program.{Program}
use Rattle.wim.specs.Sending.{send}
use Rattle.wim.specs.Script.{store}
use Rattle.invariant.proofs.Rooted.Stands.{Stands}
use Rattle.invariant.proofs.Rooted.Revised.{Calm, calm_same, calm_state, calm_where}
use Rattle.invariant.proofs.Rooted.Walk.{Keeps}

-- WHAT IS CARRIED ALONG: tables of no more windows than there are steps upward stand. It depends on three tables only.
abbrev pub Whole : Tables → Type 0
Whole b = length (b windows) ≤ steps → Stands (b windows) (b documents) (b inputs)

-- HTTP_SEND changes none of the three
pub kept_send : (F : Label → Type 0) (o : Sending) (b : Tables) → Whole b → Keeps Whole F (send o) b
unfolding send
kept_send F o b h = λ q f n g. h

-- the documents changed calmly, windows and inputs as they were
pub record Touched (b c : Tables) : Type 0 where
  pub change : Document → Document
  pub calm : Calm change
  pub same-windows : c windows ≡ b windows
  pub same-documents : c documents ≡ map change (b documents)
  pub same_inputs : c inputs ≡ b inputs

-- what is shown of the tables before, with some documents changed calmly, holds of the tables after
pub carried : (Q : List Window → List Document → List Input → Type 0) (b c : Tables) (T : Touched b c) → Q (b windows) (map T.change (b documents)) (b inputs) → Q (c windows) (c documents) (c inputs)
carried Q b c T h = subst₃ Q (sym T.same-windows) (sym T.same-documents) (sym T.same_inputs) h

-- A PRELUDE: a program goes on after it with tables touched so.
abbrev pub Light : (Program → Program) → Type 1
Light storing = (P : Tables → Type 0) (F : Label → Type 0) (p : Program) (b : Tables) → ((c : Tables) → Touched b c → Keeps P F p c) → Keeps P F (storing p) b

map_same : {A : Type 0} (l : List A) → map (λ x. x) l ≡ l
map_same [] = refl
map_same (x ∷ l) = ap (x ∷◌) (map_same l)

-- nothing before
pub untouched : (b : Tables) → Touched b b
untouched b =
    record {
      change = λ d. d;
      calm = calm_same;
      same-windows = refl;
      same-documents = sym (map_same (b documents));
      same_inputs = refl;
    }

pub light_none : Light (λ p. p)
light_none P F p b h = h b (untouched b)

-- what a script stores
pub calm_changing : (n : DocumentNumber) (f : Document → Document) → Calm f → Calm (changing n f)
calm_changing n f c = calm_where (λ d. same_document d.number n) f c

pub light_store : (d : Document) (top : WindowNumber) (merged : List Cookie) (out : Output) → Light (store d top merged out)
light_store d top merged out P F p b h = h _ (record {
  change = changing d.number (with_state out.state);
  calm = calm_changing d.number (with_state out.state) (calm_state out.state);
  same-windows = refl;
  same-documents = refl;
  same_inputs = refl;
})
