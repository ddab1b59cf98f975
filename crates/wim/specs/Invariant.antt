-- What holds of the tables that accepted steps have made from empty ones: of whatever items numbered and rooted, of items that were read in range too.
use Rattle.std.specs.Prelude.{◌≡◌, ◌⊎◌, true, suc, ◌≤◌, length}
use Rattle.std.specs.Prelude.{Option, Some as some}
use Rattle.sorted.specs.Table.{In, Sorted}
use Rattle.tables.specs.Tables.{Table, windows, documents, inputs, pending_dns, pending_requests, Row, key_of, cmp, cap, Tables, no_rows}
use Rattle.shapes.specs.Events.{Message}
use Rattle.wim.specs.Nouns.{WindowNumber, Item, Keyed, Window, Document, Input, Question, Waiting, KeyNumber}
use Rattle.wim.specs.Walks.{window_numbered, document_numbered, steps, top_above}
use Rattle.wim.specs.Program.{made}
use Rattle.wim.specs.Step.{step_tables}
use Rattle.wim.specs.Ranges.{RowIn}

-- Tables in order, no larger than 01 allows, and every number brought once under its label.
pub record Numbered (b : Tables) : Type 0 where
  pub sorted : (t : Table) → Sorted (key_of t) (cmp t) (b t)
  pub sizes : (t : Table) → length (b t) ≤ cap t
  -- windows, questions and waiting requests are once by the order of their tables
  pub documents_once : (d e : Document) → In d (b documents) → In e (b documents) → d.number ≡ e.number → d ≡ e
  pub asked_once : (q r : Question) → In q (b pending_dns) → In r (b pending_dns) → q.request.number ≡ r.request.number → q ≡ r
  pub asked_or_waiting : (q : Question) (w : Waiting) → In q (b pending_dns) → In w (b pending_requests) → q.request.number ≡ w.request.number → ⊥
  pub keys_once : (v w : Waiting) (k : KeyNumber) → In v (b pending_requests) → In w (b pending_requests) → v.seal ≡ Keyed k → w.seal ≡ Keyed k → v ≡ w

-- Each document's window and each input's document is there, every line of parents ends at a top-level window, places and arrivals count from
-- 1 without gaps, and exactly one document is active in each window that has any.
pub record Rooted (b : Tables) : Type 0 where
  pub windows-there : (d : Document) → In d (b documents) → (r : Window) × (window_numbered (b windows) d.window ≡ some r)
  pub documents-there : (i : Input) → In i (b inputs) → (d : Document) × (document_numbered (b documents) i.document ≡ some d)
  pub tops-there : (r : Window) → In r (b windows) → (t : WindowNumber) × (top_above steps (b windows) (b documents) r.number ≡ some t)
  pub places : (d : Document) → In d (b documents) → (d.place ≡ 1) ⊎ ((e : Document) × In e (b documents) × (e.window ≡ d.window) × (suc e.place ≡ d.place))
  pub arrivals : (i : Input) → In i (b inputs) → (i.arrival ≡ 1) ⊎ ((j : Input) × In j (b inputs) × (j.document ≡ i.document) × (suc j.arrival ≡ i.arrival))
  pub one-active : (d : Document) → In d (b documents) → (e : Document) × In e (b documents) × (e.window ≡ d.window) × (e.active ≡ true)
  pub only_active : (d e : Document) → In d (b documents) → In e (b documents) → d.window ≡ e.window → d.active ≡ true → e.active ≡ true → d ≡ e

-- Every number of every row is in its range. This and no more: what a row says twice, a request's host beside its address, is not compared.
pub record InRange (b : Tables) : Type 0 where
  pub rows : (t : Table) (r : Row t) → In r (b t) → RowIn t r

pub record Sound (b : Tables) : Type 0 where
  pub numbered : Numbered b
  pub rooted : Rooted b
  pub in_range : InRange b

-- The tables that accepted steps have made from empty ones, of whatever items: they are numbered and rooted.
pub data MadeTables : Tables → Type 0 where
  untouched : MadeTables no_rows
  stepped : {b c : Tables} (i : Item) (m : Option Message) → MadeTables b → step_tables i b ≡ made c m → MadeTables c
