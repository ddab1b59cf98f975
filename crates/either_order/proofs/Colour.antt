-- The colour of a label: the top-level window above it, or a host. A waiting number has the colour of what its reference leads to, and
-- where that has no top-level window above it, of its host.
use mathlib.Core.Path.{◌≡◌, refl, sym, ◌∙◌, ap}
use mathlib.Core.Bool.{true}
use mathlib.Core.List.{List}
use Rattle.std.specs.Prelude.{Option, None as none, Some as some}
use Prim.Native.Nat.{ℕ, ◌≤◌}
use borrow.Author.Tests.{eqb-true, eq-eqb}
use lib.Dec.{eqb}
use lib.ListN.{length}
use Rattle.sorted.specs.Table.{find, In, at}
use Rattle.sorted.proofs.Never.{never}
use Rattle.sorted.proofs.Member.{find_in, find-some}
use Rattle.sorted.proofs.Lookup.{at_in}
use Rattle.tables.specs.Tables.{windows, documents, pending_dns, pending_requests, key_of, cmp, Tables}
use Rattle.tables.specs.Labels.{Kind, window, request, dns, key, document, host, Label, leads}
use Rattle.tables.specs.Rows.{has_key}
use Rattle.wim.specs.Nouns.{WindowNumber, DocumentNumber, KeyNumber, Host, Window, Document, Question, Waiting, Reference, Req, Xhr, Under, Seal, Keyless, Keyed}
use Rattle.wim.specs.Walks.{window_numbered, document_numbered, above_document, above_row, above_parent, above, top_at, top_above}
use Rattle.wim.specs.LocalSteps.{top_of_document, top_of}
use Rattle.wim.specs.Invariant.{Numbered}
use Rattle.tables.proofs.Update.{linear}
use Rattle.wim.proofs.Numbers.{found-document}
use Rattle.invariant.proofs.Rooted.Depth.{settled}
use Rattle.invariant.proofs.Rooted.Stands.{in_document}

pub data Colour : Type 0 where
  colourless : Colour
  beneath : WindowNumber → Colour
  hosted : Host → Colour

abbrev pub top_colour : Option WindowNumber → Colour
top_colour none = colourless
top_colour (some t) = beneath t

abbrev pub or_host : Option WindowNumber → Host → Colour
or_host none h = hosted h
or_host (some t) h = beneath t

abbrev pub top_of_label : Tables → Label → Option WindowNumber
top_of_label b l = top_of b l.0 l.1

-- of a waiting entry
abbrev pub entry : Tables → Reference → Host → Colour
entry b r h = or_host (top_of_label b (leads r)) h

abbrev pub question_colour : Tables → Option Question → Colour
question_colour b none = colourless
question_colour b (some q) = entry b q.reference q.request.host

abbrev pub waiting_colour : Tables → Option Waiting → Colour
waiting_colour b none = colourless
waiting_colour b (some w) = entry b w.reference w.request.host

abbrev pub request_colour : Tables → Option Question → Option Waiting → Colour
request_colour b none w = waiting_colour b w
request_colour b (some q) w = question_colour b (some q)

abbrev pub asked_for : List Question → ℕ → Option Question
asked_for l n = find (λ (q : Question). eqb q.request.number.0 n) l

abbrev pub keyed_by : List Waiting → KeyNumber → Option Waiting
keyed_by l k = find (λ (r : Waiting). has_key k r.seal) l

unfoldable pub colour : Tables → Kind → ℕ → Colour
colour b window n = top_colour (top_of b window n)
colour b document n = top_colour (top_of b document n)
colour b request n = request_colour b (asked_for (b pending_dns) n) (at (key_of pending_requests) (cmp pending_requests) n (b pending_requests))
colour b dns n = question_colour b (at (key_of pending_dns) (cmp pending_dns) n (b pending_dns))
colour b key n = waiting_colour b (keyed_by (b pending_requests) (record { 0 = n }))
colour b host n = hosted (record { 0 = n })

-- what a reference leads to has the colour of the top-level window above it, or none
pub colour_leads : (b : Tables) (r : Reference) → colour b (leads r).0 (leads r).1 ≡ top_colour (top_of_label b (leads r))
unfolding colour
colour_leads b (Req w) = refl
colour_leads b (Xhr d m) = refl

module _ (b : Tables) (N : Numbered b) where
  -- a child window has the colour of the document that holds it
  pub colour_child : length (b windows) ≤ 31 → (r : Window) (n : DocumentNumber) → In r (b windows) → r.parent ≡ Under n → colour b document n.0 ≡ colour b window r.number.0
  unfolding colour top_of top_above above window_numbered
  colour_child few r n i e = ap top_colour (go (document_numbered (b documents) n) ∙ ap (top_at (top_above 31 (b windows) (b documents)) r.number) (sym held))
    where
      held : above (b windows) (b documents) r.number ≡ above_document (document_numbered (b documents) n)
      held = ap (above_row (b documents)) (at_in (key_of windows) (cmp windows) (linear windows) (b windows) r (N.sorted windows) i) ∙ ap (above_parent (b documents)) e

      go : (o : Option Document) → top_of_document b o ≡ top_at (top_above 31 (b windows) (b documents)) r.number (above_document o)
      go none = refl
      go (some d) = sym (settled (b windows) (b documents) 31 d.window few)

  -- a document that is there is found by its number
  pub number-finds : (d : Document) → In d (b documents) → document_numbered (b documents) d.number ≡ some d
  number-finds d i =
      let y = in_document (b documents) d.number d i refl in
      let z = found-document (b documents) d.number y.0 y.1 in
      y.1 ∙ ap some (N.documents_once y.0 d z.0 i z.1)

  pub colour_document : (d : Document) → In d (b documents) → colour b document d.number.0 ≡ colour b window d.window.0
  unfolding colour top_of
  colour_document d i = ap (λ (o : Option Document). top_colour (top_of_document b o)) (number-finds d i)

  pub colour_dns : (q : Question) → In q (b pending_dns) → colour b dns q.number.0 ≡ entry b q.reference q.request.host
  unfolding colour
  colour_dns q i = ap (question_colour b) (at_in (key_of pending_dns) (cmp pending_dns) (linear pending_dns) (b pending_dns) q (N.sorted pending_dns) i)

  pub colour_asked : (q : Question) → In q (b pending_dns) → colour b request q.request.number.0 ≡ entry b q.reference q.request.host
  unfolding colour
  colour_asked q i =
      let y = find-some (λ (x : Question). eqb x.request.number.0 q.request.number.0) (b pending_dns) q i (eq-eqb q.request.number.0 q.request.number.0 refl) in
      let z = find_in (λ (x : Question). eqb x.request.number.0 q.request.number.0) (b pending_dns) y.0 y.1 in
      let e : y.0 ≡ q = N.asked_once y.0 q z.0 i (λ j. record { 0 = eqb-true y.0.request.number.0 q.request.number.0 z.1 j }) in
      ap (λ (o : Option Question). request_colour b o (at (key_of pending_requests) (cmp pending_requests) q.request.number.0 (b pending_requests))) (y.1 ∙ ap some e)

  pub colour_waiting : (w : Waiting) → In w (b pending_requests) → colour b request w.request.number.0 ≡ entry b w.reference w.request.host
  unfolding colour
  colour_waiting w i =
      go (asked_for (b pending_dns) w.request.number.0) refl
      ∙ ap (waiting_colour b) (at_in (key_of pending_requests) (cmp pending_requests) (linear pending_requests) (b pending_requests) w (N.sorted pending_requests) i)
    where
      go : (o : Option Question) → asked_for (b pending_dns) w.request.number.0 ≡ o
          → request_colour b o (at (key_of pending_requests) (cmp pending_requests) w.request.number.0 (b pending_requests)) ≡ waiting_colour b (at (key_of pending_requests) (cmp pending_requests) w.request.number.0 (b pending_requests))
      go none e = refl
      go (some q) e =
          let z = find_in (λ (x : Question). eqb x.request.number.0 w.request.number.0) (b pending_dns) q e in
          absurd (N.asked_or_waiting q w z.0 i (λ j. record { 0 = eqb-true q.request.number.0 w.request.number.0 z.1 j }))

  -- the key under which a request waits finds it
  pub key-finds : (w : Waiting) (k : KeyNumber) → In w (b pending_requests) → w.seal ≡ Keyed k → keyed_by (b pending_requests) k ≡ some w
  key-finds w k i e =
      let y = find-some (λ (r : Waiting). has_key k r.seal) (b pending_requests) w i (ap (has_key k) e ∙ eq-eqb k.0 k.0 refl) in
      let z = find_in (λ (r : Waiting). has_key k r.seal) (b pending_requests) y.0 y.1 in
      y.1 ∙ ap some (N.keys_once y.0 w k z.0 i (seal-is y.0.seal z.1) e)
    where
      seal-is : (s : Seal) → has_key k s ≡ true → s ≡ Keyed k
      seal-is Keyless h = never (cc)
      seal-is (Keyed l) h = ap Keyed (λ j. record { 0 = sym (eqb-true k.0 l.0 h) j })

  pub colour_key : (w : Waiting) (k : KeyNumber) → In w (b pending_requests) → w.seal ≡ Keyed k → colour b key k.0 ≡ entry b w.reference w.request.host
  unfolding colour
  colour_key w k i e = ap (waiting_colour b) (key-finds w k i e)
