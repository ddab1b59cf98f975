-- Tables on the way through a step, before it has brought a document, a question or a waiting request of its own: what stands there stood there
-- before the step, but for what changes in a document besides its place and number.
use mathlib.Core.Path.{◌≡◌, refl, sym, ◌∙◌, ap, subst}
use mathlib.Core.Logic.{inl, inr}
use mathlib.Core.Bool.{Bool, true, false, cond}
use mathlib.Core.List.{List, [], ◌∷◌, ◌++◌, map}
use Prim.Native.Nat.{ℕ}
use Rattle.sorted.specs.Table.{In, Sorted, Edit, put, drop, sift}
use Rattle.sorted.proofs.Never.{never}
use Rattle.sorted.proofs.Edits.{in_acts}
use Rattle.sorted.proofs.Revise.{in_map, sorted_map}
use Rattle.tables.specs.Tables.{Table, windows, documents, cookies, local_storage, session_storage, inputs, pending_dns, pending_requests, sts, Row, key_of, cmp, Tables, Edits, changed, update, apply}
use Rattle.tables.specs.Labels.{request, key, document, seal_label, leads}
use Rattle.wim.specs.Nouns.{DocumentNumber, RequestNumber, KeyNumber, Seal, Keyed, Document, Question, Waiting}
use Rattle.tables.proofs.Update.{linear, update-one}
use Rattle.invariant.proofs.Numbered.Fresh.{Absent}
use Rattle.invariant.proofs.Numbered.Once.{Once, one-row, sorted-apply}

-- the row was there before; of tables whose numbers are in their order alone nothing is asked
abbrev pub Was : Tables → (t : Table) → Row t → Type 0
Was a windows r = Unit {0}
Was a documents r = (d : Document) × In d (a documents) × (key_of documents d ≡ key_of documents r) × (d.number ≡ r.number)
Was a cookies r = Unit {0}
Was a local_storage r = Unit {0}
Was a session_storage r = Unit {0}
Was a inputs r = Unit {0}
Was a pending_dns r = In r (a pending_dns)
Was a pending_requests r = In r (a pending_requests)
Was a sts r = Unit {0}

-- b, on the way through a step that began with a, where every number was there once
pub record Kept (a b : Tables) : Type 0 where
  pub began : Once a
  pub sorted : (t : Table) → Sorted (key_of t) (cmp t) (b t)
  pub was : (t : Table) (r : Row t) → In r (b t) → Was a t r

-- a document keeps its place and its number
abbrev pub Stays : (Document → Document) → Type 0
Stays g = (d : Document) → (key_of documents (g d) ≡ key_of documents d) × ((g d).number ≡ d.number)

pub stays_if : (p : Document → Bool) (g : Document → Document) → Stays g → Stays (λ d. cond (p d) (g d) d)
stays_if p g h d = go (p d)
  where
    go : (c : Bool) → (key_of documents (cond c (g d) d) ≡ key_of documents d) × ((cond c (g d) d).number ≡ d.number)
    go true = h d
    go false = (refl, refl)

-- no row is put
abbrev pub cuts : {R K : Type 0} → List (Edit R K) → Bool
cuts [] = true
cuts (put r ∷ es) = false
cuts (drop k ∷ es) = cuts es
cuts (sift p ∷ es) = cuts es

pub cuts_none : {R K : Type 0} (es : List (Edit R K)) → cuts es ≡ true → (r : R) → In (put r) es → ⊥
cuts_none {R = R} {K = K} [] e r i = elim i [ ]
cuts_none (put s ∷ es) e r i = never (cc)
cuts_none (drop k ∷ es) e r (inl p) = never (cc)
cuts_none (drop k ∷ es) e r (inr i) = cuts_none es e r i
cuts_none (sift p ∷ es) e r (inl q) = never (cc)
cuts_none (sift p ∷ es) e r (inr i) = cuts_none es e r i

was-self : (a : Tables) (t : Table) (r : Row t) → In r (a t) → Was a t r
was-self a windows r i = tt
was-self a documents r i = (r, i, refl, refl)
was-self a cookies r i = tt
was-self a local_storage r i = tt
was-self a session_storage r i = tt
was-self a inputs r i = tt
was-self a pending_dns r i = i
was-self a pending_requests r i = i
was-self a sts r i = tt

module _ {a : Tables} where
  pub kept_self : Once a → Kept a a
  kept_self O = record { began = O; sorted = O.sorted; was = was-self a }

  pub kept-edit : (t : Table) (es : Edits t) → ((r : Row t) → In (put r) es → Was a t r) → {b : Tables} → Kept a b → Kept a (apply t es b)
  kept-edit t es h {b} K = record {
    began = K.began;
    sorted = sorted-apply t es b K.sorted;
    was = update-one (λ u l. (r : Row u) → In r l → Was a u r) t (changed t es) b K.was (λ r i. elim (in_acts (key_of t) (cmp t) es (b t) r i) [ inl j ↦ h r j | inr j ↦ K.was t r j ]);
  }

  pub kept-revise : (g : Document → Document) → Stays g → {b : Tables} → Kept a b → Kept a (update documents (map g) b)
  kept-revise g h {b} K = record {
    began = K.began;
    sorted = update-one (λ u l. Sorted (key_of u) (cmp u) l) documents (map g) b K.sorted (sorted_map (key_of documents) (cmp documents) g (λ d. (h d).0) (b documents) (K.sorted documents));
    was = update-one (λ u l. (r : Row u) → In r l → Was a u r) documents (map g) b K.was still;
  }
    where
      still : (r : Document) → In r (map g (b documents)) → Was a documents r
      still r i =
          let z = in_map g (b documents) r i in
          let w = K.was documents z.0 z.1 in
          (w.0, w.1, w.2 ∙ (sym (h z.0).0 ∙ ap (key_of documents) (sym z.2)), w.3 ∙ (sym (h z.0).1 ∙ ap (λ (d : Document). d.number) (sym z.2)))

  -- nothing was brought twice, so nothing is there twice
  pub once_kept : {b : Tables} → Kept a b → Once b
  once_kept {b} K = record {
    sorted = K.sorted;
    documents_once = documents_once;
    asked_once = λ q r i j. K.began.asked_once q r (K.was pending_dns q i) (K.was pending_dns r j);
    asked_or_waiting = λ q w i j. K.began.asked_or_waiting q w (K.was pending_dns q i) (K.was pending_requests w j);
    keys_once = λ v w k i j. K.began.keys_once v w k (K.was pending_requests v i) (K.was pending_requests w j);
  }
    where
      documents_once : (d e : Document) → In d (b documents) → In e (b documents) → d.number ≡ e.number → d ≡ e
      documents_once d e i j p =
          let x = K.was documents d i in
          let y = K.was documents e j in
          let z : x.0 ≡ y.0 = K.began.documents_once x.0 y.0 x.1 y.1 (x.3 ∙ (p ∙ sym y.3)) in
          one-row (key_of documents) (cmp documents) (linear documents) (b documents) (K.sorted documents) d e i j (sym x.2 ∙ (ap (key_of documents) z ∙ y.2))

  -- WHAT IS FRESH before the step is not yet there.
  module _ {b : Tables} (K : Kept a b) (n : ℕ) where
    pub new-document : Absent (document, n) a → (d : Document) → In d (b documents) → d.number ≡ record { 0 = n } → ⊥
    new-document h d i e =
        let w = K.was documents d i in
        h.nowhere documents w.0 w.1 (inr (inl (ap (λ (m : DocumentNumber). (document, m.0)) (sym (w.3 ∙ e)))))

    pub new-question : Absent (request, n) a → (q : Question) → In q (b pending_dns) → q.request.number ≡ record { 0 = n } → ⊥
    new-question h q i e = h.nowhere pending_dns q (K.was pending_dns q i) (inr (inl (ap (λ (m : RequestNumber). (request, m.0)) (sym e))))

    pub new-request : Absent (request, n) a → (w : Waiting) → In w (b pending_requests) → w.request.number ≡ record { 0 = n } → ⊥
    new-request h w i e = h.nowhere pending_requests w (K.was pending_requests w i) (inl (ap (λ (m : RequestNumber). (request, m.0)) (sym e)))

    pub new-key : Absent (key, n) a → (w : Waiting) (k : KeyNumber) → In w (b pending_requests) → w.seal ≡ Keyed k → Keyed (record { 0 = n }) ≡ Keyed k → ⊥
    new-key h w k i s e =
        h.nowhere pending_requests w (K.was pending_requests w i) (inr (subst (λ (x : Seal). In (key, n) (seal_label x ++ (leads w.reference ∷ []))) (e ∙ sym s) (inl refl)))
