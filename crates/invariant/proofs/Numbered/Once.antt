-- Tables in which every number is brought once, and the three ways in which one more number gets there: with a question, with a document, and
-- with a question that becomes a waiting request.
use mathlib.Core.Path.{◌≡◌, sym, ◌∙◌, ap, subst}
use mathlib.Core.Logic.{◌⊎◌, inl, inr}
use mathlib.Core.Bool.{Bool, true, not}
use mathlib.Core.List.{List, [], ◌∷◌}
use Rattle.std.specs.Prelude.{Some as some}
use Prim.Native.Nat.{ℕ}
use Rattle.std.specs.declared.cmp.Ordering.{Ordering as Order}
use Rattle.sorted.specs.Order.{Linear, same}
use Rattle.sorted.specs.Table.{In, Sorted, at, put, drop}
use Rattle.sorted.proofs.Never.{never}
use Rattle.sorted.proofs.Linear.{same_self}
use Rattle.sorted.proofs.Member.{in_keep}
use Rattle.sorted.proofs.Edits.{in_insert}
use Rattle.sorted.proofs.Sorted.{sorted-acts}
use Rattle.sorted.proofs.Lookup.{at_in}
use Rattle.tables.specs.Tables.{Table, documents, pending_dns, pending_requests, key_of, cmp, Tables, Edits, changed, apply}
use Rattle.wim.specs.Nouns.{KeyNumber, Address, Seal, Keyed, Document, Question, Waiting}
use Rattle.wim.specs.Main.{waiting_of}
use Rattle.tables.proofs.Update.{linear, update-one}

-- `Numbered` without the sizes
pub record Once (b : Tables) : Type 0 where
  pub sorted : (t : Table) → Sorted (key_of t) (cmp t) (b t)
  pub documents_once : (d e : Document) → In d (b documents) → In e (b documents) → d.number ≡ e.number → d ≡ e
  pub asked_once : (q r : Question) → In q (b pending_dns) → In r (b pending_dns) → q.request.number ≡ r.request.number → q ≡ r
  pub asked_or_waiting : (q : Question) (w : Waiting) → In q (b pending_dns) → In w (b pending_requests) → q.request.number ≡ w.request.number → ⊥
  pub keys_once : (v w : Waiting) (k : KeyNumber) → In v (b pending_requests) → In w (b pending_requests) → v.seal ≡ Keyed k → w.seal ≡ Keyed k → v ≡ w

-- rows with one key are one, in tables in order
pub one-row : {R K : Type 0} (key : R → K) (order : K → K → Order) → Linear K order → (l : List R) → Sorted key order l → (x y : R) → In x l → In y l → key x ≡ key y → x ≡ y
one-row {R} {K} key order O l s x y i j e =
    let z : some x ≡ some y = sym (at_in key order O l x s i) ∙ ap (λ (k : K). at key order k l) e ∙ at_in key order O l y s j in
    cc

pub sorted-apply : (t : Table) (es : Edits t) (b : Tables) → ((u : Table) → Sorted (key_of u) (cmp u) (b u)) → (u : Table) → Sorted (key_of u) (cmp u) (apply t es b u)
sorted-apply t es b s = update-one (λ u l. Sorted (key_of u) (cmp u) l) t (changed t es) b s (sorted-acts (key_of t) (cmp t) (linear t) es (b t) (s t))

-- two rows that have something in common are one, if any two of the old rows are and no old row has it in common with the new one
one-new : {A : Type 0} (P : A → A → Type 0) (r : A) (l : List A) → ((x : A) → In x l → P x r → ⊥) → ((x : A) → In x l → P r x → ⊥)
    → ((x y : A) → In x l → In y l → P x y → x ≡ y) → (x y : A) → (x ≡ r) ⊎ In x l → (y ≡ r) ⊎ In y l → P x y → x ≡ y
one-new P r l f g h x y (inl p) (inl q) c = p ∙ sym q
one-new P r l f g h x y (inl p) (inr j) c = absurd (g y j (subst (λ z. P z y) p c))
one-new P r l f g h x y (inr i) (inl q) c = absurd (f x i (subst (λ z. P x z) q c))
one-new P r l f g h x y (inr i) (inr j) c = h x y i j c

module _ (b : Tables) (O : Once b) where
  -- A NEW DOCUMENT.
  pub once_document : (r : Document) → ((d : Document) → In d (b documents) → d.number ≡ r.number → ⊥) → Once (apply documents (put r ∷ []) b)
  once_document r new = record {
    sorted = sorted-apply documents (put r ∷ []) b O.sorted;
    documents_once = λ d e i j. one-new (λ x y. x.number ≡ y.number) r (b documents) new (λ d i p. new d i (sym p)) O.documents_once d e (old d i) (old e j);
    asked_once = O.asked_once;
    asked_or_waiting = O.asked_or_waiting;
    keys_once = O.keys_once;
  }
    where
      old : (d : Document) → In d (apply documents (put r ∷ []) b documents) → (d ≡ r) ⊎ In d (b documents)
      old d i = in_insert (key_of documents) (cmp documents) r (b documents) d i

  -- A NEW QUESTION.
  pub once_question : (r : Question) → ((q : Question) → In q (b pending_dns) → q.request.number ≡ r.request.number → ⊥)
      → ((w : Waiting) → In w (b pending_requests) → w.request.number ≡ r.request.number → ⊥) → Once (apply pending_dns (put r ∷ []) b)
  once_question r new idle = record {
    sorted = sorted-apply pending_dns (put r ∷ []) b O.sorted;
    documents_once = O.documents_once;
    asked_once = λ q s i j. one-new (λ x y. x.request.number ≡ y.request.number) r (b pending_dns) new (λ q i p. new q i (sym p)) O.asked_once q s (old q i) (old s j);
    asked_or_waiting = λ q w i j. apart q w (old q i) j;
    keys_once = O.keys_once;
  }
    where
      old : (q : Question) → In q (apply pending_dns (put r ∷ []) b pending_dns) → (q ≡ r) ⊎ In q (b pending_dns)
      old q i = in_insert (key_of pending_dns) (cmp pending_dns) r (b pending_dns) q i

      apart : (q : Question) (w : Waiting) → (q ≡ r) ⊎ In q (b pending_dns) → In w (b pending_requests) → q.request.number ≡ w.request.number → ⊥
      apart q w (inl p) j e = idle w j (sym e ∙ ap (λ (x : Question). x.request.number) p)
      apart q w (inr i) j e = O.asked_or_waiting q w i j e

  -- A QUESTION IS ANSWERED and its request waits, under a new key or none.
  abbrev pub gone_out : Question → Seal → Address → Tables
  gone_out q seal address = apply pending_dns (drop (key_of pending_dns q) ∷ []) (apply pending_requests (put (waiting_of q seal address) ∷ []) b)

  pub once_out : (q : Question) (seal : Seal) (address : Address) → In q (b pending_dns) → ((w : Waiting) (k : KeyNumber) → In w (b pending_requests) → w.seal ≡ Keyed k → seal ≡ Keyed k → ⊥)
      → Once (gone_out q seal address)
  once_out q seal address there new = record {
    sorted = sorted-apply pending_dns (drop (key_of pending_dns q) ∷ []) (apply pending_requests (put out ∷ []) b) (sorted-apply pending_requests (put out ∷ []) b O.sorted);
    documents_once = O.documents_once;
    asked_once = λ r s i j. O.asked_once r s (left r i).0 (left s j).0;
    asked_or_waiting = λ r w i j. apart r w i (old w j);
    keys_once = λ v w k i j c d.
        one-new (λ x y. (x.seal ≡ Keyed k) × (y.seal ≡ Keyed k)) out (b pending_requests) (λ x h e. new x k h e.0 e.1) (λ x h e. new x k h e.1 e.0)
        (λ x y h g e. O.keys_once x y k h g e.0 e.1) v w (old v i) (old w j) (c, d);
  }
    where
      out : Waiting
      out = waiting_of q seal address

      old : (w : Waiting) → In w (apply pending_requests (put out ∷ []) b pending_requests) → (w ≡ out) ⊎ In w (b pending_requests)
      old w j = in_insert (key_of pending_requests) (cmp pending_requests) out (b pending_requests) w j

      -- a question goes that has the number of q
      is : ℕ → Bool
      is n = same (cmp pending_dns (key_of pending_dns q) n)

      left : (r : Question) → In r (gone_out q seal address pending_dns) → In r (b pending_dns) × (not (is (key_of pending_dns r)) ≡ true)
      left r i = in_keep (λ (x : Question). not (is (key_of pending_dns x))) (b pending_dns) r i

      gone : (r : Question) → In r (gone_out q seal address pending_dns) → r ≡ q → ⊥
      gone r i e =
          let s : not (is (key_of pending_dns r)) ≡ not true = ap (λ (x : Question). not (is (key_of pending_dns x))) e ∙ ap not (same_self (linear pending_dns) (key_of pending_dns q)) in
          let z : not true ≡ true = sym s ∙ (left r i).1 in
          never (cc)

      apart : (r : Question) (w : Waiting) → In r (gone_out q seal address pending_dns) → (w ≡ out) ⊎ In w (b pending_requests) → r.request.number ≡ w.request.number → ⊥
      apart r w i (inl p) e = gone r i (O.asked_once r q (left r i).0 there (e ∙ ap (λ (x : Waiting). x.request.number) p))
      apart r w i (inr j) e = O.asked_or_waiting r w (left r i).0 j e
