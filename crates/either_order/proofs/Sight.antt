-- What a question can see: a part of the labels under which rows hang together decides the answer.
use mathlib.Core.Path.{◌≡◌, refl, sym, ◌∙◌, ap, subst}
use mathlib.Core.Logic.{inl, inr}
use mathlib.Core.Bool.{Bool, true, false, cond, ◌&&◌, ◌||◌}
use mathlib.Core.List.{List, map}
use Rattle.std.specs.Prelude.{Option, None as none, Some as some}
use Prim.Native.Nat.{ℕ, zero, suc}
use borrow.Author.Tests.{eqb-true}
use lib.Dec.{eqb}
use lib.ListN.{length}
use Rattle.sorted.specs.Table.{keep, In, is_some, at}
use Rattle.sorted.proofs.Never.{never}
use Rattle.sorted.proofs.Tests.{and_left, or_one}
use Rattle.sorted.proofs.Member.{in_keep, find-keep, keep-keep, keep_same}
use Rattle.sorted.proofs.Sorted.{only}
use Rattle.sorted.proofs.Lookup.{at_only}
use Rattle.tables.specs.Tables.{Table, windows, documents, cookies, inputs, pending_dns, pending_requests, sts, Row, Key, key_of, cmp, Tables}
use Rattle.tables.specs.Labels.{window, request, dns, key, document, host, Label, tag, ties, parent_label, seal_label}
use Rattle.tables.specs.Rows.{same_window, same_document, one_of, origin_of, same_host, goes_over, has_key, has_no_key}
use Rattle.wim.specs.Nouns.{WindowNumber, DocumentNumber, KeyNumber, Document, Window, HostCookie, Input, Waiting, Parent, Top, Under, Seal, Keyless, Keyed}
use Rattle.wim.specs.Walks.{documents_of, active_among, active_document, window_numbered, document_numbered, Above, missing, topmost, held_by, above_document, above_parent, above_row, above, reached_at, under_at, steps, reached_from, is_under, removal}
use Rattle.wim.specs.Navigable.{may_navigate}
use Rattle.wim.specs.Program.{Query, reached, top_level, active, history, navigated, of_origin, listening, arrived, under, strict, cookies_of, cookies_for, question, keyless, keyed, is_top, when, with_origin, listens, observed}
use Rattle.wim.proofs.Numbers.{row-numbered, found-document}
use Rattle.tables.proofs.Update.{linear}
use Rattle.invariant.proofs.Rooted.Lines.{held-row}

-- P is the same on all labels that a row ties together
abbrev pub Even : (Label → Bool) → Tables → Type 0
Even P b = (t : Table) (r : Row t) → In r (b t) → (a : Label) → In a (ties t r) → P a ≡ P (tag t (key_of t r))

-- the rows of the part
abbrev pub restrict : (Label → Bool) → Tables → Tables
restrict P b = λ t. only (key_of t) (λ k. P (tag t k)) (b t)

module _ (P : Label → Bool) (b : Tables) where
  -- the row with a key of the part
  pub at_part : (t : Table) (k : Key t) → P (tag t k) ≡ true → at (key_of t) (cmp t) k (restrict P b t) ≡ at (key_of t) (cmp t) k (b t)
  at_part t k s = at_only (key_of t) (cmp t) (linear t) (λ k. P (tag t k)) k (b t) ∙ ap (λ (c : Bool). cond c (at (key_of t) (cmp t) k (b t)) none) s

module _ (P : Label → Bool) (b : Tables) (E : Even P b) where
  -- a document hangs together with its window
  pub document_even : (d : Document) → In d (b documents) → P (document, d.number.0) ≡ P (window, d.window.0)
  document_even d i = E documents d i (document, d.number.0) (inl refl)

  -- a child window hangs together with the document that holds it
  pub child_even : (r : Window) (n : DocumentNumber) → In r (b windows) → r.parent ≡ Under n → P (document, n.0) ≡ P (window, r.number.0)
  child_even r n i e = E windows r i (document, n.0) (subst (λ (p : Parent). In (document, n.0) (parent_label p)) (sym e) (inl refl))

  -- the document above a window is of the same part
  pub above_even : (w : WindowNumber) (d : Document) → above (b windows) (b documents) w ≡ held_by d
      → In d (b documents) × (P (window, w.0) ≡ P (window, d.window.0)) × (P (document, d.number.0) ≡ P (window, d.window.0))
  above_even w d e =
      let h = held-row (b windows) (b documents) w d e in
      let fr = row-numbered (b windows) w h.0 h.2 in
      let fd = found-document (b documents) h.1 d h.4 in
      let e₁ : P (document, d.number.0) ≡ P (window, d.window.0) = document_even d fd.0 in
      let e₂ : P (document, h.1.0) ≡ P (window, h.0.number.0) = child_even h.0 h.1 fr.0 h.3 in
      (fd.0, ap (λ (v : WindowNumber). P (window, v.0)) (sym fr.1) ∙ (sym e₂ ∙ (ap (λ (v : DocumentNumber). P (document, v.0)) (sym fd.1) ∙ e₁)), e₁)

  -- what stands above a window of the part is seen in the part
  pub above-local : (w : WindowNumber) → P (window, w.0) ≡ true → above (restrict P b windows) (restrict P b documents) w ≡ above (b windows) (b documents) w
  unfolding above window_numbered document_numbered
  above-local w s = ap (above_row (restrict P b documents)) (at_part P b windows w.0 s) ∙ row (window_numbered (b windows) w) refl
    where
      row : (o : Option Window) → window_numbered (b windows) w ≡ o → above_row (restrict P b documents) o ≡ above_row (b documents) o
      row none f = refl
      row (some r) f = par r.parent refl
        where
          par : (p : Parent) → r.parent ≡ p → above_parent (restrict P b documents) p ≡ above_parent (b documents) p
          par Top h = refl
          par (Under n) h = ap above_document (held n h)
            where
              held : (n : DocumentNumber) → r.parent ≡ Under n → document_numbered (restrict P b documents) n ≡ document_numbered (b documents) n
              held n h = find-keep (λ (x : Document). same_document x.number n) (λ (x : Document). P (window, x.window.0)) (b documents) (λ x i e.
                  let fr = row-numbered (b windows) w r f in
                  let e₂ : P (document, n.0) ≡ P (window, r.number.0) = child_even r n fr.0 h in
                  sym (document_even x i) ∙ (ap (λ (k : ℕ). P (document, k)) (eqb-true x.number.0 n.0 e) ∙ (e₂ ∙ (ap (λ (v : WindowNumber). P (window, v.0)) fr.1 ∙ s))))

  -- a walk that goes by what stands above a window goes the same way in its part
  walk-local : {A : Type 0} (f' f : Above → A) (w : WindowNumber) → P (window, w.0) ≡ true → f' missing ≡ f missing → f' topmost ≡ f topmost
      → ((d : Document) → P (window, d.window.0) ≡ true → f' (held_by d) ≡ f (held_by d)) → f' (above (restrict P b windows) (restrict P b documents) w) ≡ f (above (b windows) (b documents) w)
  walk-local f' f w s lost top h = ap f' (above-local w s) ∙ go (above (b windows) (b documents) w) refl
    where
      go : (u : Above) → above (b windows) (b documents) w ≡ u → f' u ≡ f u
      go missing e = lost
      go topmost e = top
      go (held_by d) e = h d (sym (above_even w d e).1 ∙ s)

  reached-local : (n : ℕ) (w : WindowNumber) → P (window, w.0) ≡ true → reached_from n (restrict P b windows) (restrict P b documents) w ≡ reached_from n (b windows) (b documents) w
  unfolding reached_from
  reached-local zero w s = refl
  reached-local (suc n) w s =
      walk-local (reached_at (reached_from n (restrict P b windows) (restrict P b documents)) w) (reached_at (reached_from n (b windows) (b documents)) w) w s refl refl
      (λ d p. ap (λ (x : Option WindowNumber). cond d.active x none) (reached-local n d.window p))

  under-local : (n : ℕ) (gone : List DocumentNumber) (w : WindowNumber) → P (window, w.0) ≡ true → is_under n (restrict P b windows) (restrict P b documents) gone w ≡ is_under n (b windows) (b documents) gone w
  unfolding is_under
  under-local zero gone w s = refl
  under-local (suc n) gone w s =
      walk-local (under_at (is_under n (restrict P b windows) (restrict P b documents) gone) gone) (under_at (is_under n (b windows) (b documents) gone) gone) w s refl refl
      (λ d p. ap (λ (x : Bool). one_of d.number gone || x) (under-local n gone d.window p))

  -- the top-level window from which a window is reached is of its part
  pub reached_even : (n : ℕ) (w t : WindowNumber) → reached_from n (b windows) (b documents) w ≡ some t → P (window, w.0) ≡ P (window, t.0)
  unfolding reached_from
  reached_even zero w t e = never (cc)
  reached_even (suc n) w t e = go (above (b windows) (b documents) w) refl e (reached_even n)
    where
      further : (d : Document) (c : Bool) → cond c (reached_from n (b windows) (b documents) d.window) none ≡ some t → reached_from n (b windows) (b documents) d.window ≡ some t
      further d true e = e
      further d false e = never (cc)

      go : (u : Above) → above (b windows) (b documents) w ≡ u → reached_at (reached_from n (b windows) (b documents)) w u ≡ some t
          → ((v s : WindowNumber) → reached_from n (b windows) (b documents) v ≡ some s → P (window, v.0) ≡ P (window, s.0)) → P (window, w.0) ≡ P (window, t.0)
      go missing f g ih = never (cc)
      go topmost f g ih = let z : w ≡ t = cc in ap (λ (v : WindowNumber). P (window, v.0)) z
      go (held_by d) f g ih = (above_even w d f).1 ∙ ih d.window t (further d d.active g)

  -- what stands under documents of the part is of the part
  pub under-part : (n : ℕ) (gone : List DocumentNumber) → ((x : DocumentNumber) → one_of x gone ≡ true → P (document, x.0) ≡ true) → (w : WindowNumber) → is_under n (b windows) (b documents) gone w ≡ true → P (window, w.0) ≡ true
  unfolding is_under
  under-part zero gone h w e = never (cc)
  under-part (suc n) gone h w e = go (above (b windows) (b documents) w) refl e (under-part n gone h)
    where
      go : (u : Above) → above (b windows) (b documents) w ≡ u → under_at (is_under n (b windows) (b documents) gone) gone u ≡ true
          → ((v : WindowNumber) → is_under n (b windows) (b documents) gone v ≡ true → P (window, v.0) ≡ true) → P (window, w.0) ≡ true
      go missing f g ih = never (cc)
      go topmost f g ih = never (cc)
      go (held_by d) f g ih =
          let x = above_even w d f in
          x.1 ∙ (elim (or_one (one_of d.number gone) (is_under n (b windows) (b documents) gone d.window) g) [ inl p ↦ sym x.2 ∙ h d.number p | inr p ↦ ih d.window p ])

  pub document-part : (gone : List DocumentNumber) → ((x : DocumentNumber) → one_of x gone ≡ true → P (document, x.0) ≡ true) → (d : Document) → In d (b documents)
      → (one_of d.number gone || is_under steps (b windows) (b documents) gone d.window) ≡ true → P (window, d.window.0) ≡ true
  document-part gone h d i e =
      elim (or_one (one_of d.number gone) (is_under steps (b windows) (b documents) gone d.window) e) [
        | inl p ↦ sym (document_even d i) ∙ h d.number p
        | inr p ↦ under-part steps gone h d.window p
      ]

  -- a document of the part is found in the part, and stands in a window of the part
  pub numbered-local : (n : DocumentNumber) → P (document, n.0) ≡ true → document_numbered (restrict P b documents) n ≡ document_numbered (b documents) n
  unfolding document_numbered
  numbered-local n s =
      find-keep (λ (x : Document). same_document x.number n) (λ (x : Document). P (window, x.window.0)) (b documents)
      (λ x i e. sym (document_even x i) ∙ (ap (λ (k : ℕ). P (document, k)) (eqb-true x.number.0 n.0 e) ∙ s))

  pub numbered_even : (n : DocumentNumber) (d : Document) → document_numbered (b documents) n ≡ some d → P (document, n.0) ≡ P (window, d.window.0)
  numbered_even n d e = let z = found-document (b documents) n d e in ap (λ (v : DocumentNumber). P (document, v.0)) (sym z.1) ∙ document_even d z.0

  history-local : (w : WindowNumber) → P (window, w.0) ≡ true → documents_of (restrict P b documents) w ≡ documents_of (b documents) w
  unfolding documents_of
  history-local w s =
      keep-keep (λ (d : Document). same_window d.window w) (λ (d : Document). P (window, d.window.0)) (b documents)
      (λ d i e. ap (λ (n : ℕ). P (window, n)) (eqb-true d.window.0 w.0 e) ∙ s)

  active-local : (w : WindowNumber) → P (window, w.0) ≡ true → active_document (restrict P b documents) w ≡ active_document (b documents) w
  unfolding active_document
  active-local w s = ap active_among (history-local w s)

  removal-local : (gone : List DocumentNumber) → ((x : DocumentNumber) → one_of x gone ≡ true → P (document, x.0) ≡ true) → removal (restrict P b windows) (restrict P b documents) gone ≡ removal (b windows) (b documents) gone
  unfolding removal
  removal-local gone s = λ i. record { windows = map (λ (r : Window). r.number) (ws i); documents = map (λ (d : Document). d.number) (ds i) }
    where
      ws : keep (λ (r : Window). is_under steps (restrict P b windows) (restrict P b documents) gone r.number) (restrict P b windows) ≡ keep (λ (r : Window). is_under steps (b windows) (b documents) gone r.number) (b windows)
      ws =
          keep_same (λ (r : Window). is_under steps (restrict P b windows) (restrict P b documents) gone r.number) (λ (r : Window). is_under steps (b windows) (b documents) gone r.number) (restrict P b windows)
          (λ r i. under-local steps gone r.number (in_keep (λ (r : Window). P (window, r.number.0)) (b windows) r i).1)
          ∙ keep-keep (λ (r : Window). is_under steps (b windows) (b documents) gone r.number) (λ (r : Window). P (window, r.number.0)) (b windows) (λ r i e. under-part steps gone s r.number e)

      ds : keep (λ (d : Document). one_of d.number gone || is_under steps (restrict P b windows) (restrict P b documents) gone d.window) (restrict P b documents)
          ≡ keep (λ (d : Document). one_of d.number gone || is_under steps (b windows) (b documents) gone d.window) (b documents)
      ds =
          keep_same (λ (d : Document). one_of d.number gone || is_under steps (restrict P b windows) (restrict P b documents) gone d.window) (λ (d : Document). one_of d.number gone || is_under steps (b windows) (b documents) gone d.window) (restrict P b documents)
          (λ d i. ap (λ (c : Bool). one_of d.number gone || c) (under-local steps gone d.window (in_keep (λ (d : Document). P (window, d.window.0)) (b documents) d i).1))
          ∙ keep-keep (λ (d : Document). one_of d.number gone || is_under steps (b windows) (b documents) gone d.window) (λ (d : Document). P (window, d.window.0)) (b documents) (λ d i e. document-part gone s d i e)

  listening-local : (n : DocumentNumber) → P (document, n.0) ≡ true → listens (restrict P b windows) (restrict P b documents) (document_numbered (restrict P b documents) n) ≡ listens (b windows) (b documents) (document_numbered (b documents) n)
  listening-local n s = ap (listens (restrict P b windows) (restrict P b documents)) (numbered-local n s) ∙ go (document_numbered (b documents) n) refl
    where
      go : (o : Option Document) → document_numbered (b documents) n ≡ o → listens (restrict P b windows) (restrict P b documents) o ≡ listens (b windows) (b documents) o
      go none e = refl
      go (some d) e = ap (λ (x : Option WindowNumber). when (d.active && is_some x) (some d)) (reached-local steps d.window (sym (numbered_even n d e) ∙ s))

-- the labels that a question names are of the part; for a local command the window asked for is the script's own, whatever is navigable
abbrev pub Sees : (Label → Bool) → Query → Type 0
Sees P (reached w) = P (window, w.0) ≡ true
Sees P (top_level w) = P (window, w.0) ≡ true
Sees P (active w) = P (window, w.0) ≡ true
Sees P (history w) = P (window, w.0) ≡ true
Sees P (navigated w d v) = v ≡ w
Sees P (of_origin d v) = P (window, v.0) ≡ true
Sees P (listening n) = P (document, n.0) ≡ true
Sees P (arrived n) = P (document, n.0) ≡ true
Sees P (under gone) = (x : DocumentNumber) → one_of x gone ≡ true → P (document, x.0) ≡ true
Sees P (strict h) = P (host, h.0) ≡ true
Sees P (cookies_of h) = P (host, h.0) ≡ true
Sees P (cookies_for h p) = P (host, h.0) ≡ true
Sees P (question n) = P (dns, n.0) ≡ true
Sees P (keyless n) = P (request, n.0) ≡ true
Sees P (keyed k) = P (key, k.0) ≡ true

-- either branch is the window itself
pub itself : (c : Bool) (w v : WindowNumber) → v ≡ w → cond c v w ≡ w
itself true w v e = e
itself false w v e = refl

-- a waiting request with a key hangs together with it
pub has-key : (k : KeyNumber) (s : Seal) → has_key k s ≡ true → In (key, k.0) (seal_label s)
has-key k Keyless e = never (cc)
has-key k (Keyed l) e = inl (ap (λ (n : ℕ). (key, n)) (eqb-true k.0 l.0 e))

-- THE ANSWER DEPENDS ON THE PART ALONE.
pub sound : (P : Label → Bool) (b : Tables) → Even P b → (q : Query) → Sees P q → observed q (restrict P b) ≡ observed q b
unfolding observed window_numbered
sound P b E (reached w) s = reached-local P b E steps w s
sound P b E (top_level w) s = ap is_top (at_part P b windows w.0 s)
sound P b E (active w) s = active-local P b E w s
sound P b E (history w) s = history-local P b E w s
sound P b E (navigated w d v) s =
    itself (may_navigate (restrict P b windows) (restrict P b documents) (origin_of d) w v) w v s ∙ sym (itself (may_navigate (b windows) (b documents) (origin_of d) w v) w v s)
sound P b E (of_origin d v) s = λ i. when (is_some (reached-local P b E steps v s i)) (with_origin d (active-local P b E v s i))
sound P b E (listening n) s = listening-local P b E n s
sound P b E (arrived n) s =
    ap length (keep-keep (λ (i : Input). same_document i.document n) (λ (i : Input). P (document, i.document.0)) (b inputs) (λ i j e. ap (λ (k : ℕ). P (document, k)) (eqb-true i.document.0 n.0 e) ∙ s))
sound P b E (under gone) s = removal-local P b E gone s
sound P b E (strict h) s = ap is_some (at_part P b sts h.0 s)
sound P b E (cookies_of h) s = keep-keep (λ (r : HostCookie). same_host r.host h) (λ (r : HostCookie). P (host, r.host.0)) (b cookies) (λ r i e. ap (λ (n : ℕ). P (host, n)) (eqb-true r.host.0 h.0 e) ∙ s)
sound P b E (cookies_for h p) s =
    keep-keep (λ (r : HostCookie). same_host r.host h && goes_over p r.cookie) (λ (r : HostCookie). P (host, r.host.0)) (b cookies)
    (λ r i e. ap (λ (n : ℕ). P (host, n)) (eqb-true r.host.0 h.0 (and_left (same_host r.host h) (goes_over p r.cookie) e)) ∙ s)
sound P b E (question n) s = at_part P b pending_dns n.0 s
sound P b E (keyless n) s =
    find-keep (λ (r : Waiting). eqb r.request.number.0 n.0 && has_no_key r.seal) (λ (r : Waiting). P (request, r.request.number.0)) (b pending_requests)
    (λ r i e. ap (λ (k : ℕ). P (request, k)) (eqb-true r.request.number.0 n.0 (and_left (eqb r.request.number.0 n.0) (has_no_key r.seal) e)) ∙ s)
sound P b E (keyed k) s =
    find-keep (λ (r : Waiting). has_key k r.seal) (λ (r : Waiting). P (request, r.request.number.0)) (b pending_requests)
    (λ r i e. sym (E pending_requests r i (key, k.0) (has-key k r.seal e)) ∙ s)
