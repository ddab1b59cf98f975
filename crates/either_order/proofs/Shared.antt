-- Sub-algorithms that keep to a part wherever they are called: sending, CANCELNAV, storing, acting on headers, removing, moving in a history.
use mathlib.Core.Path.{◌≡◌, refl, sym, ◌∙◌, ap}
use mathlib.Core.Logic.{◌⊎◌, inl, inr}
use mathlib.Core.Bool.{Bool, true, false, cond, not, ◌&&◌}
use mathlib.Core.List.{List, [], ◌∷◌, ◌++◌, map}
use Rattle.std.specs.Prelude.{Option, None as none, Some as some}
use Prim.Native.Nat.{ℕ, ◌+◌, ◌≤◌}
use native.Mathlib.Omega.{arith}
use borrow.Author.Tests.{eqb-true, not-false}
use lib.Dec.{eqb}
use lib.ListN.{length}
use Rattle.sorted.specs.Table.{keep, In, All, put, drop}
use Rattle.sorted.proofs.Never.{never}
use Rattle.sorted.proofs.Tests.{and_left}
use Rattle.tables.specs.Tables.{Table, windows, documents, cookies, local_storage, session_storage, inputs, pending_dns, pending_requests, sts, Tables, is_secure}
use Rattle.tables.specs.Labels.{Label, window, request, document, host, leads, seal_label}
use Rattle.tables.specs.Rows.{same_window, same_document, one_of, window_one_of, origin_of, same_reference, same_matching, with_active, with_state, changing, setting_active}
use Rattle.wim.specs.Nouns.{WindowNumber, DocumentNumber, Host, Cookie, Reference, Req, Xhr, Cancelled, Bare, Labelled, Sending, Stored, Output, Origin, Window, Document, Input, Question, Waiting, Answer, Missing, ScriptState}
use Rattle.wim.specs.Walks.{Removal, active_among}
use Rattle.wim.specs.Cookies.{bad_prefix, row_for, store_all, add_cookies}
use Rattle.wim.specs.Program.{Program, done, needs, stop_if, refuse_unless}
use Rattle.wim.specs.Sending.{cancels, cancel_nav, send}
use Rattle.wim.specs.History.{place_of, moved}
use Rattle.wim.specs.Script.{store_local, store_session, store, remove}
use Rattle.wim.specs.Response.{strict_host, act_on_headers}
use Rattle.four_rows.proofs.Adds.{on, four}
use Rattle.four_rows.proofs.Programs.{stored-few, added-few, local-few, session-few, strict-few, after_storing, acting}
use Rattle.either_order.proofs.Part.{Part, sees, own_sees, Ok, Touched, Same, Fixes}
use Rattle.either_order.proofs.Keeps.{Keeps}

-- a program that keeps to the part in whatever browser it runs
abbrev pub Always : Part → (Table → ℕ) → Program → Type 0
Always F n p = (b : Tables) → Keeps F n p b

-- WHERE A PROGRAM MAY REFUSE.
module _ (F : Part) (n : Table → ℕ) (b : Tables) where
  pub kept-needs : {A : Type 0} (m : Missing) (o : Option A) (k : A → Program) → ((x : A) → o ≡ some x → Keeps F n (k x) b) → Keeps F n (needs m o k) b
  kept-needs m none k h = tt
  kept-needs m (some x) k h = h x refl

  pub kept-unless : (c : Bool) (m : Missing) (p : Program) → Keeps F n p b → Keeps F n (refuse_unless c m p) b
  kept-unless true m p h = h
  kept-unless false m p h = tt

  pub kept-stop : (c : Bool) (p : Program) → Keeps F n p b → Keeps F n (stop_if c p) b
  kept-stop true p h = tt
  kept-stop false p h = h

-- COOKIES.
all_map : {A B : Type 0} (P : B → Type 0) (f : A → B) (l : List A) → ((x : A) → P (f x)) → All P (map f l)
all_map P f [] h = tt
all_map P f (x ∷ l) h = (h x, all_map P f l h)

module _ (F : Part) where
  pub cookies-ok : (h : Host) (cs : List Cookie) → F.own (host, h.0) ≡ true → All (Ok F cookies) (store_all h cs)
  cookies-ok h cs o = all_map (Ok F cookies) (λ (c : Cookie). put (row_for h c)) cs (λ c. (o, tt, tt))

-- ALGORITHM 4.
pub kept_send : (F : Part) (n : Table → ℕ) (o : Sending) → sees F (leads o.reference) ≡ true → F.own (host, o.url.host.0) ≡ true → ((t : Table) → n t + on pending_dns 1 t ≤ 4) → Always F n (send o)
unfolding send
kept_send F n o s h room b =
    (own_sees F (host, o.url.host.0) h, (own_sees F (host, o.url.host.0) h, λ q oq x ox. (((ox, (oq, tt), (s, tt)), tt), 1, (omega arith), room)))

-- ALGORITHM 3: what is cancelled is pulled by the window that it leads to.
abbrev pub Cancellable : Part → Cancelled → Type 0
Cancellable F (Bare w) = Unit {0}
Cancellable F (Labelled s) = F.own (leads s) ≡ true

same-leads : (s r : Reference) → same_reference s r ≡ true → leads r ≡ leads s
same-leads (Req v) (Req w) e = ap (λ (n : ℕ). (window, n)) (sym (eqb-true v.0 w.0 e))
same-leads (Req v) (Xhr d m) e = never (cc)
same-leads (Xhr d m) (Req w) e = never (cc)
same-leads (Xhr d m) (Xhr x k) e = ap (λ (n : ℕ). (document, n)) (sym (eqb-true d.0 x.0 (and_left (same_document d x) (same_matching m k) e)))

cancelled-own : (F : Part) (c : Cancelled) → Cancellable F c → (r : Reference) → not (cancels c r) ≡ false → F.own (leads r) ≡ true
cancelled-own F (Bare w) h r e = never (cc)
cancelled-own F (Labelled s) h r e = ap F.own (same-leads s r (not-false (same_reference s r) e)) ∙ h

pub kept_cancel : (F : Part) (n : Table → ℕ) (c : Cancelled) (p : Program) → Cancellable F c → Always F (λ u. (n u + on pending_requests 0 u) + on pending_dns 0 u) p → Always F n (cancel_nav c p)
kept_cancel F n c p h k b =
    ((requests, tt), 0, (omega arith), ((questions, tt), 0, (omega arith), k _))
  where
    requests : (r : Waiting) → not (cancels c r.reference) ≡ false → Touched F pending_requests r
    requests r e = (leads r.reference, inr (behind (ties_of r)), cancelled-own F c h r.reference e)
      where
        ties_of : Waiting → List Label
        ties_of r = seal_label r.seal

        behind : (l : List Label) → In (leads r.reference) (l ++ (leads r.reference ∷ []))
        behind [] = inl refl
        behind (x ∷ l) = inr (behind l)

    questions : (q : Question) → not (cancels c q.reference) ≡ false → Touched F pending_dns q
    questions q e = (leads q.reference, inr (inr (inl refl)), cancelled-own F c h q.reference e)

-- CHANGES OF DOCUMENTS.
module _ (F : Part) where
  alike : (d e : Document) → e.window ≡ d.window → e.place ≡ d.place → e.number ≡ d.number → Same documents d e
  alike d e p q r = record { same_key = λ i. ((p i).0, q i); same-ties = λ i. (document, (r i).0) ∷ []; same-refs = refl; same_pulls = refl }

  pub fixes_active : (w : WindowNumber) (place : ℕ) (a : Bool) → F.own (window, w.0) ≡ true → Fixes F documents (setting_active w place a)
  fixes_active w place a o d = go (same_window d.window w && eqb d.place place) refl
    where
      go : (c : Bool) → (same_window d.window w && eqb d.place place) ≡ c → Same documents d (cond c (with_active a d) d) × ((cond c (with_active a d) d ≡ d) ⊎ Touched F documents d)
      go true e = (alike d (with_active a d) refl refl refl, inr ((window, d.window.0), inl refl, ap (λ (n : ℕ). F.own (window, n)) (eqb-true d.window.0 w.0 (and_left (same_window d.window w) (eqb d.place place) e)) ∙ o))
      go false e = (alike d d refl refl refl, inl refl)

  pub fixes_state : (n : DocumentNumber) (s : ScriptState) → F.own (document, n.0) ≡ true → Fixes F documents (changing n (with_state s))
  fixes_state n s o d = go (same_document d.number n) refl
    where
      go : (c : Bool) → same_document d.number n ≡ c → Same documents d (cond c (with_state s d) d) × ((cond c (with_state s d) d ≡ d) ⊎ Touched F documents d)
      go true e = (alike d (with_state s d) refl refl refl, inr ((document, d.number.0), inr (inl refl), ap (λ (k : ℕ). F.own (document, k)) (eqb-true d.number.0 n.0 e) ∙ o))
      go false e = (alike d d refl refl refl, inl refl)

-- ALGORITHM 7, lines 11 to 14.
module _ (F : Part) where
  local-ok : (o : Origin) (v : Stored) → F.own (host, o.host.0) ≡ true → All (Ok F local_storage) (store_local o v)
  local-ok o v h = go (eqb v.0 0)
    where
      go : (c : Bool) → All (Ok F local_storage) (cond c (drop (o.host.0, is_secure o.protocol) ∷ []) (put (record { origin = o; value = v }) ∷ []))
      go true = (h, tt)
      go false = ((h, tt, tt), tt)

  session-ok : (o : Origin) (top : WindowNumber) (v : Stored) → F.own (host, o.host.0) ≡ true → sees F (window, top.0) ≡ true → All (Ok F session_storage) (store_session o top v)
  session-ok o top v h s = go (eqb v.0 0)
    where
      go : (c : Bool) → All (Ok F session_storage) (cond c (drop (o.host.0, (is_secure o.protocol, top.0)) ∷ []) (put (record { origin = o; top = top; value = v }) ∷ []))
      go true = (h, tt)
      go false = ((h, tt, (s, tt)), tt)

  pub kept_store : (n : Table → ℕ) (d : Document) (top : WindowNumber) (merged : List Cookie) (out : Output) (p : Program)
      → F.own (host, d.location.host.0) ≡ true → F.own (document, d.number.0) ≡ true → sees F (window, top.0) ≡ true → length merged ≤ 4
      → Always F (after_storing n) p → Always F n (store d top merged out p)
  kept_store n d top merged out p oh od st few k b = (
    cookies-ok F d.location.host merged oh,
    4,
    stored-few d.location.host merged few,
    (
      local-ok (origin_of d) out.local oh,
      1,
      local-few (origin_of d) out.local,
      (
        session-ok (origin_of d) top out.session oh st,
        1,
        session-few (origin_of d) top out.session,
        (fixes_state F d.number out.state od, k _),
      ),
    ),
  )

-- ALGORITHM 8, lines 2 to 6.
module _ (F : Part) where
  strict-ok : (w : Waiting) (a : Answer) → F.own (host, w.request.host.0) ≡ true → All (Ok F sts) (strict_host w a)
  strict-ok w a h = go (a.strict && is_secure w.url.protocol)
    where
      go : (c : Bool) → All (Ok F sts) (cond c (put (record { host = w.request.host }) ∷ []) [])
      go true = ((h, tt, tt), tt)
      go false = tt

  pub kept_headers : (n : Table → ℕ) (w : Waiting) (a : Answer) (new : List Cookie) (p : Program)
      → F.own (request, w.request.number.0) ≡ true → F.own (host, w.request.host.0) ≡ true → length new ≤ 4 → Always F (acting n) p → Always F n (act_on_headers w a new p)
  unfolding add_cookies
  kept_headers n w a new p orq oh few k b =
      let good = keep (λ (c : Cookie). not (bad_prefix w.url.protocol c)) new in (
        (orq, tt),
        0,
        (omega arith),
        (cookies-ok F w.request.host good oh, 4, added-few w.request.host new w.url.protocol few, (strict-ok w a oh, 1, strict-few w a, k _)),
      )

-- WHAT GOES WITH DOCUMENTS.
abbrev pub removing : (Table → ℕ) → Table → ℕ
removing n u = ((n u + on windows 0 u) + on documents 0 u) + on inputs 0 u

pub record Removable (F : Part) (gone : Removal) : Type 0 where
  pub windows-own : (w : WindowNumber) → window_one_of w gone.windows ≡ true → F.own (window, w.0) ≡ true
  pub documents-own : (d : DocumentNumber) → one_of d gone.documents ≡ true → F.own (document, d.0) ≡ true

pub kept-remove : (F : Part) (n : Table → ℕ) (gone : Removal) (p : Program) → Removable F gone → Always F (removing n) p → Always F n (remove gone p)
kept-remove F n gone p h k b =
    ((gone-windows, tt), 0, (omega arith), ((gone-documents, tt), 0, (omega arith), ((gone-inputs, tt), 0, (omega arith), k _)))
  where
    gone-windows : (r : Window) → not (window_one_of r.number gone.windows) ≡ false → Touched F windows r
    gone-windows r e = ((window, r.number.0), inl refl, h.windows-own r.number (not-false (window_one_of r.number gone.windows) e))

    gone-documents : (d : Document) → not (one_of d.number gone.documents) ≡ false → Touched F documents d
    gone-documents d e = ((document, d.number.0), inr (inl refl), h.documents-own d.number (not-false (one_of d.number gone.documents) e))

    gone-inputs : (i : Input) → not (one_of i.document gone.documents) ≡ false → Touched F inputs i
    gone-inputs i e = ((document, i.document.0), inl refl, h.documents-own i.document (not-false (one_of i.document gone.documents) e))

-- ALGORITHMS 5 AND 6, for a trigger.
pub kept-moved : (F : Part) (w : WindowNumber) (ds : List Document) (o : Option Document) (b : Tables) → F.own (window, w.0) ≡ true → Keeps F (λ t. 0) (moved w (λ p. p) ds o) b
unfolding moved
kept-moved F w ds none b h = tt
kept-moved F w ds (some e) b h =
    (fixes_active F w (place_of (active_among ds)) false h, (fixes_active F w e.place true h, kept_cancel F (λ t. 0) (Bare w) (done none) tt (λ c. four _ refl) b))
