-- A DNS answer and an HTTP answer keep to their part.
use mathlib.Core.Path.{◌≡◌, refl, sym, ◌∙◌, ap, subst}
use mathlib.Core.Logic.{inl, inr}
use mathlib.Core.Bool.{Bool, true, false, ◌&&◌}
use mathlib.Core.List.{List, [], ◌∷◌, map}
use Rattle.std.specs.Prelude.{Option, None as none, Some as some}
use Prim.Native.Nat.{ℕ, suc, ◌≤◌}
use native.Mathlib.Omega.{arith}
use lib.Dec.{eqb, ltb}
use lib.ListN.{length}
use Rattle.sorted.specs.Table.{In, put}
use Rattle.sorted.proofs.Never.{never}
use Rattle.sorted.proofs.Tests.{and_right}
use Rattle.sorted.proofs.Member.{in_keep}
use Rattle.sorted.proofs.Lookup.{at_key}
use Rattle.tables.specs.Tables.{windows, documents, inputs, pending_dns, key_of, cmp, Tables}
use Rattle.tables.specs.Labels.{Label, window, request, dns, key, document, host, leads}
use Rattle.tables.specs.Rows.{same_host, setting_active, one_of}
use Rattle.wim.specs.Nouns.{WindowNumber, DocumentNumber, KeyNumber, Host, Address, Protocol, Plain, Secure, Url, Cookie, Matching, Reference, Req, Xhr, Script, ScriptState, Body, Number, Page, Answer, DnsAnswer, EncryptedAnswer, PlainAnswer, DnsResolved, Document, Question, Waiting, Answered, NoQuestion, NoRequest, Mismatch}
use Rattle.wim.specs.Walks.{document_numbered, active_among, steps, is_reached}
use Rattle.wim.specs.Program.{Program, edit, revise, bring, done, reached, history, listening, arrived, under, question, keyless, keyed, when, listens, observed}
use Rattle.wim.specs.Sending.{send}
use Rattle.wim.specs.History.{place_of}
use Rattle.wim.specs.Script.{remove, file}
use Rattle.wim.specs.Response.{act_on_headers, where_to, with_fragment_of, redirection, later_than, up_to, new_document, Course, nothing_more, window_course, script_course, course_of, takes, process_response}
use Rattle.wim.specs.Main.{encrypted_answer, plain_answer, go_out, resolved, program}
use Rattle.wim.specs.LocalSteps.{asked, awaited, home, top_of_document, top_of, hosts, url_host, followed_host, redirect_host, answer_hosts}
use Rattle.wim.proofs.Walks.{reached-from, reached-top}
use Rattle.tables.proofs.Update.{linear}
use Rattle.wim.proofs.Numbers.{found-document}
use Rattle.four_rows.proofs.Adds.{four}
use Rattle.four_rows.proofs.Programs.{none_yet, acting}
use Rattle.either_order.proofs.Part.{Part, sees, own_sees, Whole}
use Rattle.either_order.proofs.Keeps.{Keeps}
use Rattle.either_order.proofs.Colour.{top_of_label}
use Rattle.either_order.proofs.Shared.{kept-needs, kept-unless, kept_send, fixes_active, kept_headers, kept-remove}
use Rattle.either_order.proofs.Seeds.{waiting_number, question_number, Seeds, some-own, under-own}

-- A9:64 to 74, of the entry that waits
module _ (F : Part) (b : Tables) (q : Question) (od : F.own (dns, q.number.0) ≡ true) (orq : F.own (request, q.request.number.0) ≡ true) (s : sees F (leads q.reference) ≡ true) where
  kept_out : (p : Protocol) (address : Address) → Keeps F none_yet (go_out p q address) b
  unfolding go_out
  kept_out Plain address = (((orq, tt, (s, tt)), tt), 1, (omega arith), ((od, tt), 0, (omega arith), four _ refl))
  kept_out Secure address = λ k ok. (((orq, (ok, tt), (s, tt)), tt), 1, (omega arith), ((od, tt), 0, (omega arith), four _ refl))

pub kept-resolved : (F : Part) (b : Tables) → Whole F b → (a : DnsAnswer) (new : List Cookie) → Seeds F (DnsResolved a) b → Keeps F none_yet (program (DnsResolved a) new) b
unfolding program resolved home hosts observed
kept-resolved F b W a new S = (
  S.sought_sees (dns, a.number.0) (inl refl),
  kept-needs F none_yet b NoQuestion (observed (question a.number) b) _ (λ q e.
      let inb : In q (b pending_dns) = (at_key (key_of pending_dns) (cmp pending_dns) (linear pending_dns) a.number.0 (b pending_dns) q e).0 in
      let od : F.own (dns, q.number.0) ≡ true = S.found-own (dns, q.number.0) (subst (λ (o : Option Question). In (dns, q.number.0) (question_number o)) (sym e) (inl refl)) in
      let orq : F.own (request, q.request.number.0) ≡ true = (W.owns pending_dns q inb).0 (request, q.request.number.0) (inl refl) ∙ od in
      kept-unless F none_yet b (same_host a.host q.request.host) Mismatch _
      (kept_out F b q od orq (S.home_sees (leads q.reference) (ap asked e)) q.url.protocol a.address)),
)

-- an XHR's document that listens stands under a top-level window
listened : (b : Tables) (n : DocumentNumber) (d : Document) → observed (listening n) b ≡ some d → (d.number ≡ n) × ((t : WindowNumber) × (top_of b document n.0 ≡ some t))
unfolding observed top_of
listened b n d e = go (document_numbered (b documents) n) refl e
  where
    go : (o : Option Document) → document_numbered (b documents) n ≡ o → listens (b windows) (b documents) o ≡ some d → (d.number ≡ n) × ((t : WindowNumber) × (top_of_document b (document_numbered (b documents) n) ≡ some t))
    go none f g = never (cc)
    go (some x) f g = test (x.active && is_reached (b windows) (b documents) x.window) refl g
      where
        test : (c : Bool) → (x.active && is_reached (b windows) (b documents) x.window) ≡ c → when c (some x) ≡ some d → (d.number ≡ n) × ((t : WindowNumber) × (top_of_document b (document_numbered (b documents) n) ≡ some t))
        test false h k = never (cc)
        test true h k =
            let xd : x ≡ d = cc in
            let z = reached-from (b windows) (b documents) x.window (and_right x.active (is_reached (b windows) (b documents) x.window) h) in
            ((found-document (b documents) n d (f ∙ ap some xd)).1, (z.0, ap (top_of_document b) f ∙ reached-top (b windows) (b documents) steps x.window z.0 z.1))

later_in : (o : Option Document) (ds : List Document) (d : Document) → In d (later_than o ds) → In d ds
later_in none ds d i = absurd i
later_in (some a) ds d i = (in_keep (λ (d : Document). ltb a.place d.place) ds d i).0

-- ALGORITHM 8, of the request that waits
module _ (F : Part) (b : Tables) (W : Whole F b) (w : Waiting) (a : Answer) (new : List Cookie) (few : length new ≤ 4)
    (orq : F.own (request, w.request.number.0) ≡ true) (oh : F.own (host, w.request.host.0) ≡ true) (s : sees F (leads w.reference) ≡ true)
    (ol : (t : WindowNumber) → top_of_label b (leads w.reference) ≡ some t → F.own (leads w.reference) ≡ true)
    (ore : (h : Host) → In h (redirect_host b a w.reference) → F.own (host, h.0) ≡ true) where
  -- headers are acted upon, and the answer goes on
  abbrev goes : Course → Program
  goes c = act_on_headers w a new (takes c w a)

  headers_only : Keeps F none_yet (goes nothing_more) b
  unfolding takes
  headers_only = kept_headers F none_yet w a new (done none) orq oh few (λ c. four _ refl) b

  kept-load : (v : WindowNumber) (top : WindowNumber) (script : Script) (state : ScriptState) → F.own (window, v.0) ≡ true → Keeps F none_yet (window_course v (some top) none (Page script state) goes) b
  unfolding window_course takes
  kept-load v top script state ov = (
    own_sees F (window, v.0) ov,
    (
      (λ x e. own_sees F (document, x.0) (gone-own x e)),
      kept_headers F none_yet w a new (bring document (λ n. remove (observed (under gone) b) (shows n))) orq oh few
          (λ c n od. kept-remove F (acting none_yet) (observed (under gone) b) (shows n) (under-own F b W gone gone-own) (λ c'. (fixes_active F v (place_of current) false ov, (((ov, (od, tt), tt), tt), 1, (omega arith), four _ refl))) c) b,
    ),
  )
    where
      ds : List Document
      ds = observed (history v) b

      current : Option Document
      current = active_among ds

      gone : List DocumentNumber
      gone = map (λ (d : Document). d.number) (later_than current ds)

      shows : ℕ → Program
      shows n = revise documents (setting_active v (place_of current) false) (edit documents (put (new_document v (suc (length (up_to current ds))) n w a script state) ∷ []) (done none))

      gone-own : (n : DocumentNumber) → one_of n gone ≡ true → F.own (document, n.0) ≡ true
      gone-own = some-own F b W v (later_than current ds) ov (later_in current ds)

  kept-window : (v top : WindowNumber) (to : Option Url) (body : Body) → ((h : Host) → In h (url_host to) → F.own (host, h.0) ≡ true) → F.own (window, v.0) ≡ true → Keeps F none_yet (window_course v (some top) to body goes) b
  unfolding window_course takes
  kept-window v top (some u) body h ov = kept_headers F none_yet w a new (send (redirection (with_fragment_of w.url u) w a)) orq oh few (kept_send F (acting none_yet) (redirection (with_fragment_of w.url u) w a) s (h u.host (inl refl)) (four _ refl)) b
  kept-window v top none (Number m) h ov = headers_only
  kept-window v top none (Page script state) h ov = kept-load v top script state ov

  kept-script-answer : (n : DocumentNumber) (matching : Matching) (to : Option Url) (found : Option Document) → observed (listening n) b ≡ found → w.reference ≡ Xhr n matching → Keeps F none_yet (script_course matching to found goes) b
  unfolding script_course takes
  kept-script-answer n matching (some u) found e r = headers_only
  kept-script-answer n matching none none e r = headers_only
  kept-script-answer n matching none (some d) e r = (
    own_sees F (document, d.number.0) od,
    kept_headers F none_yet w a new (edit inputs (file d.number (observed (arrived d.number) b) (Answered matching a.body)) (done none)) orq oh few
        (λ c. (((od, tt, tt), tt), 1, (omega arith), four _ refl)) b,
  )
    where
      z : (d.number ≡ n) × ((t : WindowNumber) × (top_of b document n.0 ≡ some t))
      z = listened b n d e

      on' : F.own (document, n.0) ≡ true
      on' = ap (λ (x : Reference). F.own (leads x)) (sym r) ∙ ol z.1.0 (ap (λ (x : Reference). top_of_label b (leads x)) r ∙ z.1.1)

      od : F.own (document, d.number.0) ≡ true
      od = ap (λ (x : DocumentNumber). F.own (document, x.0)) z.0 ∙ on'

  kept_process : (r : Reference) → w.reference ≡ r → Keeps F none_yet (process_response r w a new) b
  unfolding process_response course_of window_course top_of observed
  kept_process (Req v) e = (ap (λ (r : Reference). sees F (leads r)) (sym e) ∙ s, to (observed (reached v) b) refl)
    where
      to : (found : Option WindowNumber) → observed (reached v) b ≡ found → Keeps F none_yet (window_course v found (where_to a.status a.location) a.body goes) b
      to none f = headers_only
      to (some top) f = kept-window v top (where_to a.status a.location) a.body (λ h i. ore h (subst (λ (r : Reference). In h (redirect_host b a r)) (sym e) (followed h i))) ov
        where
          followed : (h : Host) → In h (url_host (where_to a.status a.location)) → In h (redirect_host b a (Req v))
          followed h i = subst (λ (o : Option WindowNumber). In h (followed_host o (where_to a.status a.location))) (sym f) i

          ov : F.own (window, v.0) ≡ true
          ov = ap (λ (r : Reference). F.own (leads r)) (sym e) ∙ ol top (ap (λ (r : Reference). top_of_label b (leads r)) e ∙ reached-top (b windows) (b documents) steps v top f)
  kept_process (Xhr n matching) e = (ap (λ (r : Reference). sees F (leads r)) (sym e) ∙ s, kept-script-answer n matching (where_to a.status a.location) (observed (listening n) b) refl e)

-- whichever way the request is found
module _ (F : Part) (b : Tables) (W : Whole F b) (a : Answer) (new : List Cookie) (few : length new ≤ 4) (w : Waiting) (o : Option Waiting) (e : o ≡ some w)
    (own-found : (l : Label) → In l (waiting_number o) → F.own l ≡ true) (see-home : (l : Label) → awaited o ≡ some l → sees F l ≡ true)
    (own_home : (l : Label) (t : WindowNumber) → awaited o ≡ some l → top_of_label b l ≡ some t → F.own l ≡ true) (own-hosts : (h : Host) → In h (answer_hosts b a o) → F.own (host, h.0) ≡ true) where
  kept-found : Keeps F none_yet (process_response w.reference w a new) b
  kept-found = kept_process F b W w a new few
      (own-found (request, w.request.number.0) (subst (λ (x : Option Waiting). In (request, w.request.number.0) (waiting_number x)) (sym e) (inl refl)))
      (own-hosts w.request.host (subst (λ (x : Option Waiting). In w.request.host (answer_hosts b a x)) (sym e) (inl refl)))
      (see-home (leads w.reference) (ap awaited e)) (λ t h. own_home (leads w.reference) t (ap awaited e) h)
      (λ h i. own-hosts h (subst (λ (x : Option Waiting). In h (answer_hosts b a x)) (sym e) (inr i))) w.reference refl

pub kept_encrypted : (F : Part) (b : Tables) → Whole F b → (k : KeyNumber) (a : Answer) (new : List Cookie) → length new ≤ 4 → Seeds F (EncryptedAnswer k a) b → Keeps F none_yet (program (EncryptedAnswer k a) new) b
unfolding program encrypted_answer home hosts
kept_encrypted F b W k a new few S = (
  S.sought_sees (key, k.0) (inl refl),
  kept-needs F none_yet b NoRequest (observed (keyed k) b) _ (λ w e.
      kept-unless F none_yet b (eqb a.number.0 w.request.number.0) Mismatch _ (kept-found F b W a new few w (observed (keyed k) b) e S.found-own S.home_sees S.home-own S.hosts-own)),
)

pub kept-plain : (F : Part) (b : Tables) → Whole F b → (a : Answer) (new : List Cookie) → length new ≤ 4 → Seeds F (PlainAnswer a) b → Keeps F none_yet (program (PlainAnswer a) new) b
unfolding program plain_answer home hosts
kept-plain F b W a new few S = (
  S.sought_sees (request, a.number.0) (inl refl),
  kept-needs F none_yet b NoRequest (observed (keyless a.number) b) _ (λ w e.
      kept-found F b W a new few w (observed (keyless a.number) b) e S.found-own S.home_sees S.home-own S.hosts-own),
)
