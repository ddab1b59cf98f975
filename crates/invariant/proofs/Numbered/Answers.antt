-- An answer's step is orderly: an HTTP response, plain or encrypted, and a DNS response.
use mathlib.Core.Path.{◌≡◌, refl}
use mathlib.Core.Bool.{Bool, true, false}
use mathlib.Core.List.{List}
use Rattle.std.specs.Prelude.{Option, None as none, Some as some}
use lib.Dec.{eqb}
use Rattle.sorted.specs.Table.{In}
use Rattle.sorted.proofs.Never.{never}
use Rattle.sorted.proofs.Lookup.{at_key}
use Rattle.tables.specs.Tables.{documents, cookies, inputs, pending_dns, pending_requests, sts, key_of, cmp, Tables}
use Rattle.tables.specs.Labels.{key, document}
use Rattle.tables.specs.Rows.{same_host}
use Rattle.wim.specs.Nouns.{WindowNumber, Address, Protocol, Plain, Secure, Url, Cookie, Matching, Reference, Req, Xhr, Keyless, Keyed, Body, Number, Page, Answer, DnsAnswer, Document, Question, Waiting, NoRequest, Mismatch}
use Rattle.wim.specs.Walks.{active_among}
use Rattle.wim.specs.Program.{Program, observed, ask, history, under, reached, listening, arrived, question, refuse_unless, run}
use Rattle.wim.specs.History.{place_of}
use Rattle.wim.specs.Response.{act_on_headers, where_to, Course, followed, loaded, handed, nothing_more, window_course, script_course, course_of, takes, process_response}
use Rattle.wim.specs.Main.{encrypted_answer, plain_answer, go_out, resolved}
use Rattle.tables.proofs.Update.{linear}
use Rattle.invariant.proofs.Numbered.Once.{once_document, once_out}
use Rattle.invariant.proofs.Numbered.Kept.{Kept, once_kept, new-document, new-key}
use Rattle.invariant.proofs.Numbered.Orderly.{Ends, Orderly, ends-done, ends-bring, ends-edit, orderly_done, orderly_refuse, orderly_ask, orderly_bring, orderly_edit, orderly_revise, orderly_cut, orderly_needs, orderly_unless}
use Rattle.invariant.proofs.Numbered.Shared.{stays-active, orderly_send, orderly_remove}

module _ {a : Tables} where
  orderly_headers : (w : Waiting) (x : Answer) (new : List Cookie) (p : Program) → Orderly a p → Orderly a (act_on_headers w x new p)
  orderly_headers w x new p g = orderly_cut pending_requests _ _ refl (orderly_edit cookies _ _ (λ r i. tt) (orderly_edit sts _ p (λ r i. tt) g))

  -- a new document has a number of its own
  orderly_takes : (c : Course) (w : Waiting) (x : Answer) → Orderly a (takes c w x)
  unfolding takes
  orderly_takes (followed u) w x = orderly_send _
  orderly_takes (loaded v ds gone script state) w x = orderly_bring document _ (λ n fresh. orderly_remove gone _
      (orderly_revise _ _ (stays-active v (place_of (active_among ds)) false) (λ b K. ends-edit documents _ _ b (ends-done _ _ (once_document b (once_kept K) _ (new-document K n fresh))))))
  orderly_takes (handed d earlier m) w x = orderly_edit inputs _ _ (λ r i. tt) (orderly_done none)
  orderly_takes nothing_more w x = orderly_done none

  module _ (go : Course → Program) (g : (c : Course) → Orderly a (go c)) where
    orderly-window_course : (v : WindowNumber) (found : Option WindowNumber) (to : Option Url) (body : Body) → Orderly a (window_course v found to body go)
    unfolding window_course
    orderly-window_course v none to body = g nothing_more
    orderly-window_course v (some top) (some u) body = g (followed u)
    orderly-window_course v (some top) none (Number m) = g nothing_more
    orderly-window_course v (some top) none (Page script state) = orderly_ask (history v) _ (λ ds. orderly_ask (under _) _ (λ gone. g (loaded v ds gone script state)))

    orderly-script_course : (m : Matching) (to : Option Url) (found : Option Document) → Orderly a (script_course m to found go)
    unfolding script_course
    orderly-script_course m (some u) found = g nothing_more
    orderly-script_course m none none = g nothing_more
    orderly-script_course m none (some d) = orderly_ask (arrived d.number) _ (λ earlier. g (handed d earlier m))

    orderly_course : (r : Reference) (x : Answer) → Orderly a (course_of r x go)
    unfolding course_of
    orderly_course (Req v) x = orderly_ask (reached v) _ (λ found. orderly-window_course v found (where_to x.status x.location) x.body)
    orderly_course (Xhr n m) x = orderly_ask (listening n) _ (orderly-script_course m (where_to x.status x.location))

  orderly_response : (r : Reference) (w : Waiting) (x : Answer) (new : List Cookie) → Orderly a (process_response r w x new)
  unfolding process_response
  orderly_response r w x new = orderly_course _ (λ c. orderly_headers w x new _ (orderly_takes c w x)) r x

  pub orderly_encrypted : (x : Answer) (new : List Cookie) (found : Option Waiting) → Orderly a (encrypted_answer x new found)
  unfolding encrypted_answer
  orderly_encrypted x new found = orderly_needs NoRequest found _ (λ w. orderly_unless (eqb x.number.0 w.request.number.0) Mismatch _ (orderly_response w.reference w x new))

  pub orderly_plain : (x : Answer) (new : List Cookie) (found : Option Waiting) → Orderly a (plain_answer x new found)
  unfolding plain_answer
  orderly_plain x new found = orderly_needs NoRequest found _ (λ w. orderly_response w.reference w x new)

  -- a waiting request, with the number of its question and a key of its own
  module _ (b : Tables) (K : Kept a b) where
    ends-out : (p : Protocol) (q : Question) (address : Address) → In q (b pending_dns) → Ends a (go_out p q address) b
    unfolding go_out
    ends-out Plain q address i =
        ends-edit pending_requests _ _ b (ends-edit pending_dns _ _ _ (ends-done _ _ (once_out b (once_kept K) q Keyless address i (λ w k j s e. never (cc)))))
    ends-out Secure q address i =
        ends-bring key _ b (λ n fresh. ends-edit pending_requests _ _ b (ends-edit pending_dns _ _ _
        (ends-done _ _ (once_out b (once_kept K) q (Keyed (record { 0 = n })) address i (new-key K n fresh)))))

  pub orderly_resolved : (x : DnsAnswer) → Orderly a (ask (question x.number) (resolved x))
  unfolding run observed resolved
  orderly_resolved x b K = go (observed (question x.number) b) refl
    where
      out : (q : Question) → In q (b pending_dns) → (t : Bool) → Ends a (refuse_unless t Mismatch (go_out q.url.protocol q x.address)) b
      out q i true = ends-out b K q.url.protocol q x.address i
      out q i false = orderly_refuse _ b K

      go : (o : Option Question) → observed (question x.number) b ≡ o → Ends a (resolved x o) b
      go none e = orderly_refuse _ b K
      go (some q) e = out q (at_key (key_of pending_dns) (cmp pending_dns) (linear pending_dns) x.number.0 (b pending_dns) q e).0 (same_host x.host q.request.host)
