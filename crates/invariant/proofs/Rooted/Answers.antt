-- Every answer keeps the tables standing: PROCESSRESPONSE.
use mathlib.Core.Path.{◌≡◌, refl, ap, subst}
use mathlib.Core.Bool.{Bool, true, false, ◌&&◌}
use mathlib.Core.List.{List}
use Rattle.std.specs.Prelude.{Option, None as none, Some as some}
use Prim.Native.Nat.{suc}
use lib.ListN.{length}
use Rattle.sorted.specs.Table.{In}
use Rattle.sorted.proofs.Never.{never}
use Rattle.tables.specs.Tables.{windows, documents, inputs, Tables}
use Rattle.wim.specs.Nouns.{WindowNumber, DocumentNumber, Url, Cookie, Reference, Req, Xhr, Matching, Script, ScriptState, Body, Number, Page, Answer, Answered, Waiting, Document}
use Rattle.wim.specs.Walks.{documents_of, active_among, document_numbered, steps, is_reached}
use Rattle.wim.specs.Program.{observed, reached, listening, when, listens}
use Rattle.wim.specs.Response.{act_on_headers, where_to, up_to, new_document, window_course, script_course, course_of, takes, process_response}
use Rattle.wim.specs.Invariant.{Numbered}
use Rattle.wim.proofs.Numbers.{found-document}
use Rattle.wim.proofs.Walks.{reached-row}
use Rattle.invariant.proofs.Rooted.Stands.{Stands}
use Rattle.invariant.proofs.Rooted.Loaded.{stands-load}
use Rattle.invariant.proofs.Rooted.Walk.{Keeps}
use Rattle.invariant.proofs.Rooted.Fresh.{Fresh, new-document}
use Rattle.invariant.proofs.Rooted.Touched.{Whole, kept_send, untouched}
use Rattle.invariant.proofs.Rooted.Blocks.{whole_filed}

module _ (b : Tables) (N : Numbered b) (S : Stands (b windows) (b documents) (b inputs)) where
  -- A WINDOW'S ANSWER
  kept-load : (v : WindowNumber) (w : Waiting) (a : Answer) (new : List Cookie) (script : Script) (state : ScriptState) (top : WindowNumber) → observed (reached v) b ≡ some top
      → Keeps Whole (Fresh b) (window_course v (some top) none (Page script state) (λ c. act_on_headers w a new (takes c w a))) b
  unfolding window_course takes observed
  kept-load v w a new script state top e n f l =
      let r = reached-row (b windows) (b documents) steps v top e in
      let o = active_among (documents_of (b documents) v) in
      stands-load (b windows) (b documents) (b inputs) S (N.sorted windows) (N.sorted documents) N.documents_once v r.0 r.1 o refl
      (new_document v (suc (length (up_to o (documents_of (b documents) v)))) n w a script state) refl refl refl (λ d i p. new-document b n f d i (ap (λ (m : DocumentNumber). m.0) p))

  kept-window : (v : WindowNumber) (w : Waiting) (a : Answer) (new : List Cookie) (found : Option WindowNumber) (to : Option Url) (body : Body) → observed (reached v) b ≡ found
      → Keeps Whole (Fresh b) (window_course v found to body (λ c. act_on_headers w a new (takes c w a))) b
  unfolding window_course takes
  kept-window v w a new none to body e = λ l. S
  kept-window v w a new (some top) (some u) body e = kept_send (Fresh b) _ _ (λ l. S)
  kept-window v w a new (some top) none (Number m) e = λ l. S
  kept-window v w a new (some top) none (Page script state) e = kept-load v w a new script state top e

  -- AN XHR'S ANSWER
  listener_in : (n : DocumentNumber) (d : Document) → observed (listening n) b ≡ some d → In d (b documents)
  unfolding observed
  listener_in n d e = go (document_numbered (b documents) n) refl e
    where
      one : (x : Document) (t : Bool) → document_numbered (b documents) n ≡ some x → when t (some x) ≡ some d → In d (b documents)
      one x true f e = let q : x ≡ d = cc in subst (λ (y : Document). In y (b documents)) q (found-document (b documents) n x f).0
      one x false f e = never (cc)

      go : (o : Option Document) → document_numbered (b documents) n ≡ o → listens (b windows) (b documents) o ≡ some d → In d (b documents)
      go none f e = never (cc)
      go (some x) f e = one x (x.active && is_reached (b windows) (b documents) x.window) f e

  kept-script : (w : Waiting) (a : Answer) (new : List Cookie) (matching : Matching) (to : Option Url) (found : Option Document)
      → ((d : Document) → found ≡ some d → In d (b documents)) → Keeps Whole (Fresh b) (script_course matching to found (λ c. act_on_headers w a new (takes c w a))) b
  unfolding script_course takes observed
  kept-script w a new matching (some u) found h = λ l. S
  kept-script w a new matching none none h = λ l. S
  kept-script w a new matching none (some d) h = λ l. whole_filed b N S b (untouched b) d (h d refl) (Answered matching a.body)

  pub kept_response : (ref : Reference) (w : Waiting) (a : Answer) (new : List Cookie) → Keeps Whole (Fresh b) (process_response ref w a new) b
  unfolding process_response course_of
  kept_response (Req v) w a new = kept-window v w a new (observed (reached v) b) (where_to a.status a.location) a.body refl
  kept_response (Xhr n matching) w a new = kept-script w a new matching (where_to a.status a.location) (observed (listening n) b) (listener_in n)
