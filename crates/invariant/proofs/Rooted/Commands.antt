-- Every command of a script keeps the tables standing.
use mathlib.Core.Path.{◌≡◌, refl, sym, ap, subst}
use mathlib.Core.Bool.{Bool, true, false, cond, not}
use mathlib.Core.List.{List, [], map}
use Rattle.std.specs.Prelude.{Option, None as none, Some as some}
use Prim.Native.Nat.{ℕ, suc}
use lib.Dec.{eqb}
use Rattle.sorted.specs.Table.{In}
use Rattle.sorted.proofs.Member.{find_in}
use Rattle.tables.specs.Tables.{windows, documents, inputs, Tables, apply}
use Rattle.tables.specs.Rows.{origin_of, same_origin, with_state, with_script, setting_active}
use Rattle.wim.specs.Nouns.{WindowNumber, Url, Method, Data, Reference, Xhr, Target, NewWindow, Existing, Holder, Itself, Within, Addressee, Command, Nothing, Href, Iframe, Form, SetScript, SetScriptState, XmlHttpRequest, Back, Forward, Close, PostMessage, Cookie, Output, OpenedBy, Posted, Document, NoWindow, NoDocument}
use Rattle.wim.specs.Walks.{documents_of, active_among, active_document, is_reached, has_origin}
use Rattle.wim.specs.Cookies.{cookie_merge}
use Rattle.wim.specs.Program.{observed, Program, reached, active, navigated, of_origin, arrived, cookies_of, when, with_origin}
use Rattle.wim.specs.History.{document_before, document_after, neighbour, place_of, moved, nav_back, nav_forward}
use Rattle.wim.specs.Script.{otherwise, store, href, opener_unless, iframe, iframe_in, is_form_method, form, setting, is_forbidden, url_origin, xhr, close, is_for, file, deliver, post_message, command, run_script}
use Rattle.wim.specs.Invariant.{Numbered}
use Rattle.invariant.proofs.Rooted.Stands.{Stands}
use Rattle.invariant.proofs.Rooted.Revised.{Calm, calm_state, calm_script, stands_calm}
use Rattle.invariant.proofs.Rooted.Gone.{in_history, active_in}
use Rattle.invariant.proofs.Rooted.Walk.{Keeps, kept-needs, kept-stop}
use Rattle.invariant.proofs.Rooted.Fresh.{Fresh}
use Rattle.invariant.proofs.Rooted.Touched.{Whole, kept_send, Touched, Light, light_store, calm_changing}
use Rattle.invariant.proofs.Rooted.Blocks.{whole_touched, whole_top, whole_frame, whole-closed, whole-moved, whole_filed}

module _ (b : Tables) (N : Numbered b) (S : Stands (b windows) (b documents) (b inputs)) (storing : Program → Program) (L : Light storing) where
  -- THE HISTORY: A5 and A6.
  kept-moved : (v : WindowNumber) (o : Option Document) → active_among (documents_of (b documents) v) ≡ o → (towards : List Document → Document → Option Document)
      → ((d e : Document) → towards (documents_of (b documents) v) d ≡ some e → In e (documents_of (b documents) v))
      → Keeps Whole (Fresh b) (moved v storing (documents_of (b documents) v) (neighbour towards (documents_of (b documents) v) o)) b
  unfolding moved
  kept-moved v none f towards t = tt
  kept-moved v (some a) f towards t = go (towards (documents_of (b documents) v) a) refl
    where
      place : place_of (active_among (documents_of (b documents) v)) ≡ a.place
      place = ap place_of f

      go : (e : Option Document) → towards (documents_of (b documents) v) a ≡ e → Keeps Whole (Fresh b) (moved v storing (documents_of (b documents) v) e) b
      go none g = tt
      go (some e) g = L Whole (Fresh b) _ b (λ c T l. (let z = in_history (b documents) v e (t a e g) in
          subst (λ (p : ℕ). Stands (c windows) (map (setting_active v e.place true) (map (setting_active v p false) (c documents))) (c inputs)) (sym place) (whole-moved b N S c T v a e f z.0 z.1)))

  pub kept_back : (v : WindowNumber) → Keeps Whole (Fresh b) (nav_back v storing) b
  unfolding nav_back observed
  kept_back v = kept-moved v (active_among (documents_of (b documents) v)) refl document_before (λ d e g. (find_in (λ (x : Document). eqb (suc x.place) d.place) (documents_of (b documents) v) e g).0)

  pub kept-forward : (v : WindowNumber) → Keeps Whole (Fresh b) (nav_forward v storing) b
  unfolding nav_forward observed
  kept-forward v = kept-moved v (active_among (documents_of (b documents) v)) refl document_after (λ d e g. (find_in (λ (x : Document). eqb x.place (suc d.place)) (documents_of (b documents) v) e g).0)

  -- HREF
  kept-href : (w : WindowNumber) (d : Document) (url : Url) (noreferrer : Bool) (target : Target) → Keeps Whole (Fresh b) (href w d storing url noreferrer target) b
  unfolding href
  kept-href w d url noreferrer NewWindow = L Whole (Fresh b) _ b (λ c T n f. kept_send (Fresh b) _ _ (whole_top b N S c T n f (opener_unless noreferrer w)))
  kept-href w d url noreferrer (Existing x) = L Whole (Fresh b) _ b (λ c T. kept_send (Fresh b) _ _ (λ l. whole_touched b N S c T))

  -- IFRAME
  other_in : (d : Document) → In d (b documents) → (v : WindowNumber) → In (otherwise d (observed (of_origin d v) b)) (b documents)
  unfolding observed active_document
  other_in d i v = go (is_reached (b windows) (b documents) v) (active_among (documents_of (b documents) v)) refl
    where
      one : (t : Bool) (e : Document) → In e (b documents) → In (otherwise d (when t (some e))) (b documents)
      one true e j = j
      one false e j = i

      go : (t : Bool) (o : Option Document) → active_among (documents_of (b documents) v) ≡ o → In (otherwise d (when t (with_origin d o))) (b documents)
      go true none f = i
      go false none f = i
      go true (some e) f = one (has_origin (origin_of d) (some e)) e (active_in (b documents) v e f).0
      go false (some e) f = i

  kept_frame : (d : Document) (url : Url) (holder : Document) → In holder (b documents) → Keeps Whole (Fresh b) (iframe_in d storing url holder) b
  kept_frame d url holder i = L Whole (Fresh b) _ b (λ c T n f. kept_send (Fresh b) _ _ (whole_frame b N S c T n f holder i))

  kept-iframe : (d : Document) → In d (b documents) → (url : Url) (holder : Holder) → Keeps Whole (Fresh b) (iframe d storing url holder) b
  unfolding iframe
  kept-iframe d i url Itself = kept_frame d url d i
  kept-iframe d i url (Within x) = kept_frame d url (otherwise d (observed (of_origin d x) b)) (other_in d i x)

  -- FORM
  kept-form : (w : WindowNumber) (d : Document) (url : Url) (method : Method) (data' : Data) (target : Target) → Keeps Whole (Fresh b) (form w d storing url method data' target) b
  unfolding form
  kept-form w d url method data' NewWindow = kept-stop Whole (Fresh b) (not (is_form_method method)) _ b (L Whole (Fresh b) _ b (λ c T n f. kept_send (Fresh b) _ _ (whole_top b N S c T n f (OpenedBy w))))
  kept-form w d url method data' (Existing x) = kept-stop Whole (Fresh b) (not (is_form_method method)) _ b (L Whole (Fresh b) _ b (λ c T. kept_send (Fresh b) _ _ (λ l. whole_touched b N S c T)))

  -- SETSCRIPT, SETSCRIPTSTATE
  kept-setting : (d : Document) (x : WindowNumber) (f : Document → Document) → Calm f → Keeps Whole (Fresh b) (setting d storing x f) b
  unfolding setting
  kept-setting d x f m = L Whole (Fresh b) _ b (λ c T l. stands_calm (c windows) (c documents) (c inputs) _ (calm_changing (otherwise d (observed (of_origin d x) b)).number f m) (whole_touched b N S c T))

  -- XMLHTTPREQUEST
  kept-xhr : (d : Document) (url : Url) (method : Method) (data' : Data) (reference : Reference) → Keeps Whole (Fresh b) (xhr d storing url method data' reference) b
  unfolding xhr
  kept-xhr d url method data' reference =
      kept-stop Whole (Fresh b) (is_forbidden method) _ b (kept-stop Whole (Fresh b) (not (same_origin (url_origin url) (origin_of d))) _ b (L Whole (Fresh b) _ b (λ c T. kept_send (Fresh b) _ _ (λ l. whole_touched b N S c T))))

  -- CLOSE
  kept-close : (w : WindowNumber) (d : Document) (x : WindowNumber) → Keeps Whole (Fresh b) (close w d storing x) b
  unfolding close observed
  kept-close w d x = L Whole (Fresh b) _ b (λ c T l. whole-closed b N S c T _)

  -- POSTMESSAGE
  kept-deliver : (w : WindowNumber) (d : Document) (message : ℕ) (to : Addressee) (o : Option Document) → ((e : Document) → o ≡ some e → In e (b documents)) → Keeps Whole (Fresh b) (deliver w d storing message to o) b
  unfolding deliver observed
  kept-deliver w d message to none h = L Whole (Fresh b) _ b (λ c T l. whole_touched b N S c T)
  kept-deliver w d message to (some e) h = L Whole (Fresh b) _ b (λ c T. go (is_for to e) c T)
    where
      go : (t : Bool) (c : Tables) → Touched b c → Whole (apply inputs (cond t (file e.number (observed (arrived e.number) b) (Posted w (origin_of d) message)) []) c)
      go true c T l = whole_filed b N S c T e (h e refl) (Posted w (origin_of d) message)
      go false c T l = whole_touched b N S c T

  kept_post : (w : WindowNumber) (d : Document) (x : WindowNumber) (message : ℕ) (to : Addressee) → Keeps Whole (Fresh b) (post_message w d storing x message to) b
  unfolding post_message observed active_document
  kept_post w d x message to = kept-needs Whole (Fresh b) NoWindow (observed (reached x) b) _ b (λ top f. kept-deliver w d message to (observed (active x) b) (λ e g. (active_in (b documents) x e g).0))

  -- EACH COMMAND of an active document
  kept-command : (w : WindowNumber) (d : Document) → In d (b documents) → (k : Command) → Keeps Whole (Fresh b) (command w d storing k) b
  unfolding command
  kept-command w d i Nothing = L Whole (Fresh b) _ b (λ c T l. whole_touched b N S c T)
  kept-command w d i (Href url target noreferrer) = kept-href w d url noreferrer target
  kept-command w d i (Iframe url holder) = kept-iframe d i url holder
  kept-command w d i (Form url method data' target) = kept-form w d url method data' target
  kept-command w d i (SetScript x script) = kept-setting d x (with_script script) (calm_script script)
  kept-command w d i (SetScriptState x state) = kept-setting d x (with_state state) (calm_state state)
  kept-command w d i (XmlHttpRequest url method data' matching) = kept-xhr d url method data' (Xhr d.number matching)
  kept-command w d i (Back x) = kept_back (observed (navigated w d x) b)
  kept-command w d i (Forward x) = kept-forward (observed (navigated w d x) b)
  kept-command w d i (Close x) = kept-close w d x
  kept-command w d i (PostMessage x message to) = kept_post w d x message to

-- RUNSCRIPT
pub kept-script : (b : Tables) → Numbered b → Stands (b windows) (b documents) (b inputs) → (w : WindowNumber) (out : Output) (new : List Cookie) → Keeps Whole (Fresh b) (run_script w out new) b
unfolding run_script observed active_document
kept-script b N S w out new =
    kept-needs Whole (Fresh b) NoWindow (observed (reached w) b) _ b (λ top f. kept-needs Whole (Fresh b) NoDocument (observed (active w) b) _ b (λ d g.
    (let merged = cookie_merge (observed (cookies_of d.location.host) b) new d.location.protocol in
    kept-command b N S (store d top merged out) (light_store d top merged out) w d (active_in (b documents) w d g).0 out.command)))
