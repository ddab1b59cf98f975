-- A script's step with a local command keeps to its part.
use mathlib.Core.Path.{◌≡◌, refl, sym, ◌∙◌, ap}
use mathlib.Core.Logic.{inl}
use mathlib.Core.Bool.{Bool, true, false, cond, not}
use mathlib.Core.List.{List, [], ◌∷◌}
use Rattle.std.specs.Prelude.{Option, None as none, Some as some}
use Prim.Native.Nat.{ℕ, ◌+◌, ◌≤◌}
use native.Mathlib.Omega.{arith}
use lib.ListN.{length}
use Rattle.sorted.specs.Table.{In, All, put}
use Rattle.sorted.proofs.Never.{never}
use Rattle.sorted.proofs.Member.{in_left, in_right}
use Rattle.tables.specs.Tables.{Table, apply, windows, documents, pending_dns, pending_requests, Tables}
use Rattle.tables.specs.Labels.{window, document, host, leads, opener_label}
use Rattle.tables.specs.Rows.{same_window, origin_of, same_origin}
use Rattle.wim.specs.Nouns.{WindowNumber, Url, Host, Cookie, Method, Data, Matching, Reference, Req, Xhr, Labelled, Sending, Target, NewWindow, Existing, Holder, Itself, Within, Command, Nothing, Href, Iframe, Form, SetScript, SetScriptState, XmlHttpRequest, Back, Forward, Close, PostMessage, Output, RunScript, Document, NoWindow, NoDocument, Unsent, From}
use Rattle.wim.specs.Walks.{active_document, has_origin, is_reached, steps}
use Rattle.wim.specs.Navigable.{may_navigate}
use Rattle.wim.specs.Cookies.{cookie_merge}
use Rattle.wim.specs.Program.{Program, reached, active, navigated, of_origin, cookies_of, when, with_origin, observed}
use Rattle.wim.specs.Sending.{cancel_nav, send}
use Rattle.wim.specs.Script.{new_top_window, opener_unless, otherwise, href, iframe_in, iframe, is_form_method, is_get, form_sending, form, is_forbidden, is_get_or_head, url_origin, xhr_sending, xhr, command, run_script, store, sending_from, no_data}
use Rattle.wim.specs.LocalSteps.{new_or_own, own_target, own_holder, local_command, command_hosts, home, hosts, document_host}
use Rattle.wim.proofs.Numbers.{same-window}
use Rattle.four_rows.proofs.Adds.{on, four}
use Rattle.four_rows.proofs.Programs.{none_yet, merged_few, after_storing}
use Rattle.either_order.proofs.Sight.{itself, reached_even}
use Rattle.either_order.proofs.Part.{Part, sees, own_sees, level_even, Whole}
use Rattle.either_order.proofs.Keeps.{Keeps}
use Rattle.either_order.proofs.Shared.{Always, kept-needs, kept-stop, kept_send, kept_cancel, kept_store}
use Rattle.either_order.proofs.Seeds.{Seeds, reached-own, active-own, active-host}

-- what a step does before its command: it stores
abbrev Leads : Part → (Program → Program) → Type 0
Leads F storing = (p : Program) → Always F (after_storing none_yet) p → Always F none_yet (storing p)

-- a navigation: what was under way into the window is cancelled, and a request goes out
kept_navigate : (F : Part) (n : Table → ℕ) (v : WindowNumber) (o : Sending) → F.own (window, v.0) ≡ true → o.reference ≡ Req v → F.own (host, o.url.host.0) ≡ true
    → ((t : Table) → ((n t + on pending_requests 0 t) + on pending_dns 0 t) + on pending_dns 1 t ≤ 4) → Always F n (cancel_nav (Labelled (Req v)) (send o))
kept_navigate F n v o ov e oh room =
    kept_cancel F n (Labelled (Req v)) (send o) ov (kept_send F (λ t. (n t + on pending_requests 0 t) + on pending_dns 0 t) o (ap (λ (r : Reference). sees F (leads r)) e ∙ own_sees F (window, v.0) ov) oh room)

-- what a form and an XHR send, whatever their method
form-reference : (d : Document) (url : Url) (m : Method) (x : Data) (r : Reference) → ((form_sending d url m x r).reference ≡ r) × ((form_sending d url m x r).url ≡ url)
form-reference d url m x r = go (is_get m)
  where
    A : Sending
    A = sending_from d r m url (record { 0 = x.0 }) no_data Unsent d.policy

    B : Sending
    B = sending_from d r m url url.parameters x (From (origin_of d)) d.policy

    go : (c : Bool) → ((cond c A B).reference ≡ r) × ((cond c A B).url ≡ url)
    go true = (refl, refl)
    go false = (refl, refl)

xhr-reference : (d : Document) (url : Url) (m : Method) (x : Data) (r : Reference) → ((xhr_sending d url m x r).reference ≡ r) × ((xhr_sending d url m x r).url ≡ url)
xhr-reference d url m x r = go (is_get_or_head m)
  where
    A : Sending
    A = sending_from d r m url url.parameters no_data Unsent d.policy

    B : Sending
    B = sending_from d r m url url.parameters x (From (origin_of d)) d.policy

    go : (c : Bool) → ((cond c A B).reference ≡ r) × ((cond c A B).url ≡ url)
    go true = (refl, refl)
    go false = (refl, refl)

-- the document that is found by its origin is the active one
found-active : (d : Document) (r : Bool) (o : Option Document) (e : Document) → when r (with_origin d o) ≡ some e → o ≡ some e
found-active d false o e h = never (cc)
found-active d true none e h = never (cc)
found-active d true (some x) e h = go (has_origin (origin_of d) (some x)) h
  where
    go : (c : Bool) → when c (some x) ≡ some e → some x ≡ some e
    go true h = h
    go false h = never (cc)

module _ (F : Part) (b : Tables) (W : Whole F b) (w : WindowNumber) (d : Document) (storing : Program → Program)
    (ow : F.own (window, w.0) ≡ true) (od : F.own (document, d.number.0) ≡ true) (L : Leads F storing) where
  -- the window that a local command asks for is the script's own
  navigated-own : (x : WindowNumber) → same_window x w ≡ true → F.own (window, (observed (navigated w d x) b).0) ≡ true
  unfolding observed
  navigated-own x e = ap (λ (v : WindowNumber). F.own (window, v.0)) (itself (may_navigate (b windows) (b documents) (origin_of d) w x) w x (same-window x w e)) ∙ ow

  opener_sees : (noreferrer : Bool) → All (λ a. sees F a ≡ true) (opener_label (opener_unless noreferrer w))
  opener_sees true = tt
  opener_sees false = (own_sees F (window, w.0) ow, tt)

  kept-href : (url : Url) (noreferrer : Bool) (target : Target) → new_or_own w target ≡ true → F.own (host, url.host.0) ≡ true → Keeps F none_yet (href w d storing url noreferrer target) b
  unfolding href
  kept-href url noreferrer NewWindow e oh =
      L _ (λ c v ov. (((ov, tt, opener_sees noreferrer), tt), 1, (omega arith), kept_navigate F (λ t. after_storing none_yet t + on windows 1 t) (record { 0 = v }) _ ov refl oh (four _ refl) (apply windows (put (new_top_window (record { 0 = v }) (opener_unless noreferrer w)) ∷ []) c))) b
  kept-href url noreferrer (Existing x) e oh =
      (same-window x w e, L _ (kept_navigate F (after_storing none_yet) (observed (navigated w d x) b) _ (navigated-own x e) refl oh (four _ refl)) b)

  kept-iframe_in : (url : Url) (holder : Document) → F.own (document, holder.number.0) ≡ true → F.own (host, url.host.0) ≡ true → Keeps F none_yet (iframe_in d storing url holder) b
  kept-iframe_in url holder o oh =
      L _ (λ c v ov. (((ov, (o, tt), tt), tt), 1, (omega arith), kept_send F (λ t. after_storing none_yet t + on windows 1 t) _ (own_sees F (window, v) ov) oh (four _ refl) _)) b

  kept-iframe : (url : Url) (holder : Holder) → own_holder w holder ≡ true → F.own (host, url.host.0) ≡ true → Keeps F none_yet (iframe d storing url holder) b
  unfolding iframe observed
  kept-iframe url Itself e oh = kept-iframe_in url d od oh
  kept-iframe url (Within x) e oh = (own_sees F (window, x.0) ox, kept-iframe_in url (otherwise d (observed (of_origin d x) b)) (holds (observed (of_origin d x) b) refl) oh)
    where
      ox : F.own (window, x.0) ≡ true
      ox = ap (λ (v : WindowNumber). F.own (window, v.0)) (same-window x w e) ∙ ow

      holds : (o : Option Document) → observed (of_origin d x) b ≡ o → F.own (document, (otherwise d o).number.0) ≡ true
      holds none f = od
      holds (some y) f = active-own F b W x ox y (found-active d (is_reached (b windows) (b documents) x) (active_document (b documents) x) y f)

  kept-form : (url : Url) (method : Method) (x : Data) (target : Target) → own_target w target ≡ true → F.own (host, url.host.0) ≡ true → Keeps F none_yet (form w d storing url method x target) b
  unfolding form
  kept-form url method x NewWindow e oh = never (cc)
  kept-form url method x (Existing y) e oh =
      kept-stop F none_yet b (not (is_form_method method)) _
      (same-window y w e, L _ (kept_navigate F (after_storing none_yet) v (form_sending d url method x (Req v)) (navigated-own y e) z.0 (ap (λ (u : Url). F.own (host, u.host.0)) z.1 ∙ oh) (four _ refl)) b)
    where
      v : WindowNumber
      v = observed (navigated w d y) b

      z : ((form_sending d url method x (Req v)).reference ≡ Req v) × ((form_sending d url method x (Req v)).url ≡ url)
      z = form-reference d url method x (Req v)

  kept-xhr : (url : Url) (method : Method) (x : Data) (matching : Matching) → F.own (host, url.host.0) ≡ true → Keeps F none_yet (xhr d storing url method x (Xhr d.number matching)) b
  unfolding xhr
  kept-xhr url method x matching oh =
      kept-stop F none_yet b (is_forbidden method) _ (kept-stop F none_yet b (not (same_origin (url_origin url) (origin_of d))) _
      (L _ (kept_send F (after_storing none_yet) (xhr_sending d url method x r) (ap (λ (r : Reference). sees F (leads r)) z.0 ∙ own_sees F (document, d.number.0) od) (ap (λ (u : Url). F.own (host, u.host.0)) z.1 ∙ oh) (four _ refl)) b))
    where
      r : Reference
      r = Xhr d.number matching

      z : ((xhr_sending d url method x r).reference ≡ r) × ((xhr_sending d url method x r).url ≡ url)
      z = xhr-reference d url method x r

  kept-command : (c : Command) → local_command w c ≡ true → ((h : Host) → In h (command_hosts c) → F.own (host, h.0) ≡ true) → Keeps F none_yet (command w d storing c) b
  unfolding command
  kept-command Nothing e o = L _ (λ c. four _ refl) b
  kept-command (Href url target noreferrer) e o = kept-href url noreferrer target e (o url.host (inl refl))
  kept-command (Iframe url holder) e o = kept-iframe url holder e (o url.host (inl refl))
  kept-command (Form url method x target) e o = kept-form url method x target e (o url.host (inl refl))
  kept-command (SetScript x script) e o = never (cc)
  kept-command (SetScriptState x state) e o = never (cc)
  kept-command (XmlHttpRequest url method x matching) e o = kept-xhr url method x matching (o url.host (inl refl))
  kept-command (Back x) e o = never (cc)
  kept-command (Forward x) e o = never (cc)
  kept-command (Close x) e o = never (cc)
  kept-command (PostMessage x message to) e o = never (cc)

-- ALGORITHM 7.
pub kept-script : (F : Part) (b : Tables) → Whole F b → (w : WindowNumber) (out : Output) (new : List Cookie) → length new ≤ 4 → local_command w out.command ≡ true
    → Seeds F (RunScript w out) b → Keeps F none_yet (run_script w out new) b
unfolding run_script home hosts
kept-script F b W w out new few lc S = (
  S.home_sees (window, w.0) refl,
  kept-needs F none_yet b NoWindow (observed (reached w) b) _ (λ top e.
      let ow = reached-own F b W (RunScript w out) S w top refl e in (
        S.home_sees (window, w.0) refl,
        kept-needs F none_yet b NoDocument (observed (active w) b) _ (λ d s.
            let oh = S.hosts-own d.location.host (in_left (document_host (observed (active w) b)) (command_hosts out.command) d.location.host (active-host d (observed (active w) b) s)) in
            let od = active-own F b W w ow d s in (
              own_sees F (host, d.location.host.0) oh,
              kept-command F b W w d (store d top (cookie_merge (observed (cookies_of d.location.host) b) new d.location.protocol) out) ow od
                  (λ p k. kept_store F none_yet d top (cookie_merge (observed (cookies_of d.location.host) b) new d.location.protocol) out p oh od (top_sees top e ow) (merged_few (observed (cookies_of d.location.host) b) new d.location.protocol few) k)
                  out.command lc (λ h i. S.hosts-own h (in_right (document_host (observed (active w) b)) (command_hosts out.command) h i)),
            )),
      )),
)
  where
    top_sees : (top : WindowNumber) → observed (reached w) b ≡ some top → F.own (window, w.0) ≡ true → sees F (window, top.0) ≡ true
    top_sees top e ow = own_sees F (window, top.0) (sym (top_even top e) ∙ ow)
      where
        top_even : (top : WindowNumber) → observed (reached w) b ≡ some top → F.own (window, w.0) ≡ F.own (window, top.0)
        top_even top e = reached_even F.own b (level_even F.own b W.owns) steps w top (unfold observed in e)
