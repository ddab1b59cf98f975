-- Every command of a script is ranged, and RUNSCRIPT.
use mathlib.Core.Bool.{Bool, true, false, cond, not}
use mathlib.Core.List.{List, [], ◌∷◌}
use Rattle.std.specs.Prelude.{Option, None as none, Some as some}
use Prim.Native.Nat.{ℕ}
use native.Mathlib.Omega.{arith}
use Rattle.sorted.specs.Table.{keep, All}
use Rattle.sorted.proofs.Member.{all_in, in_all, in_keep}
use Rattle.tables.specs.Tables.{windows, documents, inputs}
use Rattle.tables.specs.Labels.{window}
use Rattle.tables.specs.Rows.{origin_of, same_origin, with_state, with_script}
use Rattle.shapes.specs.Ranges.{ValueIn, UrlIn, CookieIn, TargetIn, CommandIn, OutputIn, OriginHeaderIn}
use Rattle.wim.specs.Nouns.{WindowNumber, Url, Parameters, Protocol, Cookie, Method, Data, OriginHeader, Unsent, From, Policy, Reference, Req, Xhr, Labelled, Target, NewWindow, Existing, Holder, Itself, Within, Addressee, Command, Nothing, Href, Iframe, Form, SetScript, SetScriptState, XmlHttpRequest, Back, Forward, Close, PostMessage, Output, News, Posted, Document, HostCookie, NoWindow, NoDocument}
use Rattle.wim.specs.Cookies.{allowed, named, latest, guarded, cookie_merge}
use Rattle.wim.specs.Program.{Program, reached, active, history, navigated, of_origin, arrived, under, cookies_of}
use Rattle.wim.specs.Script.{no_data, opener_unless, otherwise, get_window, get_navigable_window, store, sending_from, href_into, href, iframe_in, iframe, is_form_method, is_get, form_sending, form_into, form, setting, is_forbidden, is_get_or_head, url_origin, xhr_sending, xhr, with_window, close, is_for, file, deliver, post_message, command, run_script}
use Rattle.wim.specs.Ranges.{OpenerIn, DocumentIn, NewsIn, ReferenceIn}
use Rattle.shapes.proofs.Ranges.{WindowNumberIn, none_between}
use Rattle.ranges.proofs.Ranged.{Held, PutsIn, Ranged, ranged_done, ranged_ask, ranged_bring, ranged_edit, ranged_revise, ranged_needs, ranged_stop}
use Rattle.ranges.proofs.Shared.{SendingIn, ranged_send, ranged_cancel, ranged_remove, Stays, stays-changing, stays-state, stays-script, ranged_store, Leads, ranged_back, ranged_forward}

-- COOKIES that a script may set are among those that it brings.
pub kept_in : {A : Type 0} (P : A → Type 0) (p : A → Bool) (l : List A) → All P l → All P (keep p l)
kept_in P p l h = in_all P (keep p l) (λ x i. all_in P l h x (in_keep p l x i).0)

latest_in : (cs : List Cookie) → All CookieIn cs → All CookieIn (latest cs)
latest_in [] h = tt
latest_in (c ∷ cs) h = go (named c.name cs) (latest_in cs h.1)
  where
    go : (x : Bool) → All CookieIn (latest cs) → All CookieIn (cond x (latest cs) (c ∷ latest cs))
    go true l = l
    go false l = (h.0, l)

merged_in : (old : List HostCookie) (new : List Cookie) (p : Protocol) → All CookieIn new → All CookieIn (cookie_merge old new p)
unfolding cookie_merge
merged_in old new p h = kept_in CookieIn (λ c. not (guarded old c)) (latest (keep (allowed p) new)) (latest_in (keep (allowed p) new) (kept_in CookieIn (allowed p) new h))

-- A new input, behind those that came before.
pub filed_in : (d : Document) → DocumentIn d → (earlier : ℕ) (news : News) → NewsIn news → PutsIn inputs (file d.number earlier news)
filed_in d i earlier news n = (record { document = i.number; arrival = omega arith; news = n }, tt)

opener_in : (noreferrer : Bool) (w : WindowNumber) → WindowNumberIn w → OpenerIn (opener_unless noreferrer w)
opener_in true w i = tt
opener_in false w i = i

otherwise_in : (d : Document) → DocumentIn d → (o : Option Document) → Held DocumentIn o → DocumentIn (otherwise d o)
otherwise_in d i none h = i
otherwise_in d i (some e) h = h

-- THE COMMANDS of a script of document d in window w.
module _ (w : WindowNumber) (wi : WindowNumberIn w) (d : Document) (di : DocumentIn d) (storing : Program → Program) (L : Leads storing) where
  from_in : (reference : Reference) (method : Method) (url : Url) (parameters : Parameters) (body : Data) (origin : OriginHeader) (policy : Policy)
      → ReferenceIn reference → UrlIn url → ValueIn parameters.0 → ValueIn body.0 → OriginHeaderIn origin → SendingIn (sending_from d reference method url parameters body origin policy)
  from_in reference method url parameters body origin policy r u p b o = record { reference = r; url = u; parameters = p; body = b; origin = o; referrer = di.location }

  ranged_into : (x : WindowNumber) → WindowNumberIn x → (k : WindowNumber → Program) → ((v : WindowNumber) → WindowNumberIn v → Ranged (k v)) → Ranged (get_navigable_window w d x k)
  ranged_into x i k g = ranged_ask (navigated w d x) k (λ v h. g v (h wi i))

  ranged_within : (x : WindowNumber) → (k : Document → Program) → ((e : Document) → DocumentIn e → Ranged (k e)) → Ranged (get_window d x k)
  ranged_within x k g = ranged_ask (of_origin d x) _ (λ found h. g (otherwise d found) (otherwise_in d di found h))

  -- HREF
  ranged-href_into : (url : Url) (noreferrer : Bool) → UrlIn url → (v : WindowNumber) → WindowNumberIn v → Ranged (href_into d url noreferrer v)
  ranged-href_into url noreferrer u v i = ranged_cancel (Labelled (Req v)) _ (ranged_send _ (from_in _ _ url _ _ _ _ i u u.parameters (none_between _) tt))

  ranged_href : (url : Url) (noreferrer : Bool) (target : Target) → UrlIn url → TargetIn target → Ranged (href w d storing url noreferrer target)
  unfolding href
  ranged_href url noreferrer NewWindow u t =
      L _ (ranged_bring window _ (λ v i. ranged_edit windows _ _ (record { number = i; parent = tt; opener = opener_in noreferrer w wi }, tt) (ranged-href_into url noreferrer u _ i)))
  ranged_href url noreferrer (Existing x) u t = ranged_into x t _ (λ v i. L _ (ranged-href_into url noreferrer u v i))

  -- IFRAME
  ranged_iframe_in : (url : Url) → UrlIn url → (holder : Document) → DocumentIn holder → Ranged (iframe_in d storing url holder)
  ranged_iframe_in url u holder h =
      L _ (ranged_bring window _ (λ v i. ranged_edit windows _ _ (record { number = i; parent = h.number; opener = tt }, tt) (ranged_send _ (from_in _ _ url _ _ _ _ i u u.parameters (none_between _) tt))))

  ranged_iframe : (url : Url) (holder : Holder) → UrlIn url → Ranged (iframe d storing url holder)
  unfolding iframe
  ranged_iframe url Itself u = ranged_iframe_in url u d di
  ranged_iframe url (Within x) u = ranged_within x (iframe_in d storing url) (ranged_iframe_in url u)

  -- FORM
  form_in : (url : Url) (method : Method) (data' : Data) (reference : Reference) → UrlIn url → ValueIn data'.0 → ReferenceIn reference → SendingIn (form_sending d url method data' reference)
  form_in url method data' reference u v r = go (is_get method)
    where
      go : (c : Bool) → SendingIn (cond c (sending_from d reference method url (record { 0 = data'.0 }) no_data Unsent d.policy) (sending_from d reference method url url.parameters data' (From (origin_of d)) d.policy))
      go true = from_in _ _ url _ _ _ _ r u v (none_between _) tt
      go false = from_in _ _ url _ _ _ _ r u u.parameters v di.location.host

  ranged-form_into : (url : Url) (method : Method) (data' : Data) → UrlIn url → ValueIn data'.0 → (v : WindowNumber) → WindowNumberIn v → Ranged (form_into d url method data' v)
  ranged-form_into url method data' u b v i = ranged_cancel (Labelled (Req v)) _ (ranged_send _ (form_in url method data' (Req v) u b i))

  ranged_form : (url : Url) (method : Method) (data' : Data) (target : Target) → UrlIn url → ValueIn data'.0 → TargetIn target → Ranged (form w d storing url method data' target)
  unfolding form
  ranged_form url method data' NewWindow u b t =
      ranged_stop (not (is_form_method method)) _
      (L _ (ranged_bring window _ (λ v i. ranged_edit windows _ _ (record { number = i; parent = tt; opener = wi }, tt) (ranged-form_into url method data' u b _ i))))
  ranged_form url method data' (Existing x) u b t = ranged_stop (not (is_form_method method)) _ (ranged_into x t _ (λ v i. L _ (ranged-form_into url method data' u b v i)))

  -- SETSCRIPT, SETSCRIPTSTATE
  ranged_setting : (x : WindowNumber) (f : Document → Document) → Stays f → Ranged (setting d storing x f)
  unfolding setting
  ranged_setting x f s = ranged_within x _ (λ e i. L _ (ranged_revise documents _ _ (stays-changing e.number f s) (ranged_done none tt)))

  -- XMLHTTPREQUEST
  xhr_in : (url : Url) (method : Method) (data' : Data) (reference : Reference) → UrlIn url → ValueIn data'.0 → ReferenceIn reference → SendingIn (xhr_sending d url method data' reference)
  xhr_in url method data' reference u v r = go (is_get_or_head method)
    where
      go : (c : Bool) → SendingIn (cond c (sending_from d reference method url url.parameters no_data Unsent d.policy) (sending_from d reference method url url.parameters data' (From (origin_of d)) d.policy))
      go true = from_in _ _ url _ _ _ _ r u u.parameters (none_between _) tt
      go false = from_in _ _ url _ _ _ _ r u u.parameters v di.location.host

  ranged_xhr : (url : Url) (method : Method) (data' : Data) (reference : Reference) → UrlIn url → ValueIn data'.0 → ReferenceIn reference → Ranged (xhr d storing url method data' reference)
  unfolding xhr
  ranged_xhr url method data' reference u v r =
      ranged_stop (is_forbidden method) _ (ranged_stop (not (same_origin (url_origin url) (origin_of d))) _ (L _ (ranged_send _ (xhr_in url method data' reference u v r))))

  -- CLOSE
  ranged_close : (x : WindowNumber) → WindowNumberIn x → Ranged (close w d storing x)
  unfolding close
  ranged_close x i = ranged_into x i _ (λ v j. ranged_ask (history v) _ (λ ds _. ranged_ask (under _) _ (λ gone _. L _ (ranged_remove (with_window v gone) _ (ranged_done none tt)))))

  -- POSTMESSAGE
  ranged_deliver : (message : ℕ) (to : Addressee) → ValueIn message → (o : Option Document) → Held DocumentIn o → Ranged (deliver w d storing message to o)
  unfolding deliver
  ranged_deliver message to m none h = L _ (ranged_done none tt)
  ranged_deliver message to m (some e) h = ranged_ask (arrived e.number) _ (λ earlier _. L _ (ranged_edit inputs _ _ (go earlier (is_for to e)) (ranged_done none tt)))
    where
      go : (earlier : ℕ) (c : Bool) → PutsIn inputs (cond c (file e.number earlier (Posted w (origin_of d) message)) [])
      go earlier true = filed_in e h earlier (Posted w (origin_of d) message) (wi, di.location.host, m)
      go earlier false = tt

  ranged_post : (x : WindowNumber) (message : ℕ) (to : Addressee) → WindowNumberIn x → ValueIn message → Ranged (post_message w d storing x message to)
  unfolding post_message
  ranged_post x message to i m =
      ranged_ask (reached x) _ (λ found h. ranged_needs WindowNumberIn NoWindow found _ (h i) (λ top _. ranged_ask (active x) _ (λ target t. ranged_deliver message to m target t)))

  ranged_command : (k : Command) → CommandIn k → Ranged (command w d storing k)
  unfolding command
  ranged_command Nothing i = L _ (ranged_done none tt)
  ranged_command (Href url target noreferrer) i = ranged_href url noreferrer target i.0 i.1
  ranged_command (Iframe url holder) i = ranged_iframe url holder i.0
  ranged_command (Form url method data' target) i = ranged_form url method data' target i.0 i.1 i.2
  ranged_command (SetScript x script) i = ranged_setting x (with_script script) (stays-script script i.1)
  ranged_command (SetScriptState x state) i = ranged_setting x (with_state state) (stays-state state i.1)
  ranged_command (XmlHttpRequest url method data' matching) i = ranged_xhr url method data' (Xhr d.number matching) i.0 i.1 (di.number, i.2)
  ranged_command (Back x) i = ranged_into x i _ (λ v j. ranged_back v storing L)
  ranged_command (Forward x) i = ranged_into x i _ (λ v j. ranged_forward v storing L)
  ranged_command (Close x) i = ranged_close x i
  ranged_command (PostMessage x message to) i = ranged_post x message to i.0 i.1

-- RUNSCRIPT
pub ranged_script : (w : WindowNumber) → WindowNumberIn w → (out : Output) → OutputIn out → (new : List Cookie) → All CookieIn new → Ranged (run_script w out new)
unfolding run_script
ranged_script w wi out oi new c =
    ranged_ask (reached w) _ (λ found h. ranged_needs WindowNumberIn NoWindow found _ (h wi) (λ top t. ranged_ask (active w) _ (λ current a. ranged_needs DocumentIn NoDocument current _ a (λ d di.
    ranged_ask (cookies_of d.location.host) _ (λ old _. ranged_command w wi d di (store d top (cookie_merge old new d.location.protocol) out)
    (ranged_store d top (cookie_merge old new d.location.protocol) out di t (merged_in old new d.location.protocol c) oi) out.command oi.command)))))
