-- A script's step is orderly, whatever its command.
use mathlib.Core.Path.{refl}
use mathlib.Core.Bool.{Bool, not}
use mathlib.Core.List.{List, [], ◌∷◌, map}
use Rattle.std.specs.Prelude.{Option, None as none, Some as some}
use Prim.Native.Nat.{ℕ}
use Rattle.sorted.specs.Table.{put}
use Rattle.tables.specs.Tables.{windows, documents, inputs, Tables}
use Rattle.tables.specs.Labels.{window}
use Rattle.tables.specs.Rows.{origin_of, same_origin, with_state, with_script, changing}
use Rattle.wim.specs.Nouns.{WindowNumber, Url, Cookie, Method, Data, Reference, Req, Xhr, Labelled, Sending, Target, NewWindow, Existing, Holder, Itself, Within, Addressee, Command, Nothing, Href, Iframe, Form, SetScript, SetScriptState, XmlHttpRequest, Back, Forward, Close, PostMessage, Output, Window, Document, NoWindow, NoDocument}
use Rattle.wim.specs.Cookies.{cookie_merge}
use Rattle.wim.specs.Program.{Program, ask, edit, revise, bring, done, reached, active, history, arrived, under, cookies_of}
use Rattle.wim.specs.Sending.{cancel_nav, send}
use Rattle.wim.specs.History.{nav_back, nav_forward}
use Rattle.wim.specs.Script.{get_navigable_window, otherwise, get_window, href_into, href, iframe_in, iframe, is_form_method, form_into, form, setting, is_forbidden, url_origin, xhr, remove, with_window, close, deliver, post_message, command, run_script}
use Rattle.invariant.proofs.Numbered.Kept.{Stays}
use Rattle.invariant.proofs.Numbered.Orderly.{Orderly, orderly_done, orderly_ask, orderly_bring, orderly_edit, orderly_revise, orderly_needs, orderly_stop}
use Rattle.invariant.proofs.Numbered.Shared.{stays-changing, Leads, orderly_send, orderly_cancel, orderly_remove, orderly_store, orderly_back, orderly_forward}

module _ {a : Tables} where
  orderly_into : (w : WindowNumber) (d : Document) (v : WindowNumber) (k : WindowNumber → Program) → ((x : WindowNumber) → Orderly a (k x)) → Orderly a (get_navigable_window w d v k)
  orderly_into w d v k g = orderly_ask _ _ g

  orderly_within : (d : Document) (v : WindowNumber) (k : Document → Program) → ((e : Document) → Orderly a (k e)) → Orderly a (get_window d v k)
  orderly_within d v k g = orderly_ask _ _ (λ found. g (otherwise d found))

  -- a navigation: what was under way into the window is cancelled, and a request goes out
  orderly_navigate : (v : WindowNumber) (o : Sending) → Orderly a (cancel_nav (Labelled (Req v)) (send o))
  orderly_navigate v o = orderly_cancel (Labelled (Req v)) (send o) (orderly_send o)

  -- a new window, whose number is in the order of its table alone
  pub orderly_window : (r : ℕ → Window) (k : ℕ → Program) → ((v : ℕ) → Orderly a (k v)) → Orderly a (bring window (λ v. edit windows (put (r v) ∷ []) (k v)))
  orderly_window r k g = orderly_bring window _ (λ v h. orderly_edit windows (put (r v) ∷ []) (k v) (λ s i. tt) (g v))

  module _ (w : WindowNumber) (d : Document) (storing : Program → Program) (L : Leads a storing) where
    orderly_href : (url : Url) (noreferrer : Bool) (target : Target) → Orderly a (href w d storing url noreferrer target)
    unfolding href
    orderly_href url noreferrer NewWindow = L _ (orderly_window _ (λ v. href_into d url noreferrer (record { 0 = v })) (λ v. orderly_navigate _ _))
    orderly_href url noreferrer (Existing x) = orderly_into w d x (λ v. storing (href_into d url noreferrer v)) (λ v. L _ (orderly_navigate _ _))

    orderly_iframe_in : (url : Url) (holder : Document) → Orderly a (iframe_in d storing url holder)
    orderly_iframe_in url holder = L _ (orderly_window _ _ (λ v. orderly_send _))

    orderly_iframe : (url : Url) (holder : Holder) → Orderly a (iframe d storing url holder)
    unfolding iframe
    orderly_iframe url Itself = orderly_iframe_in url d
    orderly_iframe url (Within x) = orderly_within d x (iframe_in d storing url) (orderly_iframe_in url)

    orderly_form : (url : Url) (method : Method) (data' : Data) (target : Target) → Orderly a (form w d storing url method data' target)
    unfolding form
    orderly_form url method data' NewWindow = orderly_stop (not (is_form_method method)) _ (L _ (orderly_window _ (λ v. form_into d url method data' (record { 0 = v })) (λ v. orderly_navigate _ _)))
    orderly_form url method data' (Existing x) = orderly_stop (not (is_form_method method)) _ (orderly_into w d x (λ v. storing (form_into d url method data' v)) (λ v. L _ (orderly_navigate _ _)))

    orderly_setting : (x : WindowNumber) (f : Document → Document) → Stays f → Orderly a (setting d storing x f)
    unfolding setting
    orderly_setting x f h = orderly_within d x (λ e. storing (revise documents (changing e.number f) (done none))) (λ e. L _ (orderly_revise _ _ (stays-changing e.number f h) (orderly_done none)))

    orderly_xhr : (url : Url) (method : Method) (data' : Data) (reference : Reference) → Orderly a (xhr d storing url method data' reference)
    unfolding xhr
    orderly_xhr url method data' reference = orderly_stop (is_forbidden method) _ (orderly_stop (not (same_origin (url_origin url) (origin_of d))) _ (L _ (orderly_send _)))

    orderly_close : (x : WindowNumber) → Orderly a (close w d storing x)
    unfolding close
    orderly_close x = orderly_into w d x (λ v. ask (history v) (λ ds. ask (under (map (λ (e : Document). e.number) ds)) (λ gone. storing (remove (with_window v gone) (done none)))))
        (λ v. orderly_ask (history v) _ (λ ds. orderly_ask (under (map (λ (e : Document). e.number) ds)) _ (λ gone. L _ (orderly_remove (with_window v gone) _ (orderly_done none)))))

    orderly_deliver : (message : ℕ) (to : Addressee) (o : Option Document) → Orderly a (deliver w d storing message to o)
    unfolding deliver
    orderly_deliver message to none = L _ (orderly_done none)
    orderly_deliver message to (some e) = orderly_ask (arrived e.number) _ (λ earlier. L _ (orderly_edit inputs _ _ (λ r i. tt) (orderly_done none)))

    orderly_post : (x : WindowNumber) (message : ℕ) (to : Addressee) → Orderly a (post_message w d storing x message to)
    unfolding post_message
    orderly_post x message to = orderly_ask (reached x) _ (λ found. orderly_needs NoWindow found _ (λ top. orderly_ask (active x) _ (orderly_deliver message to)))

    orderly_command : (c : Command) → Orderly a (command w d storing c)
    unfolding command
    orderly_command Nothing = L _ (orderly_done none)
    orderly_command (Href url target noreferrer) = orderly_href url noreferrer target
    orderly_command (Iframe url holder) = orderly_iframe url holder
    orderly_command (Form url method data' target) = orderly_form url method data' target
    orderly_command (SetScript x script) = orderly_setting x (with_script script) (λ e. (refl, refl))
    orderly_command (SetScriptState x state) = orderly_setting x (with_state state) (λ e. (refl, refl))
    orderly_command (XmlHttpRequest url method data' matching) = orderly_xhr url method data' (Xhr d.number matching)
    orderly_command (Back x) = orderly_into w d x (λ v. nav_back v storing) (λ v. orderly_back v storing L)
    orderly_command (Forward x) = orderly_into w d x (λ v. nav_forward v storing) (λ v. orderly_forward v storing L)
    orderly_command (Close x) = orderly_close x
    orderly_command (PostMessage x message to) = orderly_post x message to

  pub orderly_script : (w : WindowNumber) (out : Output) (new : List Cookie) → Orderly a (run_script w out new)
  unfolding run_script
  orderly_script w out new =
      orderly_ask (reached w) _ (λ found. orderly_needs NoWindow found _ (λ top. orderly_ask (active w) _ (λ current. orderly_needs NoDocument current _ (λ d.
      orderly_ask (cookies_of d.location.host) _ (λ old. orderly_command w d _ (orderly_store d top (cookie_merge old new d.location.protocol) out) out.command)))))
