-- 000 Algorithms 1, 2 and 7: GETNAVIGABLEWINDOW, GETWINDOW and RUNSCRIPT with each of its commands.
-- Where a line of 000 stops without output, nothing has changed (2.6.3). So those lines stand first in each command, before what the step stores (`storing`).
use Rattle.std.specs.Prelude.{Bool, true, false, cond, not, ◌||◌, List, [], ◌∷◌, map, ℕ, suc, eqb}
use Rattle.std.specs.Prelude.{Option, None as none, Some as some}
use Rattle.sorted.specs.Table.{put, drop, sift}
use Rattle.tables.specs.Tables.{windows, documents, cookies, local_storage, session_storage, inputs, Edits, is_secure}
use Rattle.tables.specs.Labels.{window}
use Rattle.tables.specs.Rows.{one_of, window_one_of, origin_of, same_origin, with_state, with_script, changing}
use Rattle.shapes.specs.Words.{row_of}
use Rattle.wim.specs.Nouns.{WindowNumber, DocumentNumber, Url, Origin, Parameters, Cookie, Method, Get, Head, Post, Connect, Trace, Data, OriginHeader, Unsent, From, Known, Policy, NoReferrer, Reference, Req, Xhr, Labelled, Sending, Target, NewWindow, Existing, Holder, Itself, Within, Addressee, Anyone, Only, Command, Nothing, Href, Iframe, Form, SetScript, SetScriptState, XmlHttpRequest, Back, Forward, Close, PostMessage, Stored, Output, Top, Under, Opener, Nobody, OpenedBy, Window, Document, Input, News, Posted, NoWindow, NoDocument}
use Rattle.wim.specs.Walks.{Removal}
use Rattle.wim.specs.Cookies.{cookie_merge, store_all}
use Rattle.wim.specs.Program.{Program, ask, edit, revise, bring, done, reached, active, history, navigated, of_origin, arrived, under, cookies_of, needs, stop_if, ◌>>=◌, ◌>>◌}
use Rattle.wim.specs.Sending.{cancel_nav, send}
use Rattle.wim.specs.History.{nav_back, nav_forward}

abbrev pub no_data : Data
no_data = record { 0 = 0 }

-- methods are told apart by their place among the eight
abbrev pub one_of_methods : Method → List Method → Bool
one_of_methods m [] = false
one_of_methods m (x ∷ xs) = eqb (row_of m) (row_of x) || one_of_methods m xs

-- ALGORITHM 1, GETNAVIGABLEWINDOW, lines 9 and 10: the window with the number if it is navigable, otherwise the script's own
abbrev pub get_navigable_window : WindowNumber → Document → WindowNumber → (WindowNumber → Program) → Program
get_navigable_window w d v = ask (navigated w d v)

-- lines 2 to 8: a new window, with the script's own for its opener unless noreferrer
abbrev pub new_top_window : WindowNumber → Opener → Window
new_top_window v opener = record { number = v; parent = Top; opener = opener }

abbrev pub opener_unless : Bool → WindowNumber → Opener
opener_unless true w = Nobody
opener_unless false w = OpenedBy w

-- ALGORITHM 2, GETWINDOW: the active document of the window with the number if it is reached and of the script's origin, otherwise the script's own
abbrev pub otherwise : Document → Option Document → Document
otherwise d none = d
otherwise d (some e) = e

abbrev pub get_window : Document → WindowNumber → (Document → Program) → Program
get_window d v k = do
  found ← ask (of_origin d v)
  k (otherwise d found)

-- ALGORITHM 7, lines 11 to 14: what every script step stores. A storage value 0 has no row.
abbrev pub store_local : Origin → Stored → Edits local_storage
store_local o v = cond (eqb v.0 0) (drop (o.host.0, is_secure o.protocol) ∷ []) (put (record { origin = o; value = v }) ∷ [])

abbrev pub store_session : Origin → WindowNumber → Stored → Edits session_storage
store_session o top v = cond (eqb v.0 0) (drop (o.host.0, (is_secure o.protocol, top.0)) ∷ []) (put (record { origin = o; top = top; value = v }) ∷ [])

abbrev pub store : Document → WindowNumber → List Cookie → Output → Program → Program
store d top merged out p = do
  edit cookies (store_all d.location.host merged)  -- 11
  edit local_storage (store_local (origin_of d) out.local)  -- 12
  edit session_storage (store_session (origin_of d) top out.session)  -- 13
  revise documents (changing d.number (with_state out.state))  -- 14
  p

-- what a script of document d sends, with d's location for the referrer (15) and d's policy (16)
abbrev pub sending_from : Document → Reference → Method → Url → Parameters → Data → OriginHeader → Policy → Sending
sending_from d reference method url parameters body origin policy = record {
  reference = reference;
  method = method;
  url = url;
  parameters = parameters;
  body = body;
  origin = origin;
  referrer = Known d.location;
  policy = policy;
}

-- 19 to 26: HREF
abbrev pub href_policy : Bool → Document → Policy
href_policy true d = NoReferrer
href_policy false d = d.policy

abbrev pub href_into : Document → Url → Bool → WindowNumber → Program
href_into d url noreferrer v = do
  cancel_nav (Labelled (Req v))  -- 25
  send (sending_from d (Req v) Get url url.parameters no_data Unsent (href_policy noreferrer d))  -- 21 to 24, 26

unfoldable pub href : WindowNumber → Document → (Program → Program) → Url → Bool → Target → Program
href w d storing url noreferrer NewWindow = do
  storing
  v ← bring window
  edit windows (put (new_top_window (record { 0 = v }) (opener_unless noreferrer w)) ∷ [])  -- 20, A1:2 to 8
  href_into d url noreferrer (record { 0 = v })
href w d storing url noreferrer (Existing x) = do
  v ← get_navigable_window w d x  -- 20
  storing
  href_into d url noreferrer v

-- 27 to 35: IFRAME
abbrev pub iframe_in : Document → (Program → Program) → Url → Document → Program
iframe_in d storing url holder = do
  storing
  v ← bring window
  edit windows (put (record { number = record { 0 = v }; parent = Under holder.number; opener = Nobody }) ∷ [])  -- 33, 34
  send (sending_from d (Req (record { 0 = v })) Get url url.parameters no_data Unsent d.policy)  -- 32, 35

unfoldable pub iframe : Document → (Program → Program) → Url → Holder → Program
iframe d storing url Itself = iframe_in d storing url d  -- 28, 29
iframe d storing url (Within x) = do
  holder ← get_window d x  -- 31
  iframe_in d storing url holder

-- 36 to 51: FORM
abbrev pub is_form_method : Method → Bool
is_form_method m = one_of_methods m (Get ∷ Post ∷ [])

abbrev pub is_get : Method → Bool
is_get m = one_of_methods m (Get ∷ [])

-- 41 to 49: the data of a GET goes into the request's parameters, of a POST into its body
abbrev pub form_sending : Document → Url → Method → Data → Reference → Sending
form_sending d url method data' reference =
    cond (is_get method)
    (sending_from d reference method url (record { 0 = data'.0 }) no_data Unsent d.policy)
    (sending_from d reference method url url.parameters data' (From (origin_of d)) d.policy)

abbrev pub form_into : Document → Url → Method → Data → WindowNumber → Program
form_into d url method data' v = do
  cancel_nav (Labelled (Req v))  -- 50
  send (form_sending d url method data' (Req v))  -- 40 to 49, 51

unfoldable pub form : WindowNumber → Document → (Program → Program) → Url → Method → Data → Target → Program
form w d storing url method data' NewWindow = do
  stop_if (not (is_form_method method))  -- 37, 38
  storing
  v ← bring window
  edit windows (put (new_top_window (record { 0 = v }) (OpenedBy w)) ∷ [])  -- 39, A1:2 to 8
  form_into d url method data' (record { 0 = v })
form w d storing url method data' (Existing x) = do
  stop_if (not (is_form_method method))  -- 37, 38
  v ← get_navigable_window w d x  -- 39
  storing
  form_into d url method data' v

-- 52 to 59: SETSCRIPT, SETSCRIPTSTATE
unfoldable pub setting : Document → (Program → Program) → WindowNumber → (Document → Document) → Program
setting d storing x f = do
  e ← get_window d x  -- 53, 57
  storing
  revise documents (changing e.number f)  -- 54, 58
  done none

-- 60 to 72: XMLHTTPREQUEST
abbrev pub is_forbidden : Method → Bool
is_forbidden m = one_of_methods m (Connect ∷ Trace ∷ [])

abbrev pub is_get_or_head : Method → Bool
is_get_or_head m = one_of_methods m (Get ∷ Head ∷ [])

abbrev pub url_origin : Url → Origin
url_origin u = record { host = u.host; protocol = u.protocol }

abbrev pub xhr_sending : Document → Url → Method → Data → Reference → Sending
xhr_sending d url method data' reference =
    cond (is_get_or_head method)
    (sending_from d reference method url url.parameters no_data Unsent d.policy)  -- 66, 67
    (sending_from d reference method url url.parameters data' (From (origin_of d)) d.policy)  -- 69

unfoldable pub xhr : Document → (Program → Program) → Url → Method → Data → Reference → Program
xhr d storing url method data' reference = do
  stop_if (is_forbidden method)  -- 61, 62
  stop_if (not (same_origin (url_origin url) (origin_of d)))  -- 63, 64
  storing
  send (xhr_sending d url method data' reference)  -- 65 to 72

-- what goes is taken out of the three tables in which it stands
abbrev pub remove : Removal → Program → Program
remove gone p = do
  edit windows (sift (λ (r : Window). not (window_one_of r.number gone.windows)) ∷ [])
  edit documents (sift (λ (d : Document). not (one_of d.number gone.documents)) ∷ [])
  edit inputs (sift (λ (i : Input). not (one_of i.document gone.documents)) ∷ [])
  p

-- the window itself goes too
abbrev pub with_window : WindowNumber → Removal → Removal
with_window v gone = record { windows = v ∷ gone.windows; documents = gone.documents }

-- 79 to 82: CLOSE
unfoldable pub close : WindowNumber → Document → (Program → Program) → WindowNumber → Program
close w d storing x = do
  v ← get_navigable_window w d x  -- 80
  ds ← ask (history v)
  gone ← ask (under (map (λ (e : Document). e.number) ds))
  storing
  remove (with_window v gone)  -- 81
  done none  -- 82

-- 83 to 87: POSTMESSAGE
abbrev pub is_for : Addressee → Document → Bool
is_for Anyone d = true
is_for (Only o) d = same_origin (origin_of d) o

abbrev pub file : DocumentNumber → ℕ → News → Edits inputs
file n earlier news = put (record { document = n; arrival = suc earlier; news = news }) ∷ []

unfoldable pub deliver : WindowNumber → Document → (Program → Program) → ℕ → Addressee → Option Document → Program
deliver w d storing message to none = do
  storing
  done none
deliver w d storing message to (some e) = do
  earlier ← ask (arrived e.number)
  storing
  edit inputs (cond (is_for to e) (file e.number earlier (Posted w (origin_of d) message)) [])  -- 85, 86
  done none

unfoldable pub post_message : WindowNumber → Document → (Program → Program) → WindowNumber → ℕ → Addressee → Program
post_message w d storing x message to = do
  found ← ask (reached x)  -- 84
  top ← needs NoWindow found
  target ← ask (active x)
  deliver w d storing message to target

-- 18: switch command do
unfoldable pub command : WindowNumber → Document → (Program → Program) → Command → Program
command w d storing Nothing = do
  storing
  done none
command w d storing (Href url target noreferrer) = href w d storing url noreferrer target
command w d storing (Iframe url holder) = iframe d storing url holder
command w d storing (Form url method data' target) = form w d storing url method data' target
command w d storing (SetScript x script) = setting d storing x (with_script script)
command w d storing (SetScriptState x state) = setting d storing x (with_state state)
command w d storing (XmlHttpRequest url method data' matching) = xhr d storing url method data' (Xhr d.number matching)  -- 71
command w d storing (Back x) = do
  v ← get_navigable_window w d x  -- 74
  nav_back v storing  -- 75
command w d storing (Forward x) = do
  v ← get_navigable_window w d x  -- 77
  nav_forward v storing  -- 78
command w d storing (Close x) = close w d storing x
command w d storing (PostMessage x message to) = post_message w d storing x message to

-- ALGORITHM 7, RUNSCRIPT, called from A9:9 to 12.
unfoldable pub run_script : WindowNumber → Output → List Cookie → Program
run_script w out new = do
  found ← ask (reached w)  -- A9:10
  top ← needs NoWindow found  -- 4
  current ← ask (active w)
  d ← needs NoDocument current  -- A9:11
  old ← ask (cookies_of d.location.host)
  let merged = cookie_merge old new d.location.protocol
  command w d (store d top merged out) out.command  -- 18
