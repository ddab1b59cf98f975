-- Local steps: which they are, where they stand, their hosts, the numbers that they name (01 "Local steps, for demand 3").
use Rattle.std.specs.Prelude.{Bool, true, false, List, [], ◌∷◌, ◌++◌, ℕ}
use Rattle.std.specs.Prelude.{Option, None as none, Some as some}
use Rattle.tables.specs.Tables.{windows, documents, Tables}
use Rattle.tables.specs.Labels.{Kind, window, request, dns, key, document, host, Label, leads}
use Rattle.tables.specs.Rows.{same_window}
use Rattle.wim.specs.Nouns.{WindowNumber, Host, Url, Reference, Req, Xhr, Target, NewWindow, Existing, Holder, Itself, Within, Command, Nothing, Href, Iframe, Form, SetScript, SetScriptState, XmlHttpRequest, Back, Forward, Close, PostMessage, Answer, Event, RunScript, Urlbar, Reload, GoForward, GoBack, CloseCorrupt, EncryptedAnswer, PlainAnswer, DnsResolved, Document, Question, Waiting}
use Rattle.wim.specs.Walks.{document_numbered, steps, top_above}
use Rattle.wim.specs.Program.{reached, active, question, keyless, keyed, observed}
use Rattle.wim.specs.Response.{where_to}

-- "HREF, FORM or IFRAME that gives the number of the script's own window"
abbrev pub own_target : WindowNumber → Target → Bool
own_target w NewWindow = false
own_target w (Existing x) = same_window x w

abbrev pub new_or_own : WindowNumber → Target → Bool
new_or_own w NewWindow = true
new_or_own w (Existing x) = same_window x w

abbrev pub own_holder : WindowNumber → Holder → Bool
own_holder w Itself = true  -- _SELF means that window (DECISIONS 39)
own_holder w (Within x) = same_window x w

-- "script steps whose command is nothing, XMLHTTPREQUEST, or" one of these, "or HREF to a new one"
abbrev pub local_command : WindowNumber → Command → Bool
local_command w Nothing = true
local_command w (Href url target noreferrer) = new_or_own w target
local_command w (Iframe url holder) = own_holder w holder
local_command w (Form url method data' target) = own_target w target
local_command w (SetScript x script) = false
local_command w (SetScriptState x state) = false
local_command w (XmlHttpRequest url method data' matching) = true
local_command w (Back x) = false
local_command w (Forward x) = false
local_command w (Close x) = false
local_command w (PostMessage x message to) = false

-- "DNS answers, HTTP answers, reload, back, forward, urlbar into an existing window, and script steps whose command is" local
unfoldable pub is_local : Event → Bool
is_local (RunScript w out) = local_command w out.command
is_local (Urlbar NewWindow url) = false
is_local (Urlbar (Existing w) url) = true
is_local (Reload w) = true
is_local (GoForward w) = true
is_local (GoBack w) = true
is_local CloseCorrupt = false
is_local (EncryptedAnswer k a) = true
is_local (PlainAnswer a) = true
is_local (DnsResolved a) = true

-- "the window that it runs in, loads into, reloads or moves, or to which the waiting entry's reference leads"
abbrev pub asked : Option Question → Option Label
asked none = none
asked (some q) = some (leads q.reference)

abbrev pub awaited : Option Waiting → Option Label
awaited none = none
awaited (some w) = some (leads w.reference)

unfoldable pub home : Event → Tables → Option Label
home (RunScript w out) b = some (window, w.0)
home (Urlbar NewWindow url) b = none
home (Urlbar (Existing w) url) b = some (window, w.0)
home (Reload w) b = some (window, w.0)
home (GoForward w) b = some (window, w.0)
home (GoBack w) b = some (window, w.0)
home CloseCorrupt b = none
home (EncryptedAnswer k a) b = awaited (observed (keyed k) b)
home (PlainAnswer a) b = awaited (observed (keyless a.number) b)
home (DnsResolved a) b = asked (observed (question a.number) b)

-- the top-level window above a window or a document; "inactive documents count on the way up"; none "where that window or document has no row"
abbrev pub top_of_document : Tables → Option Document → Option WindowNumber
top_of_document b none = none
top_of_document b (some d) = top_above steps (b windows) (b documents) d.window

unfoldable pub top_of : Tables → Kind → ℕ → Option WindowNumber
top_of b window n = top_above steps (b windows) (b documents) (record { 0 = n })
top_of b document n = top_of_document b (document_numbered (b documents) (record { 0 = n }))
top_of b request n = none
top_of b dns n = none
top_of b key n = none
top_of b host n = none

abbrev pub top_of_home : Tables → Option Label → Option WindowNumber
top_of_home b none = none
top_of_home b (some l) = top_of b l.0 l.1

unfoldable pub stands : Event → Tables → Option WindowNumber
stands e b = top_of_home b (home e b)

-- "the waiting request's host, the script's document's host, and the host of each address that it sends to or is redirected to"
abbrev pub command_hosts : Command → List Host
command_hosts Nothing = []
command_hosts (Href url target noreferrer) = url.host ∷ []
command_hosts (Iframe url holder) = url.host ∷ []
command_hosts (Form url method data' target) = url.host ∷ []
command_hosts (SetScript x script) = []
command_hosts (SetScriptState x state) = []
command_hosts (XmlHttpRequest url method data' matching) = url.host ∷ []
command_hosts (Back x) = []
command_hosts (Forward x) = []
command_hosts (Close x) = []
command_hosts (PostMessage x message to) = []

abbrev pub document_host : Option Document → List Host
document_host none = []
document_host (some d) = d.location.host ∷ []

abbrev pub url_host : Option Url → List Host
url_host none = []
url_host (some u) = u.host ∷ []

-- a redirect is followed where its window is reached (A8:24); otherwise "headers are acted upon and nothing more"
abbrev pub followed_host : Option WindowNumber → Option Url → List Host
followed_host none to = []
followed_host (some top) to = url_host to

abbrev pub redirect_host : Tables → Answer → Reference → List Host
redirect_host b a (Req w) = followed_host (observed (reached w) b) (where_to a.status a.location)
redirect_host b a (Xhr d m) = []

abbrev pub question_host : Option Question → List Host
question_host none = []
question_host (some q) = q.request.host ∷ []

abbrev pub answer_hosts : Tables → Answer → Option Waiting → List Host
answer_hosts b a none = []
answer_hosts b a (some w) = w.request.host ∷ redirect_host b a w.reference

unfoldable pub hosts : Event → Tables → List Host
hosts (RunScript w out) b = document_host (observed (active w) b) ++ command_hosts out.command
hosts (Urlbar target url) b = url.host ∷ []
hosts (Reload w) b = document_host (observed (active w) b)
hosts (GoForward w) b = []
hosts (GoBack w) b = []
hosts CloseCorrupt b = []
hosts (EncryptedAnswer k a) b = answer_hosts b a (observed (keyed k) b)
hosts (PlainAnswer a) b = answer_hosts b a (observed (keyless a.number) b)
hosts (DnsResolved a) b = question_host (observed (question a.number) b)

-- the numbers that an item names, besides those that it brings
abbrev pub target_names : Target → List Label
target_names NewWindow = []
target_names (Existing x) = (window, x.0) ∷ []

abbrev pub holder_names : Holder → List Label
holder_names Itself = []
holder_names (Within x) = (window, x.0) ∷ []

abbrev pub command_names : Command → List Label
command_names Nothing = []
command_names (Href url target noreferrer) = target_names target
command_names (Iframe url holder) = holder_names holder
command_names (Form url method data' target) = target_names target
command_names (SetScript x script) = (window, x.0) ∷ []
command_names (SetScriptState x state) = (window, x.0) ∷ []
command_names (XmlHttpRequest url method data' matching) = []
command_names (Back x) = (window, x.0) ∷ []
command_names (Forward x) = (window, x.0) ∷ []
command_names (Close x) = (window, x.0) ∷ []
command_names (PostMessage x message to) = (window, x.0) ∷ []

unfoldable pub names : Event → List Label
names (RunScript w out) = (window, w.0) ∷ command_names out.command
names (Urlbar target url) = target_names target
names (Reload w) = (window, w.0) ∷ []
names (GoForward w) = (window, w.0) ∷ []
names (GoBack w) = (window, w.0) ∷ []
names CloseCorrupt = []
names (EncryptedAnswer k a) = (key, k.0) ∷ ((request, a.number.0) ∷ [])
names (PlainAnswer a) = (request, a.number.0) ∷ []
names (DnsResolved a) = (dns, a.number.0) ∷ []
