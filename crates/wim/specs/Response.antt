-- 000 Algorithm 8, PROCESSRESPONSE.
use Rattle.std.specs.Prelude.{Bool, true, false, cond, not, ◌&&◌, ◌||◌, List, [], ◌∷◌, map, ℕ, suc, eqb, ltb, leb, length}
use Rattle.std.specs.Prelude.{Option, None as none, Some as some}
use Rattle.sorted.specs.Table.{keep, put, drop}
use Rattle.tables.specs.Tables.{documents, cookies, inputs, pending_requests, sts, is_secure, Edits}
use Rattle.tables.specs.Labels.{document}
use Rattle.tables.specs.Rows.{same_origin, setting_active}
use Rattle.shapes.specs.Words.{redirects}
use Rattle.wim.specs.Nouns.{WindowNumber, Url, Origin, Fragment, Absent, Named, Cookie, Method, Get, OriginHeader, Unsent, Null, From, Matching, Reference, Req, Xhr, Sending, Script, ScriptState, Status, Location, Nowhere, To, Body, Number, Page, Answer, Document, Waiting, Answered}
use Rattle.wim.specs.Walks.{active_among, Removal}
use Rattle.wim.specs.Cookies.{add_cookies}
use Rattle.wim.specs.Program.{Program, ask, edit, revise, bring, done, reached, history, listening, arrived, under, ◌>>=◌, ◌>>◌}
use Rattle.wim.specs.Sending.{send}
use Rattle.wim.specs.History.{place_of}
use Rattle.wim.specs.Script.{no_data, is_get_or_head, url_origin, remove, file}

-- 2 to 6: headers are acted upon; A9:59 and 62: the request no longer waits
abbrev pub strict_host : Waiting → Answer → Edits sts
strict_host w a = cond (a.strict && is_secure w.url.protocol) (put (record { host = w.request.host }) ∷ []) []

abbrev pub act_on_headers : Waiting → Answer → List Cookie → Program → Program
act_on_headers w a new p = do
  edit pending_requests (drop w.request.number.0 ∷ [])
  edit cookies (add_cookies w.request.host new w.url.protocol)  -- 2 to 4
  edit sts (strict_host w a)  -- 5, 6
  p

-- 11: "Location ∈ response.headers ∧ response.status ∈ {303, 307}"
abbrev pub is_redirect : Status → Bool
is_redirect s = redirects s.0

abbrev pub where_to : Status → Location → Option Url
where_to s Nowhere = none
where_to s (To u) = cond (is_redirect s) (some u) none

-- 13, 14: an address without a fragment takes that of the request's
abbrev pub inheriting : Fragment → Fragment → Fragment
inheriting old Absent = old
inheriting old (Named f) = Named f

abbrev pub with_fragment_of : Url → Url → Url
with_fragment_of old u = record { protocol = u.protocol; host = u.host; path = u.path; parameters = u.parameters; fragment = inheriting old.fragment u.fragment }

abbrev pub asked_origin : Waiting → Origin
asked_origin w = record { host = w.request.host; protocol = w.url.protocol }

-- 17 to 20: the request's Origin is kept where one of two origins agrees, and becomes ◇ otherwise
abbrev pub origin_after : Url → Waiting → OriginHeader → OriginHeader
origin_after u w Unsent = Null
origin_after u w Null = Null
origin_after u w (From o) = cond (same_origin (url_origin u) (asked_origin w) || same_origin (asked_origin w) o) (From o) Null

-- 21 to 23: 303 turns all but GET and HEAD into a GET with an empty body
abbrev pub turns_to_get : Status → Method → Bool
turns_to_get s m = eqb s.0 303 && not (is_get_or_head m)

abbrev pub redirection : Url → Waiting → Answer → Sending
redirection u w a = record {
  reference = w.reference;
  method = cond (turns_to_get a.status w.request.method) Get w.request.method;
  url = u;
  parameters = u.parameters;
  body = cond (turns_to_get a.status w.request.method) no_data w.request.body;
  origin = origin_after u w w.request.origin;
  referrer = w.request.referrer;  -- 7 to 10
  policy = a.policy;
}  -- 26

-- 35 to 44: a document is loaded behind the active one; those behind that go, with everything under them
abbrev pub later_than : Option Document → List Document → List Document
later_than none ds = []
later_than (some a) ds = keep (λ (d : Document). ltb a.place d.place) ds

abbrev pub up_to : Option Document → List Document → List Document
up_to none ds = ds
up_to (some a) ds = keep (λ (d : Document). leb d.place a.place) ds

abbrev pub new_document : WindowNumber → ℕ → ℕ → Waiting → Answer → Script → ScriptState → Document
new_document v place n w a script state = record {
  window = v;
  place = place;
  number = record { 0 = n };
  location = w.url;
  policy = a.policy;
  referrer = w.request.referrer;
  script = script;
  state = state;
  active = true;
}

-- THE COURSE OF AN ANSWER, with what the browser is asked for it: every question comes before the first change.
pub data Course : Type 0 where
  followed : Url → Course  -- 24 to 27: to the address that it names
  loaded : WindowNumber → List Document → Removal → Script → ScriptState → Course  -- 35 to 45: into the history of its window, from which some go
  handed : Document → ℕ → Matching → Course  -- 48 to 50: to the document whose script asked, behind so many inputs
  nothing_more : Course  -- 01: "headers are acted upon and nothing more"

-- of an answer to a window: by whether that is reached, where the answer redirects to, and its body
unfoldable pub window_course : WindowNumber → Option WindowNumber → Option Url → Body → (Course → Program) → Program
window_course v none to body go = go nothing_more  -- 28, 29, 32
window_course v (some top) (some u) body go = go (followed u)  -- 11, 24
window_course v (some top) none (Number m) go = go nothing_more  -- 33, 34
window_course v (some top) none (Page script state) go = do
  ds ← ask (history v)
  gone ← ask (under (map (λ (d : Document). d.number) (later_than (active_among ds) ds)))
  go (loaded v ds gone script state)

-- of an answer to an XHR: by where it redirects to, and whether its document is the active one of a reached window
unfoldable pub script_course : Matching → Option Url → Option Document → (Course → Program) → Program
script_course matching (some u) found go = go nothing_more  -- 24: "Do not redirect XHRs"; 28, 29
script_course matching none none go = go nothing_more  -- 47
script_course matching none (some d) go = do
  earlier ← ask (arrived d.number)
  go (handed d earlier matching)

unfoldable pub course_of : Reference → Answer → (Course → Program) → Program
course_of (Req v) a go = do
  found ← ask (reached v)  -- 24, 32
  window_course v found (where_to a.status a.location) a.body go
course_of (Xhr n matching) a go = do
  found ← ask (listening n)  -- 47
  script_course matching (where_to a.status a.location) found go

unfoldable pub takes : Course → Waiting → Answer → Program
takes (followed u) w a = send (redirection (with_fragment_of w.url u) w a)  -- 12 to 27
takes (loaded v ds gone script state) w a = do
  n ← bring document
  remove gone  -- 43
  revise documents (setting_active v (place_of (active_among ds)) false)  -- 41, 42
  edit documents (put (new_document v (suc (length (up_to (active_among ds) ds))) n w a script state) ∷ [])  -- 35 to 39, 44
  done none  -- 45
takes (handed d earlier matching) w a = do
  edit inputs (file d.number earlier (Answered matching a.body))  -- 48, 49
  done none  -- 50
takes nothing_more w a = done none  -- 29, 34, and where 32 and 47 stop

-- ALGORITHM 8.
unfoldable pub process_response : Reference → Waiting → Answer → List Cookie → Program
process_response reference w a new = do
  course ← course_of reference a  -- 11, 24, 30 to 34, 46, 47: which way it goes
  act_on_headers w a new  -- 2 to 6
  takes course w a  -- 7 to 29, 35 to 45, 48 to 50: and there it goes
