-- One small browser, written as rows, and its steps: over it the guards and the table of local steps are computed.
-- Window 1 shows document 11, a page of host 5; document 12 stands behind that in its history. In 11 hang the frames 2 (document 21, of the same origin) and 3
-- (document 31, of host 6); in 12 hangs the frame 4 (document 41), which is therefore not reached. Window 5, opened by 1, shows document 51, of host 5 over S.
use Rattle.std.specs.Prelude.{Bool, true, false, [], ◌∷◌, ℕ}
use Rattle.tables.specs.Tables.{windows, documents, cookies, local_storage, session_storage, inputs, pending_dns, pending_requests, sts, Tables, no_rows}
use Rattle.tables.specs.Rows.{jar}
use Rattle.shapes.specs.Items.{set_cookies}
use Rattle.wim.specs.Nouns.{Fresh, Protocol, Plain, Secure, Fragment, Absent, Named, Url, Method, Get, Post, Unsent, Unknown, Unset, Unmatched, By, Reference, Req, Xhr, Request, Seal, Keyless, Keyed, Command, Location, Body, Answer, Event, RunScript, Parent, Top, Under, Opener, Nobody, OpenedBy, Window, Document, HostCookie, Posted, Input, Question, Waiting}
use Rattle.wim.specs.Program.{Outcome, refused, made}
use Rattle.wim.specs.Step.{refusal_number, step_tables}

-- ROWS, by what the guards look at.
abbrev pub address : Protocol → ℕ → Fragment → Url
address p h f = record { protocol = p; host = record { 0 = h }; path = record { 0 = 7 }; parameters = record { 0 = 0 }; fragment = f }

abbrev pub plain : ℕ → Url
plain h = address Plain h Absent

abbrev window_row : ℕ → Parent → Opener → Window
window_row w parent opener = record { number = record { 0 = w }; parent = parent; opener = opener }

abbrev document_row : ℕ → ℕ → ℕ → Url → Bool → Document
document_row w place n url active = record { window = record { 0 = w }; place = place; number = record { 0 = n }; location = url; policy = Unset; referrer = Unknown; script = record { 0 = 0 }; state = record { 0 = 0 }; active = active }

-- a cookie of a host: its name, and whether it is secure, of the session, httpOnly
abbrev cookie_row : ℕ → ℕ → Bool → Bool → Bool → HostCookie
cookie_row h name secure session httponly = record { host = record { 0 = h }; cookie = record { name = record { prefixed = false; number = name }; value = record { 0 = 1 }; secure = secure; session = session; httponly = httponly } }

-- a message from window 5
abbrev message_row : ℕ → Input
message_row n = record { document = record { 0 = n }; arrival = 1; news = Posted (record { 0 = 5 }) (record { host = record { 0 = 5 }; protocol = Secure }) 3 }

abbrev request_to : Url → ℕ → Method → ℕ → Request
request_to url n method body = record { number = record { 0 = n }; method = method; host = url.host; path = url.path; parameters = url.parameters; cookies = jar []; origin = Unsent; referrer = Unknown; body = record { 0 = body } }

abbrev question_row : ℕ → Reference → Url → Question
question_row n reference url = record { number = record { 0 = n }; reference = reference; request = request_to url n Get 0; url = url }

abbrev waiting_row : ℕ → Reference → Method → ℕ → Url → Seal → Waiting
waiting_row n reference method body url seal = record { reference = reference; request = request_to url n method body; url = url; seal = seal; address = record { 0 = 9 } }

abbrev for_window : ℕ → Reference
for_window w = Req (record { 0 = w })

abbrev for_document : ℕ → Reference
for_document d = Xhr (record { 0 = d }) (By 4)

-- THE BROWSER. Window 9 and document 99 have no row.
abbrev pub small_browser : Tables
small_browser windows =
    window_row 1 Top Nobody
    ∷ window_row 2 (Under (record { 0 = 11 })) Nobody
    ∷ window_row 3 (Under (record { 0 = 11 })) Nobody
    ∷ window_row 4 (Under (record { 0 = 12 })) Nobody
    ∷ window_row 5 Top (OpenedBy (record { 0 = 1 }))
    ∷ []
small_browser documents =
    document_row 1 1 11 (plain 5) true
    ∷ document_row 1 2 12 (plain 5) false
    ∷ document_row 2 1 21 (plain 5) true
    ∷ document_row 3 1 31 (plain 6) true
    ∷ document_row 4 1 41 (plain 5) true
    ∷ document_row 5 1 51 (address Secure 5 Absent) true
    ∷ []
small_browser cookies =
    cookie_row 5 1 true false false
    ∷ cookie_row 5 2 false true false
    ∷ cookie_row 5 3 false false true
    ∷ cookie_row 6 4 false false false
    ∷ []
small_browser local_storage = record { origin = record { host = record { 0 = 5 }; protocol = Plain }; value = record { 0 = 6 } } ∷ []
small_browser session_storage = record { origin = record { host = record { 0 = 5 }; protocol = Plain }; top = record { 0 = 1 }; value = record { 0 = 8 } } ∷ []
small_browser inputs = message_row 11 ∷ message_row 41 ∷ []
small_browser pending_dns = question_row 1 (for_window 1) (plain 7) ∷ question_row 2 (for_document 21) (plain 5) ∷ question_row 3 (for_window 9) (plain 8) ∷ []
small_browser pending_requests =
    waiting_row 4 (for_window 1) Get 0 (address Plain 6 (Named 3)) Keyless
    ∷ waiting_row 5 (for_window 2) Post 5 (plain 6) Keyless
    ∷ waiting_row 6 (for_window 4) Get 0 (plain 6) Keyless
    ∷ waiting_row 7 (for_window 9) Get 0 (plain 8) Keyless
    ∷ waiting_row 8 (for_document 11) Get 0 (plain 5) Keyless
    ∷ waiting_row 9 (for_document 12) Get 0 (plain 5) Keyless
    ∷ waiting_row 10 (for_document 41) Get 0 (plain 5) Keyless
    ∷ waiting_row 11 (for_document 99) Get 0 (plain 5) Keyless
    ∷ waiting_row 12 (for_window 5) Get 0 (address Secure 5 Absent) (Keyed (record { 0 = 1 }))
    ∷ waiting_row 13 (Xhr (record { 0 = 51 }) Unmatched) Get 0 (address Secure 5 Absent) (Keyed (record { 0 = 2 }))
    ∷ []
small_browser sts = record { host = record { 0 = 8 } } ∷ []

-- EVENTS. Beside its command a script puts out its state, 7, its local storage, 6, and its session storage.
abbrev pub storing : ℕ → ℕ → Command → Event
storing w session command = RunScript (record { 0 = w }) (record { state = record { 0 = 7 }; local = record { 0 = 6 }; session = record { 0 = session }; command = command })

abbrev pub script : ℕ → Command → Event
script w command = storing w 8 command

abbrev pub answer : ℕ → ℕ → Location → Body → Answer
answer n status location body = record { number = record { 0 = n }; status = record { 0 = status }; location = location; strict = false; policy = Unset; body = body }

-- STEPS. The fresh numbers in 01's order, 0 for none.
abbrev pub fresh : ℕ → ℕ → ℕ → ℕ → ℕ → Fresh
fresh w q n k d = record { window = record { 0 = w }; request = record { 0 = q }; dns = record { 0 = n }; key = record { 0 = k }; document = record { 0 = d } }

abbrev pub none_brought : Fresh
none_brought = fresh 0 0 0 0 0

-- what a step that asks for an address brings
abbrev pub asking : Fresh
asking = fresh 0 60 60 0 0

abbrev outcome : Event → Fresh → Outcome
outcome e f = step_tables (record { event = e; cookies = set_cookies []; fresh = f }) small_browser

abbrev tables_of : Outcome → Tables
tables_of (refused r) = no_rows
tables_of (made b m) = b

abbrev number_of : Outcome → ℕ
number_of (refused r) = refusal_number r
number_of (made b m) = 0

-- the tables after an accepted step; and the number of a step's refusal, 0 where it is accepted
abbrev pub after : Event → Fresh → Tables
after e f = tables_of (outcome e f)

abbrev pub refusal : Event → Fresh → ℕ
refusal e f = number_of (outcome e f)
