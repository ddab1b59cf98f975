-- Guards: what single steps leave in the small browser's rows, one equation for each line of the papers that no printed line shows.
use Rattle.std.specs.Prelude.{◌≡◌, Bool, true, false, List, [], ◌∷◌, map, ℕ, eqb, ltb, length}
use Rattle.sorted.specs.Table.{keep}
use Rattle.tables.specs.Tables.{windows, documents, cookies, local_storage, session_storage, inputs, pending_dns, pending_requests, sts, Tables}
use Rattle.csexp.specs.Text.{text}
use Rattle.csexp.specs.Term.{decimal, write}
use Rattle.wim.specs.Nouns.{Plain, Fragment, Absent, Named, Method, Get, Head, Post, Put, Delete, Connect, Options, Trace, Unmatched, By, Existing, Nothing, Href, SetScript, SetScriptState, XmlHttpRequest, Nowhere, To, Number, Page, Event, Reload, CloseCorrupt, EncryptedAnswer, PlainAnswer, Window, Document, HostCookie, SessionValue, News, Answered, Posted, Input, Question, Waiting}
use Rattle.wim.specs.Step.{refusal_number}
use Rattle.wim.specs.Shown.{Shown, hidden, shown, what_is_shown}
use Rattle.wim.specs.Points.SmallBrowser.{address, plain, small_browser, storing, script, answer, fresh, none_brought, asking, after, refusal}

-- WHAT IS LOOKED AT.
-- the documents that have a script state after a script's step, and it
abbrev number_and_state : Document → ℕ × ℕ
number_and_state d = (d.number.0, d.state.0)

abbrev states_after : Event → List (ℕ × ℕ)
states_after e = map number_and_state (keep (λ (d : Document). ltb 0 d.state.0) (after e none_brought documents))

abbrev pub state_stored : ℕ → List (ℕ × ℕ)
state_stored w = states_after (script w Nothing)

-- window 1's script sets 9 in a window, as script or as script state
abbrev number_and_script : Document → ℕ × ℕ
number_and_script d = (d.number.0, d.script.0)

abbrev pub script_set : ℕ → List (ℕ × ℕ)
script_set x = map number_and_script (keep (λ (d : Document). ltb 0 d.script.0) (after (script 1 (SetScript (record { 0 = x }) (record { 0 = 9 }))) none_brought documents))

abbrev pub state_set : ℕ → List (ℕ × ℕ)
state_set x = states_after (script 1 (SetScriptState (record { 0 = x }) (record { 0 = 9 })))

-- what is asked next where a waiting request is redirected
abbrev asked : Tables → List Question
asked b = keep (λ (q : Question). eqb q.number.0 60) (b pending_dns)

abbrev pub redirected : ℕ → ℕ → Fragment → List Question
redirected n status f = asked (after (PlainAnswer (answer n status (To (address Plain 7 f)) (Number 0))) asking)

abbrev pub fragment_asked : ℕ → Fragment → List Fragment
fragment_asked n f = map (λ (q : Question). q.url.fragment) (redirected n 303 f)

abbrev method_and_body : Question → Method × ℕ
method_and_body q = (q.request.method, q.request.body.0)

abbrev pub sent_again : ℕ → List (Method × ℕ)
sent_again status = map method_and_body (redirected 5 status Absent)

-- the refusal of a redirect that brings no numbers
abbrev pub unfollowed : ℕ → ℕ
unfollowed n = refusal (PlainAnswer (answer n 303 (To (plain 7)) (Number 0))) none_brought

-- a page is loaded into window 1
abbrev pub loaded : Tables
loaded = after (PlainAnswer (answer 4 200 Nowhere (Page (record { 0 = 1 }) (record { 0 = 0 })))) (fresh 0 0 0 0 60)

abbrev pub number_and_active : Document → ℕ × Bool
number_and_active d = (d.number.0, d.active)

-- the answers that scripts have got
abbrev is_answer : News → Bool
is_answer (Answered matching body) = true
is_answer (Posted w o message) = false

abbrev answers_in : Tables → List Input
answers_in b = keep (λ (i : Input). is_answer i.news) (b inputs)

abbrev answering : ℕ → Tables
answering n = after (PlainAnswer (answer n 200 Nowhere (Number 3))) none_brought

abbrev pub answered : ℕ → List Input
answered n = answers_in (answering n)

abbrev requests_in : Tables → List ℕ
requests_in b = map (λ (w : Waiting). w.request.number.0) (b pending_requests)

abbrev pub still_waiting : ℕ → List ℕ
still_waiting n = requests_in (answering n)

-- the session values after a window's script has stored 9
abbrev pub stored_by : ℕ → List SessionValue
stored_by w = after (storing w 9 Nothing) none_brought session_storage

-- the questions and the requests that wait, by number
abbrev pub waiting_after : Event → List ℕ × List ℕ
waiting_after e = (map (λ (q : Question). q.number.0) (after e asking pending_dns), requests_in (after e asking))

abbrev pub xhr_refusal : Method → ℕ
xhr_refusal m = refusal (script 1 (XmlHttpRequest (plain 5) m (record { 0 = 0 }) Unmatched)) asking

-- what a window's script is shown, as text; the refusal's number where nothing is
abbrev shown_text : Shown → List ℕ
shown_text (hidden r) = decimal (refusal_number r)
shown_text (shown t) = write t

abbrev pub shown_in : ℕ → List ℕ
shown_in w = shown_text (what_is_shown (record { tables = small_browser; closed = false }) (record { 0 = w }))

-- the browser after it was closed: which cookies it has, and how many rows each table
abbrev pub after_closing : Tables
after_closing = after CloseCorrupt none_brought

abbrev pub cookie_number : HostCookie → ℕ
cookie_number r = r.cookie.name.number

abbrev pub counts : Tables → List ℕ
counts b =
    length (b windows)
    ∷ length (b documents)
    ∷ length (b cookies)
    ∷ length (b local_storage)
    ∷ length (b session_storage)
    ∷ length (b inputs)
    ∷ length (b pending_dns)
    ∷ length (b pending_requests)
    ∷ length (b sts)
    ∷ []

-- THE EQUATIONS.
pub record Guards : Type 0 where
  -- A7:14: in the active document of the window that the script runs in
  pub state-stored : map state_stored (1 ∷ 2 ∷ 3 ∷ 5 ∷ []) ≡ ((11, 7) ∷ []) ∷ ((21, 7) ∷ []) ∷ ((31, 7) ∷ []) ∷ ((51, 7) ∷ []) ∷ []
  -- A2, A7:52 to 59: into its own window, a reached one of its origin, one of another origin, an unreached one, one that isn't there
  pub script-set : map script_set (1 ∷ 2 ∷ 3 ∷ 4 ∷ 9 ∷ []) ≡ ((11, 9) ∷ []) ∷ ((21, 9) ∷ []) ∷ ((11, 9) ∷ []) ∷ ((11, 9) ∷ []) ∷ ((11, 9) ∷ []) ∷ []
  -- the state that the script puts out, 7, is stored first
  pub state-set : map state_set (1 ∷ 2 ∷ 3 ∷ 4 ∷ 9 ∷ []) ≡ ((11, 9) ∷ []) ∷ ((11, 7) ∷ (21, 9) ∷ []) ∷ ((11, 9) ∷ []) ∷ ((11, 9) ∷ []) ∷ ((11, 9) ∷ []) ∷ []
  -- A8:13, 14: the Location's own fragment, otherwise that of the request's address, if there is one; the document keeps it
  pub own-fragment : fragment_asked 4 (Named 5) ≡ Named 5 ∷ []
  pub inherited_fragment : fragment_asked 4 Absent ≡ Named 3 ∷ []
  pub no-fragment : fragment_asked 5 Absent ≡ Absent ∷ []
  pub kept-fragment : map (λ (d : Document). d.location.fragment) (keep (λ (d : Document). eqb d.number.0 60) (loaded documents)) ≡ Named 3 ∷ []
  -- A8:21 to 23: 303 turns a POST into a GET without its body, 307 doesn't
  pub sent-again : map sent_again (303 ∷ 307 ∷ []) ≡ ((Get, 0) ∷ []) ∷ ((Post, 5) ∷ []) ∷ []
  -- A8:24, 28, 29: nothing is asked where the window isn't reached, where it is gone, and for an XHR
  pub not_followed : map unfollowed (6 ∷ 7 ∷ 8 ∷ []) ≡ 0 ∷ 0 ∷ 0 ∷ []
  -- A8:46 to 50: the document's answer behind its message, with its body and its number; none where it is inactive, unreached or gone
  pub answer_filed : answered 8 ≡ record { document = record { 0 = 11 }; arrival = 2; news = Answered (By 4) (Number 3) } ∷ []
  pub answer_lost : map answered (9 ∷ 10 ∷ 11 ∷ []) ≡ [] ∷ [] ∷ [] ∷ []
  -- which waits no longer, whatever becomes of its answer
  pub answer-taken : map still_waiting (8 ∷ 9 ∷ 10 ∷ 11 ∷ []) ≡ (4 ∷ 5 ∷ 6 ∷ 7 ∷ 9 ∷ 10 ∷ 11 ∷ 12 ∷ 13 ∷ []) ∷ (4 ∷ 5 ∷ 6 ∷ 7 ∷ 8 ∷ 10 ∷ 11 ∷ 12 ∷ 13 ∷ []) ∷ (4 ∷ 5 ∷ 6 ∷ 7 ∷ 8 ∷ 9 ∷ 11 ∷ 12 ∷ 13 ∷ []) ∷ (4 ∷ 5 ∷ 6 ∷ 7 ∷ 8 ∷ 9 ∷ 10 ∷ 12 ∷ 13 ∷ []) ∷ []
  pub page_filed : answers_in (after (EncryptedAnswer (record { 0 = 2 }) (answer 13 200 Nowhere (Page (record { 0 = 1 }) (record { 0 = 2 })))) none_brought) ≡ record { document = record { 0 = 51 }; arrival = 1; news = Answered Unmatched (Page (record { 0 = 1 }) (record { 0 = 2 })) } ∷ []
  -- A8:35 to 44: document 12 goes, and with it frame 4, its document and the message there
  pub later-windows : map (λ (w : Window). w.number.0) (loaded windows) ≡ 1 ∷ 2 ∷ 3 ∷ 5 ∷ []
  pub later-documents : map number_and_active (loaded documents) ≡ (11, false) ∷ (60, true) ∷ (21, true) ∷ (31, true) ∷ (51, true) ∷ []
  pub later-inputs : map (λ (i : Input). i.document.0) (loaded inputs) ≡ 11 ∷ []
  -- A7:13: session values go by the top-level window above, a frame's too
  pub session-stored : stored_by 2 ≡ record { origin = record { host = record { 0 = 5 }; protocol = Plain }; top = record { 0 = 1 }; value = record { 0 = 9 } } ∷ []
  -- A3: a reload cancels nothing (01), HREF what waits for its window, never an XHR
  pub reload-cancels : waiting_after (Reload (record { 0 = 1 })) ≡ (1 ∷ 2 ∷ 3 ∷ 60 ∷ [], 4 ∷ 5 ∷ 6 ∷ 7 ∷ 8 ∷ 9 ∷ 10 ∷ 11 ∷ 12 ∷ 13 ∷ [])
  pub href-cancels : waiting_after (script 1 (Href (plain 7) (Existing (record { 0 = 1 })) false)) ≡ (2 ∷ 3 ∷ 60 ∷ [], 5 ∷ 6 ∷ 7 ∷ 8 ∷ 9 ∷ 10 ∷ 11 ∷ 12 ∷ 13 ∷ [])
  -- A7:61, 62: CONNECT and TRACE
  pub methods_refused : map xhr_refusal (Get ∷ Head ∷ Post ∷ Put ∷ Delete ∷ Connect ∷ Options ∷ Trace ∷ []) ≡ 0 ∷ 0 ∷ 0 ∷ 0 ∷ 0 ∷ 4 ∷ 0 ∷ 4 ∷ []
  -- A9:46 to 54: cookies that aren't of the session, local storage and STS stay
  pub closing_keeps : counts after_closing ≡ 0 ∷ 0 ∷ 3 ∷ 1 ∷ 0 ∷ 0 ∷ 0 ∷ 0 ∷ 1 ∷ []
  pub closing_keeps_cookies : map cookie_number (after_closing cookies) ≡ 1 ∷ 3 ∷ 4 ∷ []
  -- Definition 35 and A7:2 to 9: of other origins only number and subwindows, every opener, secure cookies only over S, the session's value of the top-level window
  pub shown_in_frame : shown_in 2 ≡ text "((((6:window1:1)(((8:document2:11)(3:URL1:P1:51:7()())()()1:01:0((11:POSTMESSAGE(6:window1:5)(1:51:S)1:3))(((6:window1:2)(((8:document2:21)(3:URL1:P1:51:7()())()()1:01:0()()1:T))())((6:window1:3)(((8:document2:31)()))()))1:T))())((6:window1:5)(((8:document2:51)()))(6:window1:1)))(8:document2:21)1:0()((1:21:1))1:61:8)"
  pub shown-over-s : shown_in 5 ≡ text "((((6:window1:1)(((8:document2:11)(((6:window1:2)(((8:document2:21)()))())((6:window1:3)(((8:document2:31)()))()))))())((6:window1:5)(((8:document2:51)(3:URL1:S1:51:7()())()()1:01:0()()1:T))(6:window1:1)))(8:document2:51)1:0()((1:11:1)(1:21:1))()())"
  pub not_shown : map shown_in (4 ∷ 9 ∷ []) ≡ text "3" ∷ text "3" ∷ []
