-- How a step is written: a small program that looks at the browser by a fixed list of questions, puts and drops rows of one table at a time,
-- changes rows in place (their keys stay), takes fresh numbers, refuses, or is done with a message or none. `run` is its only interpreter.
use Rattle.std.specs.Prelude.{Bool, true, false, cond, ◌&&◌, List, [], ◌∷◌, map, ℕ, eqb, length}
use Rattle.std.specs.Prelude.{Option, None as none, Some as some}
use Rattle.sorted.specs.Table.{find, keep, is_some, at}
use Rattle.tables.specs.Tables.{Table, windows, documents, cookies, inputs, pending_dns, pending_requests, sts, Row, key_of, cmp, Tables, Edits, update, apply}
use Rattle.tables.specs.Labels.{Kind, code, Label}
use Rattle.shapes.specs.Events.{Message}
use Rattle.tables.specs.Rows.{same_document, origin_of, same_host, goes_over, has_key, has_no_key}
use Rattle.wim.specs.Nouns.{WindowNumber, DocumentNumber, RequestNumber, DnsNumber, KeyNumber, Host, Protocol, Top, Under, Window, Document, HostCookie, Input, Question, Waiting, Refusal, Lacking, Stopped, NotFresh, Missing}
use Rattle.wim.specs.Walks.{documents_of, active_document, window_numbered, document_numbered, has_origin, steps, reached_from, is_reached, Removal, removal}
use Rattle.wim.specs.Navigable.{may_navigate}

-- QUESTIONS: what the paper's algorithms look at.
pub data Query : Type 0 where
  reached : WindowNumber → Query  -- the top-level window from which a window is reached through active documents
  top_level : WindowNumber → Query  -- is there a top-level window with this number?
  active : WindowNumber → Query  -- a window's active document
  history : WindowNumber → Query  -- a window's documents
  navigated : WindowNumber → Document → WindowNumber → Query  -- that window, if the document of this window may navigate it, otherwise this window
  of_origin : Document → WindowNumber → Query  -- the active document of that window, if it is reached and has this document's origin
  listening : DocumentNumber → Query  -- the document with this number, if it is the active one of a reached window
  arrived : DocumentNumber → Query  -- how many inputs a document has
  under : List DocumentNumber → Query  -- what goes when these documents go
  strict : Host → Query  -- is the host spoken to over S alone?
  cookies_of : Host → Query  -- the cookies of a host
  cookies_for : Host → Protocol → Query  -- those that go over a protocol
  question : DnsNumber → Query  -- the waiting question with a number
  keyless : RequestNumber → Query  -- the waiting keyless request with a number
  keyed : KeyNumber → Query  -- the waiting request with a key

abbrev pub Observed : Query → Type 0
Observed (reached w) = Option WindowNumber
Observed (top_level w) = Bool
Observed (active w) = Option Document
Observed (history w) = List Document
Observed (navigated w d v) = WindowNumber
Observed (of_origin d v) = Option Document
Observed (listening n) = Option Document
Observed (arrived n) = ℕ
Observed (under gone) = Removal
Observed (strict h) = Bool
Observed (cookies_of h) = List HostCookie
Observed (cookies_for h p) = List HostCookie
Observed (question n) = Option Question
Observed (keyless n) = Option Waiting
Observed (keyed k) = Option Waiting

abbrev pub is_top : Option Window → Bool
is_top none = false
is_top (some r) = elim r.parent as (λ _. Bool) [ Top ↦ true | Under d ↦ false ]

abbrev pub when : {A : Type 0} → Bool → Option A → Option A
when true o = o
when false o = none

abbrev pub with_origin : Document → Option Document → Option Document
with_origin d none = none
with_origin d (some e) = when (has_origin (origin_of d) (some e)) (some e)

abbrev pub listens : List Window → List Document → Option Document → Option Document
listens ws ds none = none
listens ws ds (some d) = when (d.active && is_reached ws ds d.window) (some d)

unfoldable pub observed : (q : Query) → Tables → Observed q
observed (reached w) b = reached_from steps (b windows) (b documents) w
observed (top_level w) b = is_top (window_numbered (b windows) w)
observed (active w) b = active_document (b documents) w
observed (history w) b = documents_of (b documents) w
observed (navigated w d v) b = cond (may_navigate (b windows) (b documents) (origin_of d) w v) v w
observed (of_origin d v) b = when (is_reached (b windows) (b documents) v) (with_origin d (active_document (b documents) v))
observed (listening n) b = listens (b windows) (b documents) (document_numbered (b documents) n)
observed (arrived n) b = length (keep (λ (i : Input). same_document i.document n) (b inputs))
observed (under gone) b = removal (b windows) (b documents) gone
observed (strict h) b = is_some (at (key_of sts) (cmp sts) h.0 (b sts))
observed (cookies_of h) b = keep (λ (r : HostCookie). same_host r.host h) (b cookies)
observed (cookies_for h p) b = keep (λ (r : HostCookie). same_host r.host h && goes_over p r.cookie) (b cookies)
observed (question n) b = at (key_of pending_dns) (cmp pending_dns) n.0 (b pending_dns)
observed (keyless n) b = find (λ (r : Waiting). eqb r.request.number.0 n.0 && has_no_key r.seal) (b pending_requests)
observed (keyed k) b = find (λ (r : Waiting). has_key k r.seal) (b pending_requests)

-- PROGRAMS.
pub data Program : Type 0 where
  ask : (q : Query) → (Observed q → Program) → Program
  edit : (t : Table) → Edits t → Program → Program
  revise : (t : Table) → (Row t → Row t) → Program → Program
  bring : Kind → (ℕ → Program) → Program
  refuse : Refusal → Program
  done : Option Message → Program

-- In `do` notation a line `x ← ask q` is `ask q (λ x. ..)` and a line `edit t es` is `edit t es (..)`.
infixl 1 ◌>>=◌ ◌>>◌
abbrev pub ◌>>=◌ : {A : Type 0} → ((A → Program) → Program) → (A → Program) → Program
◌>>=◌ m k = m k

abbrev pub ◌>>◌ : (Program → Program) → Program → Program
◌>>◌ m p = m p

-- what must be there (refusal 3), and where WIM stops at the choice (refusal 4)
abbrev pub needs : {A : Type 0} → Missing → Option A → (A → Program) → Program
needs m none k = refuse (Lacking m)
needs m (some x) k = k x

abbrev pub stop_if : Bool → Program → Program
stop_if true p = refuse Stopped
stop_if false p = p

abbrev pub refuse_unless : Bool → Missing → Program → Program
refuse_unless true m p = p
refuse_unless false m p = refuse (Lacking m)

pub data Outcome : Type 0 where
  refused : Refusal → Outcome
  made : Tables → Option Message → Outcome

-- The fresh numbers are taken one by one; one too few, too many or of another label is refusal 5.
unfoldable pub run : Program → Tables → List Label → Outcome
run (ask q k) b f = run (k (observed q b)) b f
run (edit t es p) b f = run p (apply t es b) f
run (revise t g p) b f = run p (update t (map g) b) f
run (bring κ k) b [] = refused NotFresh
run (bring κ k) b (l ∷ f) = cond (eqb (code κ) (code l.0)) (run (k l.1) b f) (refused NotFresh)
run (refuse r) b f = refused r
run (done m) b [] = made b m
run (done m) b (l ∷ f) = refused NotFresh
