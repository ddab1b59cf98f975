-- Ranges: the numbers of the rows of the nine tables (01 "Numbers, names, sizes"). Each row is tested by itself.
use Rattle.std.specs.Prelude.{◌≤◌}
use Rattle.tables.specs.Tables.{Table, windows, documents, cookies, local_storage, session_storage, inputs, pending_dns, pending_requests, sts, Row}
use Rattle.shapes.specs.Words.{most32}
use Rattle.shapes.specs.Ranges.{Between, HostIn, AddressIn, ValueIn, NumberIn, UrlIn, OriginIn, CookieIn, MatchingIn, BodyIn, ReferrerIn, RequestIn}
use Rattle.wim.specs.Nouns.{Parent, Top, Under, Opener, Nobody, OpenedBy, Reference, Req, Xhr, Seal, Keyless, Keyed, News, Answered, Posted, Stored, Window, Document, HostCookie, LocalValue, SessionValue, Input, Question, Waiting, StrictHost}

abbrev pub ParentIn : Parent → Type 0
ParentIn Top = Unit {0}
ParentIn (Under d) = NumberIn d.0

abbrev pub OpenerIn : Opener → Type 0
OpenerIn Nobody = Unit {0}
OpenerIn (OpenedBy w) = NumberIn w.0

pub record WindowIn (r : Window) : Type 0 where
  pub number : NumberIn r.number.0
  pub parent : ParentIn r.parent
  pub opener : OpenerIn r.opener

-- "Both count from 1": places here, arrivals below. Neither exceeds the rows of its table (`places_bounded`, `arrivals_bounded` of `ranges`).
pub record DocumentIn (d : Document) : Type 0 where
  pub window : NumberIn d.window.0
  pub place : 1 ≤ d.place
  pub number : NumberIn d.number.0
  pub location : UrlIn d.location
  pub referrer : ReferrerIn d.referrer
  pub script : ValueIn d.script.0
  pub state : ValueIn d.state.0

pub record HostCookieIn (r : HostCookie) : Type 0 where
  pub host : HostIn r.host
  pub cookie : CookieIn r.cookie

-- "A storage value 0 has no row"
abbrev pub StoredIn : Stored → Type 0
StoredIn v = Between 1 most32 v.0

pub record LocalValueIn (r : LocalValue) : Type 0 where
  pub origin : OriginIn r.origin
  pub value : StoredIn r.value

pub record SessionValueIn (r : SessionValue) : Type 0 where
  pub origin : OriginIn r.origin
  pub top : NumberIn r.top.0
  pub value : StoredIn r.value

abbrev pub NewsIn : News → Type 0
NewsIn (Answered matching body) = MatchingIn matching × BodyIn body
NewsIn (Posted w origin message) = NumberIn w.0 × OriginIn origin × ValueIn message

pub record InputIn (i : Input) : Type 0 where
  pub document : NumberIn i.document.0
  pub arrival : 1 ≤ i.arrival
  pub news : NewsIn i.news

abbrev pub ReferenceIn : Reference → Type 0
ReferenceIn (Req w) = NumberIn w.0
ReferenceIn (Xhr d matching) = NumberIn d.0 × MatchingIn matching

abbrev pub SealIn : Seal → Type 0
SealIn Keyless = Unit {0}
SealIn (Keyed k) = NumberIn k.0

pub record QuestionIn (q : Question) : Type 0 where
  pub number : NumberIn q.number.0
  pub reference : ReferenceIn q.reference
  pub request : RequestIn q.request
  pub url : UrlIn q.url

pub record WaitingIn (w : Waiting) : Type 0 where
  pub reference : ReferenceIn w.reference
  pub request : RequestIn w.request
  pub url : UrlIn w.url
  pub seal : SealIn w.seal
  pub address : AddressIn w.address

pub record StrictHostIn (r : StrictHost) : Type 0 where
  pub host : HostIn r.host

abbrev pub RowIn : (t : Table) → Row t → Type 0
RowIn windows r = WindowIn r
RowIn documents r = DocumentIn r
RowIn cookies r = HostCookieIn r
RowIn local_storage r = LocalValueIn r
RowIn session_storage r = SessionValueIn r
RowIn inputs r = InputIn r
RowIn pending_dns r = QuestionIn r
RowIn pending_requests r = WaitingIn r
RowIn sts r = StrictHostIn r
