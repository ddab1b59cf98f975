-- Ranges: the numbers of every noun that an item or a message is made of (01 "Numbers, names, sizes").
use Rattle.std.specs.Prelude.{◌≡◌, List, ℕ, ◌≤◌, length}
use Rattle.types.specs.Lists.{cookies_in, header_pairs}
use Rattle.sorted.specs.Table.{All, fill}
use Rattle.tables.specs.Rows.{jar}
use Rattle.shapes.specs.Nouns.{Fresh, Host, Address, Path, Fragment, Absent, Named, Url, Origin, CookieName, Cookie, Pair, SetCookies, OriginHeader, Unsent, Null, From, Referrer, Unknown, Known, Matching, Unmatched, By, Request, Target, NewWindow, Existing, Holder, Itself, Within, Addressee, Anyone, Only, Command, Nothing, Href, Iframe, Form, SetScript, SetScriptState, XmlHttpRequest, Back, Forward, Close, PostMessage, Status, Location, Nowhere, To, Body, Number, Page, Answer, DnsAnswer, Output, Event, RunScript, Urlbar, Reload, GoForward, GoBack, CloseCorrupt, EncryptedAnswer, PlainAnswer, DnsResolved, Item}
use Rattle.shapes.specs.Words.{most16, most32}
use Rattle.shapes.specs.Items.{blank_cookie}
use Rattle.shapes.specs.Events.{Message, resolve, unsealed, sealed}

pub record Between (lo hi n : ℕ) : Type 0 where
  pub low : lo ≤ n
  pub high : n ≤ hi

-- NUMBERS AND NAMES.
-- "Host and network address: 1 to 65,535"
abbrev pub HostIn : Host → Type 0
HostIn h = Between 1 most16 h.0

abbrev pub AddressIn : Address → Type 0
AddressIn a = Between 1 most16 a.0

-- "Path and cookie name: 0 to 65,535"
abbrev pub PathIn : Path → Type 0
PathIn p = Between 0 most16 p.0

abbrev pub NameIn : CookieName → Type 0
NameIn n = Between 0 most16 n.number

-- "Script, script state, cookie value, storage value, parameters, body, fragment, XHR matching number: 0 to 4,294,967,295"
abbrev pub ValueIn : ℕ → Type 0
ValueIn n = Between 0 most32 n

-- "Window, document, request, dns and key numbers run from 1 to 4,294,967,295"
abbrev pub NumberIn : ℕ → Type 0
NumberIn n = Between 1 most32 n

-- "Status is 100 to 505"
abbrev pub StatusIn : Status → Type 0
StatusIn s = Between 100 505 s.0

-- ADDRESSES.
-- an absent fragment and the fragment 0 are one
abbrev pub FragmentIn : Fragment → Type 0
FragmentIn Absent = Unit {0}
FragmentIn (Named n) = Between 1 most32 n

pub record UrlIn (u : Url) : Type 0 where
  pub host : HostIn u.host
  pub path : PathIn u.path
  pub parameters : ValueIn u.parameters.0
  pub fragment : FragmentIn u.fragment

abbrev pub OriginIn : Origin → Type 0
OriginIn o = HostIn o.host

-- COOKIES.
pub record CookieIn (c : Cookie) : Type 0 where
  pub name : NameIn c.name
  pub value : ValueIn c.value.0

pub record PairIn (p : Pair) : Type 0 where
  pub name : NameIn p.name
  pub value : ValueIn p.value.0

-- "At most four cookies in one answer or from one script step"; those past the count are blank
pub record SetCookiesIn (cs : SetCookies) : Type 0 where
  pub few : cs.count ≤ 4
  pub each : All CookieIn (cookies_in cs)
  pub blank : cs.rows ≡ fill blank_cookie 4 (cookies_in cs)

-- COMMANDS.
abbrev pub TargetIn : Target → Type 0
TargetIn NewWindow = Unit {0}
TargetIn (Existing w) = NumberIn w.0

abbrev pub HolderIn : Holder → Type 0
HolderIn Itself = Unit {0}
HolderIn (Within w) = NumberIn w.0

abbrev pub MatchingIn : Matching → Type 0
MatchingIn Unmatched = Unit {0}
MatchingIn (By n) = ValueIn n

abbrev pub AddresseeIn : Addressee → Type 0
AddresseeIn Anyone = Unit {0}
AddresseeIn (Only o) = OriginIn o

abbrev pub CommandIn : Command → Type 0
CommandIn Nothing = Unit {0}
CommandIn (Href url target noreferrer) = UrlIn url × TargetIn target
CommandIn (Iframe url holder) = UrlIn url × HolderIn holder
CommandIn (Form url method data' target) = UrlIn url × ValueIn data'.0 × TargetIn target
CommandIn (SetScript w script) = NumberIn w.0 × ValueIn script.0
CommandIn (SetScriptState w state) = NumberIn w.0 × ValueIn state.0
CommandIn (XmlHttpRequest url method data' matching) = UrlIn url × ValueIn data'.0 × MatchingIn matching
CommandIn (Back w) = NumberIn w.0
CommandIn (Forward w) = NumberIn w.0
CommandIn (Close w) = NumberIn w.0
CommandIn (PostMessage w message to) = NumberIn w.0 × ValueIn message × AddresseeIn to

-- ANSWERS.
abbrev pub LocationIn : Location → Type 0
LocationIn Nowhere = Unit {0}
LocationIn (To u) = UrlIn u

abbrev pub BodyIn : Body → Type 0
BodyIn (Number n) = ValueIn n
BodyIn (Page script state) = ValueIn script.0 × ValueIn state.0

pub record AnswerIn (a : Answer) : Type 0 where
  pub number : NumberIn a.number.0
  pub status : StatusIn a.status
  pub location : LocationIn a.location
  pub body : BodyIn a.body

pub record DnsAnswerIn (a : DnsAnswer) : Type 0 where
  pub host : HostIn a.host
  pub address : AddressIn a.address
  pub number : NumberIn a.number.0

-- ITEMS.
pub record OutputIn (o : Output) : Type 0 where
  pub state : ValueIn o.state.0
  pub local : ValueIn o.local.0
  pub session : ValueIn o.session.0
  pub command : CommandIn o.command

abbrev pub EventIn : Event → Type 0
EventIn (RunScript w out) = NumberIn w.0 × OutputIn out
EventIn (Urlbar target url) = TargetIn target × UrlIn url
EventIn (Reload w) = NumberIn w.0
EventIn (GoForward w) = NumberIn w.0
EventIn (GoBack w) = NumberIn w.0
EventIn CloseCorrupt = Unit {0}
EventIn (EncryptedAnswer k a) = NumberIn k.0 × AnswerIn a
EventIn (PlainAnswer a) = AnswerIn a
EventIn (DnsResolved a) = DnsAnswerIn a

-- 0 stands for one that is not given
pub record FreshIn (f : Fresh) : Type 0 where
  pub window : Between 0 most32 f.window.0
  pub request : Between 0 most32 f.request.0
  pub dns : Between 0 most32 f.dns.0
  pub key : Between 0 most32 f.key.0
  pub document : Between 0 most32 f.document.0

pub record ItemIn (i : Item) : Type 0 where
  pub event : EventIn i.event
  pub cookies : SetCookiesIn i.cookies
  pub fresh : FreshIn i.fresh

-- MESSAGES.
abbrev pub OriginHeaderIn : OriginHeader → Type 0
OriginHeaderIn Unsent = Unit {0}
OriginHeaderIn Null = Unit {0}
OriginHeaderIn (From o) = OriginIn o

abbrev pub ReferrerIn : Referrer → Type 0
ReferrerIn Unknown = Unit {0}
ReferrerIn (Known u) = UrlIn u

-- a Cookie header's pairs
abbrev pub pairs : Request → List Pair
pairs q = header_pairs q.cookies

-- Cookie "never has more cookies than the cookie table has rows for"
pub record RequestIn (q : Request) : Type 0 where
  pub number : NumberIn q.number.0
  pub host : HostIn q.host
  pub path : PathIn q.path
  pub parameters : ValueIn q.parameters.0
  pub few : length (pairs q) ≤ 64
  pub each : All PairIn (pairs q)
  pub blank : q.cookies ≡ jar (pairs q)
  pub origin : OriginHeaderIn q.origin
  pub referrer : ReferrerIn q.referrer
  pub body : ValueIn q.body.0

abbrev pub MessageIn : Message → Type 0
MessageIn (resolve h n) = HostIn h × NumberIn n.0
MessageIn (unsealed a q) = AddressIn a × RequestIn q
MessageIn (sealed a k q) = AddressIn a × NumberIn k.0 × RequestIn q
