-- HTTP answers and DNS answers are ranged: Algorithm 8, and A9:55 to 74.
use mathlib.Core.Bool.{Bool, true, false, cond, not, ◌&&◌, ◌||◌}
use mathlib.Core.List.{List, [], ◌∷◌}
use Rattle.std.specs.Prelude.{Option, None as none, Some as some}
use native.Mathlib.Omega.{arith}
use lib.Dec.{eqb}
use Rattle.sorted.specs.Table.{keep, All, put}
use Rattle.tables.specs.Tables.{documents, cookies, inputs, pending_dns, pending_requests, sts, is_secure}
use Rattle.tables.specs.Labels.{document, key}
use Rattle.tables.specs.Rows.{same_origin, same_host}
use Rattle.shapes.specs.Ranges.{ValueIn, AddressIn, FragmentIn, UrlIn, CookieIn, MatchingIn, LocationIn, BodyIn, AnswerIn, DnsAnswerIn, OriginHeaderIn}
use Rattle.wim.specs.Nouns.{WindowNumber, Address, Protocol, Plain, Secure, Url, Fragment, Absent, Named, Cookie, OriginHeader, Unsent, Null, From, Matching, Reference, Req, Xhr, Seal, Keyless, Keyed, Status, Location, Nowhere, To, Body, Number, Page, Answer, DnsAnswer, Answered, Document, Question, Waiting, NoQuestion, NoRequest, Mismatch}
use Rattle.wim.specs.Walks.{active_among}
use Rattle.wim.specs.Cookies.{bad_prefix, add_cookies}
use Rattle.wim.specs.Program.{Program, reached, history, listening, arrived, under}
use Rattle.wim.specs.History.{place_of}
use Rattle.wim.specs.Script.{no_data, url_origin}
use Rattle.wim.specs.Response.{strict_host, act_on_headers, is_redirect, where_to, inheriting, with_fragment_of, asked_origin, origin_after, turns_to_get, redirection, Course, followed, loaded, handed, nothing_more, window_course, script_course, course_of, takes, process_response}
use Rattle.wim.specs.Main.{encrypted_answer, plain_answer, waiting_of, go_out, resolved}
use Rattle.wim.specs.Ranges.{DocumentIn, ReferenceIn, SealIn, QuestionIn, WaitingIn}
use Rattle.shapes.proofs.Ranges.{WindowNumberIn, none_between}
use Rattle.ranges.proofs.Ranged.{Held, PutsIn, Ranged, ranged_done, ranged_ask, ranged_bring, ranged_edit, ranged_revise, ranged_needs, ranged_unless}
use Rattle.ranges.proofs.Shared.{SendingIn, ranged_send, ranged_remove, stays-active, stored_in}
use Rattle.ranges.proofs.Scripts.{kept_in, filed_in}

-- WHERE AN ANSWER REDIRECTS TO.
where_in : (s : Status) (l : Location) → LocationIn l → Held UrlIn (where_to s l)
where_in s Nowhere i = tt
where_in s (To u) i = go (is_redirect s)
  where
    go : (c : Bool) → Held UrlIn (cond c (some u) none)
    go true = i
    go false = tt

inheriting_in : (old new : Fragment) → FragmentIn old → FragmentIn new → FragmentIn (inheriting old new)
inheriting_in old Absent i j = i
inheriting_in old (Named f) i j = j

-- THE COURSE OF AN ANSWER.
abbrev CourseIn : Course → Type 0
CourseIn (followed u) = UrlIn u
CourseIn (loaded v ds gone script state) = WindowNumberIn v × ValueIn script.0 × ValueIn state.0
CourseIn (handed d earlier matching) = DocumentIn d × MatchingIn matching
CourseIn nothing_more = Unit {0}

module _ (go : Course → Program) (g : (c : Course) → CourseIn c → Ranged (go c)) where
  ranged-window_course : (v : WindowNumber) → WindowNumberIn v → (found : Option WindowNumber) (to : Option Url) → Held UrlIn to → (body : Body) → BodyIn body → Ranged (window_course v found to body go)
  unfolding window_course
  ranged-window_course v i none to t body b = g nothing_more tt
  ranged-window_course v i (some top) (some u) t body b = g (followed u) t
  ranged-window_course v i (some top) none t (Number m) b = g nothing_more tt
  ranged-window_course v i (some top) none t (Page script state) b =
      ranged_ask (history v) _ (λ ds _. ranged_ask (under _) _ (λ gone _. g (loaded v ds gone script state) (i, b.0, b.1)))

  ranged-script_course : (matching : Matching) → MatchingIn matching → (to : Option Url) (found : Option Document) → Held DocumentIn found → Ranged (script_course matching to found go)
  unfolding script_course
  ranged-script_course matching m (some u) found f = g nothing_more tt
  ranged-script_course matching m none none f = g nothing_more tt
  ranged-script_course matching m none (some d) f = ranged_ask (arrived d.number) _ (λ earlier _. g (handed d earlier matching) (f, m))

  ranged_course : (r : Reference) (a : Answer) → ReferenceIn r → AnswerIn a → Ranged (course_of r a go)
  unfolding course_of
  ranged_course (Req v) a r i = ranged_ask (reached v) _ (λ found _. ranged-window_course v r found (where_to a.status a.location) (where_in a.status a.location i.location) a.body i.body)
  ranged_course (Xhr n matching) a r i = ranged_ask (listening n) _ (λ found f. ranged-script_course matching r.1 (where_to a.status a.location) found f)

-- PROCESSRESPONSE, for a waiting request and an answer in range.
module _ (w : Waiting) (wi : WaitingIn w) (a : Answer) (ai : AnswerIn a) where
  after_in : (u : Url) (o : OriginHeader) → OriginHeaderIn o → OriginHeaderIn (origin_after u w o)
  after_in u Unsent i = tt
  after_in u Null i = tt
  after_in u (From o) i = go (same_origin (url_origin u) (asked_origin w) || same_origin (asked_origin w) o)
    where
      go : (c : Bool) → OriginHeaderIn (cond c (From o) Null)
      go true = i
      go false = tt

  redirection_in : (u : Url) → UrlIn u → SendingIn (redirection (with_fragment_of w.url u) w a)
  redirection_in u i = record {
    reference = wi.reference;
    url = record { host = i.host; path = i.path; parameters = i.parameters; fragment = inheriting_in w.url.fragment u.fragment wi.url.fragment i.fragment };
    parameters = i.parameters;
    body = go (turns_to_get a.status w.request.method);
    origin = after_in (with_fragment_of w.url u) w.request.origin wi.request.origin;
    referrer = wi.request.referrer;
  }
    where
      go : (c : Bool) → ValueIn (cond c no_data w.request.body).0
      go true = none_between _
      go false = wi.request.body

  strict_in : PutsIn sts (strict_host w a)
  strict_in = go (a.strict && is_secure w.url.protocol)
    where
      go : (c : Bool) → PutsIn sts (cond c (put (record { host = w.request.host }) ∷ []) [])
      go true = (record { host = wi.request.host }, tt)
      go false = tt

  added_in : (new : List Cookie) → All CookieIn new → PutsIn cookies (add_cookies w.request.host new w.url.protocol)
  unfolding add_cookies
  added_in new c =
      let good : Cookie → Bool = λ x. not (bad_prefix w.url.protocol x) in
      stored_in w.request.host wi.request.host (keep good new) (kept_in CookieIn good new c)

  ranged_headers : (new : List Cookie) → All CookieIn new → (p : Program) → Ranged p → Ranged (act_on_headers w a new p)
  ranged_headers new c p g = ranged_edit pending_requests _ _ tt (ranged_edit cookies _ _ (added_in new c) (ranged_edit sts _ p strict_in g))

  ranged_takes : (c : Course) → CourseIn c → Ranged (takes c w a)
  unfolding takes
  ranged_takes (followed u) i = ranged_send _ (redirection_in u i)
  ranged_takes (loaded v ds gone script state) i =
      ranged_bring document _ (λ n k.
      ranged_remove gone _
      (ranged_revise documents _ _ (stays-active v (place_of (active_among ds)) false)
      (ranged_edit documents _ _ (record { window = i.0; place = omega arith; number = k; location = wi.url; referrer = wi.request.referrer; script = i.1; state = i.2 }, tt)
      (ranged_done none tt))))
  ranged_takes (handed d earlier matching) i = ranged_edit inputs _ _ (filed_in d i.0 earlier (Answered matching a.body) (i.1, ai.body)) (ranged_done none tt)
  ranged_takes nothing_more i = ranged_done none tt

  pub ranged_response : (new : List Cookie) → All CookieIn new → Ranged (process_response w.reference w a new)
  unfolding process_response
  ranged_response new c = ranged_course _ (λ k i. ranged_headers new c (takes k w a) (ranged_takes k i)) w.reference a wi.reference ai

pub ranged_encrypted : (a : Answer) → AnswerIn a → (new : List Cookie) → All CookieIn new → (found : Option Waiting) → Held WaitingIn found → Ranged (encrypted_answer a new found)
unfolding encrypted_answer
ranged_encrypted a i new c found h =
    ranged_needs WaitingIn NoRequest found _ h (λ w wi. ranged_unless (eqb a.number.0 w.request.number.0) Mismatch _ (ranged_response w wi a i new c))

pub ranged_plain : (a : Answer) → AnswerIn a → (new : List Cookie) → All CookieIn new → (found : Option Waiting) → Held WaitingIn found → Ranged (plain_answer a new found)
unfolding plain_answer
ranged_plain a i new c found h = ranged_needs WaitingIn NoRequest found _ h (λ w wi. ranged_response w wi a i new c)

-- DNS
waiting_in : (q : Question) → QuestionIn q → (seal : Seal) → SealIn seal → (address : Address) → AddressIn address → WaitingIn (waiting_of q seal address)
waiting_in q i seal s address a = record { reference = i.reference; request = i.request; url = i.url; seal = s; address = a }

ranged_out : (p : Protocol) (q : Question) → QuestionIn q → (address : Address) → AddressIn address → Ranged (go_out p q address)
unfolding go_out
ranged_out Plain q i address a = ranged_edit pending_requests _ _ (waiting_in q i Keyless tt address a, tt) (ranged_edit pending_dns _ _ tt (ranged_done _ (a, i.request)))
ranged_out Secure q i address a =
    ranged_bring key _ (λ k j. ranged_edit pending_requests _ _ (waiting_in q i (Keyed (record { 0 = k })) j address a, tt) (ranged_edit pending_dns _ _ tt (ranged_done _ (a, j, i.request))))

pub ranged_resolved : (a : DnsAnswer) → DnsAnswerIn a → (found : Option Question) → Held QuestionIn found → Ranged (resolved a found)
unfolding resolved
ranged_resolved a i found h =
    ranged_needs QuestionIn NoQuestion found _ h (λ q qi. ranged_unless (same_host a.host q.request.host) Mismatch _ (ranged_out q.url.protocol q qi a.address i.address))
