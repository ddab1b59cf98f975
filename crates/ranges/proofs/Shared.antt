-- The programs that others call are ranged: HTTP_SEND, CANCELNAV, NAVBACK, NAVFORWARD, what every script stores, what goes with a document.
use mathlib.Core.Path.{◌≡◌, refl, sym, ap, subst}
use mathlib.Core.Logic.{inl, inr}
use mathlib.Core.Bool.{Bool, true, false, cond, ◌&&◌}
use mathlib.Core.List.{List, [], ◌∷◌, map}
use Rattle.std.specs.Prelude.{Option, None as none, Some as some}
use Prim.Native.Nat.{ℕ, ◌≤◌}
use native.Mathlib.Omega.{arith}
use borrow.Author.Tests.{eqb-false}
use lib.Dec.{eqb}
use lib.ListN.{length, take, length-map}
use Rattle.sorted.specs.Table.{keep, In, All, put, drop}
use Rattle.sorted.proofs.Member.{in_keep, length_keep}
use Rattle.sorted.proofs.Count.{take_fill}
use Rattle.tables.specs.Tables.{windows, documents, cookies, local_storage, session_storage, inputs, pending_dns, pending_requests, is_secure, Tables}
use Rattle.tables.specs.Rows.{same_window, same_document, same_host, goes_over, pair_of, blank_pair, jar, origin_of, with_active, with_state, with_script, changing, setting_active}
use Rattle.shapes.specs.Ranges.{HostIn, ValueIn, NumberIn, UrlIn, OriginIn, CookieIn, PairIn, OutputIn, OriginHeaderIn, ReferrerIn, RequestIn}
use Rattle.wim.specs.Nouns.{WindowNumber, DocumentNumber, Host, Url, Origin, Cookie, Pair, Cancelled, Bare, Sending, Referrer, Unknown, Known, Policy, Unset, NoReferrer, OriginOnly, Script, ScriptState, Stored, Output, Document, HostCookie, Stopped}
use Rattle.wim.specs.Walks.{Removal, active_among}
use Rattle.wim.specs.Cookies.{store_all}
use Rattle.wim.specs.Program.{strict, observed, Program, done, history}
use Rattle.wim.specs.Sending.{cancel_nav, secured, referer, request_of, question_of, send}
use Rattle.wim.specs.History.{document_before, document_after, neighbour, place_of, moved, nav_back, nav_forward}
use Rattle.wim.specs.Script.{store_local, store_session, store, remove}
use Rattle.wim.specs.Ranges.{DocumentIn, HostCookieIn, StoredIn, ReferenceIn, QuestionIn}
use Rattle.wim.specs.Invariant.{InRange}
use Rattle.invariant.proofs.Rooted.Walk.{Ends}
use Rattle.shapes.proofs.Ranges.{WindowNumberIn, none_between}
use Rattle.ranges.proofs.Ranged.{PutsIn, edited_in, After, Brought, Ranged, ranged_done, ranged_refuse, ranged_ask, ranged_edit, ranged_revise}

-- HTTP_SEND.
pub record SendingIn (o : Sending) : Type 0 where
  pub reference : ReferenceIn o.reference
  pub url : UrlIn o.url
  pub parameters : ValueIn o.parameters.0
  pub body : ValueIn o.body.0
  pub origin : OriginHeaderIn o.origin
  pub referrer : ReferrerIn o.referrer

referer_in : (p : Policy) (r : Referrer) → ReferrerIn r → ReferrerIn (referer p r)
referer_in Unset Unknown i = tt
referer_in Unset (Known u) i = record { host = i.host; path = i.path; parameters = i.parameters; fragment = tt }
referer_in NoReferrer r i = tt
referer_in OriginOnly Unknown i = tt
referer_in OriginOnly (Known u) i = record { host = i.host; path = none_between _; parameters = none_between _; fragment = tt }

pairs-in : (l : List HostCookie) → ((r : HostCookie) → In r l → HostCookieIn r) → All PairIn (map pair_of l)
pairs-in [] h = tt
pairs-in (r ∷ l) h = (record { name = (h r (inl refl)).cookie.name; value = (h r (inl refl)).cookie.value }, pairs-in l (λ x i. h x (inr i)))

request_in : (o : Sending) → SendingIn o → (ps : List Pair) → length ps ≤ 64 → All PairIn ps → (n : ℕ) → NumberIn n → RequestIn (request_of o (jar ps) n)
unfolding jar
request_in o i ps few each n k =
    let e : take (length ps) (jar ps).rows ≡ ps = take_fill blank_pair 64 ps few in
    record {
      number = k;
      host = i.url.host;
      path = i.url.path;
      parameters = i.parameters;
      few = subst (λ (l : List Pair). length l ≤ 64) (sym e) few;
      each = subst (All PairIn) (sym e) each;
      blank = ap jar (sym e);
      origin = i.origin;
      referrer = referer_in o.policy o.referrer i.referrer;
      body = i.body;
    }

-- the address is turned to S for an STS host
question_in : (o : Sending) → SendingIn o → (ps : List Pair) → length ps ≤ 64 → All PairIn ps → (q n : ℕ) → NumberIn q → NumberIn n → (sts : Bool)
    → QuestionIn (question_of o (cond sts (secured o.url) o.url) (jar ps) q n)
question_in o i ps few each q n j k true = record {
  number = k;
  reference = i.reference;
  request = request_in o i ps few each q j;
  url = record { host = i.url.host; path = i.url.path; parameters = i.url.parameters; fragment = i.url.fragment };
}
question_in o i ps few each q n j k false = record { number = k; reference = i.reference; request = request_in o i ps few each q j; url = i.url }

-- the cookies chosen are no more than the table has rows for, as it stands at the end
pub ranged_send : (o : Sending) → SendingIn o → Ranged (send o)
unfolding send observed
ranged_send o i = record { ends = ends }
  where
    ends : (b : Tables) → InRange b → Ends After Brought (send o) b
    ends b I q j n k sizes =
        let sts : Bool = observed (strict o.url.host) b in
        let url : Url = cond sts (secured o.url) o.url in
        let goes : HostCookie → Bool = λ r. same_host r.host o.url.host && goes_over url.protocol r.cookie in
        let ps : List Pair = map pair_of (keep goes (b cookies)) in
        let all : length (b cookies) ≤ 64 = sizes cookies in
        let kept = length_keep goes (b cookies) in
        let same = length-map (keep goes (b cookies)) pair_of in
        let each = pairs-in (keep goes (b cookies)) (λ r x. I.rows cookies r (in_keep goes (b cookies) r x).0) in
        (edited_in pending_dns (put (question_of o url (jar ps) q n) ∷ []) b (question_in o i ps (omega arith) each q n j k sts, tt) I, (i.url.host, k))

-- CANCELNAV, and what goes with documents: rows are taken away.
pub ranged_cancel : (c : Cancelled) (p : Program) → Ranged p → Ranged (cancel_nav c p)
ranged_cancel c p g = ranged_edit pending_requests _ _ tt (ranged_edit pending_dns _ p tt g)

pub ranged_remove : (gone : Removal) (p : Program) → Ranged p → Ranged (remove gone p)
ranged_remove gone p g = ranged_edit windows _ _ tt (ranged_edit documents _ _ tt (ranged_edit inputs _ p tt g))

-- DOCUMENTS CHANGED stay in range.
abbrev pub Stays : (Document → Document) → Type 0
Stays f = (d : Document) → DocumentIn d → DocumentIn (f d)

stays_where : (p : Document → Bool) (f : Document → Document) → Stays f → Stays (λ d. cond (p d) (f d) d)
stays_where p f h d i = go (p d)
  where
    go : (c : Bool) → DocumentIn (cond c (f d) d)
    go true = h d i
    go false = i

pub stays-changing : (n : DocumentNumber) (f : Document → Document) → Stays f → Stays (changing n f)
stays-changing n f h = stays_where (λ d. same_document d.number n) f h

pub stays-state : (s : ScriptState) → ValueIn s.0 → Stays (with_state s)
stays-state s v d i = record { window = i.window; place = i.place; number = i.number; location = i.location; referrer = i.referrer; script = i.script; state = v }

pub stays-script : (s : Script) → ValueIn s.0 → Stays (with_script s)
stays-script s v d i = record { window = i.window; place = i.place; number = i.number; location = i.location; referrer = i.referrer; script = v; state = i.state }

pub stays-active : (w : WindowNumber) (place : ℕ) (t : Bool) → Stays (setting_active w place t)
stays-active w place t = stays_where (λ d. same_window d.window w && eqb d.place place) (with_active t)
    (λ d i. record { window = i.window; place = i.place; number = i.number; location = i.location; referrer = i.referrer; script = i.script; state = i.state })

-- WHAT A SCRIPT STORES.
pub stored_in : (h : Host) → HostIn h → (cs : List Cookie) → All CookieIn cs → PutsIn cookies (store_all h cs)
stored_in h i [] c = tt
stored_in h i (x ∷ cs) c = (record { host = i; cookie = c.0 }, stored_in h i cs c.1)

-- a value other than 0
not_none : (v : Stored) → ValueIn v.0 → eqb v.0 0 ≡ false → StoredIn v
not_none v i e = let z : v.0 ≡ 0 → ⊥ = eqb-false v.0 0 e in record { low = omega arith; high = i.high }

local-in : (o : Origin) (v : Stored) → OriginIn o → ValueIn v.0 → PutsIn local_storage (store_local o v)
local-in o v i j = go (eqb v.0 0) refl
  where
    go : (c : Bool) → eqb v.0 0 ≡ c → PutsIn local_storage (cond c (drop (o.host.0, is_secure o.protocol) ∷ []) (put (record { origin = o; value = v }) ∷ []))
    go true e = tt
    go false e = (record { origin = i; value = not_none v j e }, tt)

session-in : (o : Origin) (top : WindowNumber) (v : Stored) → OriginIn o → WindowNumberIn top → ValueIn v.0 → PutsIn session_storage (store_session o top v)
session-in o top v i t j = go (eqb v.0 0) refl
  where
    go : (c : Bool) → eqb v.0 0 ≡ c → PutsIn session_storage (cond c (drop (o.host.0, (is_secure o.protocol, top.0)) ∷ []) (put (record { origin = o; top = top; value = v }) ∷ []))
    go true e = tt
    go false e = (record { origin = i; top = t; value = not_none v j e }, tt)

pub ranged_store : (d : Document) (top : WindowNumber) (merged : List Cookie) (out : Output) → DocumentIn d → WindowNumberIn top → All CookieIn merged → OutputIn out
    → (p : Program) → Ranged p → Ranged (store d top merged out p)
ranged_store d top merged out i t c o p g =
    ranged_edit cookies _ _ (stored_in d.location.host i.location.host merged c)
    (ranged_edit local_storage _ _ (local-in (origin_of d) out.local i.location.host o.local)
    (ranged_edit session_storage _ _ (session-in (origin_of d) top out.session i.location.host t o.session)
    (ranged_revise documents _ p (stays-changing d.number (with_state out.state) (stays-state out.state o.state)) g)))

-- BACK AND FORWARD, behind what a step does first.
abbrev pub Leads : (Program → Program) → Type 0
Leads storing = (p : Program) → Ranged p → Ranged (storing p)

module _ (w : WindowNumber) (storing : Program → Program) (L : Leads storing) where
  ranged_moved : (ds : List Document) (o : Option Document) → Ranged (moved w storing ds o)
  unfolding moved
  ranged_moved ds none = ranged_refuse Stopped
  ranged_moved ds (some e) =
      L _
      (ranged_revise documents _ _ (stays-active w (place_of (active_among ds)) false)
      (ranged_revise documents _ _ (stays-active w e.place true)
      (ranged_cancel (Bare w) (done none) (ranged_done none tt))))

  pub ranged_back : Ranged (nav_back w storing)
  unfolding nav_back
  ranged_back = ranged_ask (history w) _ (λ ds _. ranged_moved ds (neighbour document_before ds (active_among ds)))

  pub ranged_forward : Ranged (nav_forward w storing)
  unfolding nav_forward
  ranged_forward = ranged_ask (history w) _ (λ ds _. ranged_moved ds (neighbour document_after ds (active_among ds)))
