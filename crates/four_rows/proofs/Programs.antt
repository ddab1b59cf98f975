-- Every program of the definitions puts at most four rows into a table, where an item brings at most four cookies.
use mathlib.Core.Path.{◌≡◌, refl}
use mathlib.Core.Bool.{Bool, true, false, cond, not, ◌&&◌}
use mathlib.Core.List.{List, [], ◌∷◌}
use Rattle.std.specs.Prelude.{Option, None as none, Some as some}
use Prim.Native.Nat.{ℕ, ◌+◌, ◌≤◌}
use native.Mathlib.Omega.{arith}
use lib.Dec.{eqb}
use lib.ListN.{length}
use Rattle.sorted.specs.Table.{keep, put, drop}
use Rattle.sorted.proofs.Member.{length_keep}
use Rattle.sorted.proofs.Edits.{adds, adds-puts}
use Rattle.tables.specs.Tables.{Table, cookies, local_storage, session_storage, inputs, pending_dns, pending_requests, sts, Row, Key, is_secure, Tables}
use Rattle.tables.specs.Rows.{same_origin, origin_of, same_host}
use Rattle.wim.specs.Nouns.{WindowNumber, Url, Host, Protocol, Plain, Secure, Cookie, HostCookie, Origin, Stored, Sending, Reference, Req, Xhr, Matching, Target, NewWindow, Existing, Holder, Itself, Within, Addressee, Command, Nothing, Href, Iframe, Form, SetScript, SetScriptState, XmlHttpRequest, Back, Forward, Close, PostMessage, Method, Data, Output, Answer, Body, Number, Page, DnsAnswer, Address, Event, RunScript, Urlbar, Reload, GoForward, GoBack, CloseCorrupt, EncryptedAnswer, PlainAnswer, DnsResolved, Item, Full, Document, Question, Waiting, Unknown, Missing, Mismatch, NoWindow, NoDocument}
use Rattle.wim.specs.Cookies.{named, latest, guarded, allowed, bad_prefix, cookie_merge, row_for, store_all, add_cookies}
use Rattle.wim.specs.Program.{Program, ask, active, needs, stop_if, refuse_unless, refused}
use Rattle.wim.specs.Sending.{send}
use Rattle.wim.specs.History.{moved, nav_back, nav_forward}
use Rattle.wim.specs.Script.{store_local, store_session, store, otherwise, href, iframe_in, iframe, is_form_method, form, setting, is_forbidden, url_origin, xhr, close, is_for, deliver, post_message, command, run_script}
use Rattle.wim.specs.Response.{strict_host, act_on_headers, where_to, Course, followed, loaded, handed, nothing_more, window_course, script_course, course_of, takes, process_response}
use Rattle.wim.specs.Main.{sending_to, urlbar, reload, forward, back, close_corrupt, encrypted_answer, plain_answer, go_out, resolved, cookies_in, program}
use Rattle.wim.specs.Step.{fresh_labels, step_tables}
use Rattle.four_rows.proofs.Adds.{on, Adds, four, Roomy, never-full}

-- WHERE A PROGRAM MAY REFUSE.
module _ (n : Table → ℕ) where
  after-needs : {A : Type 0} (m : Missing) (o : Option A) (k : A → Program) → ((x : A) → Adds n (k x)) → Adds n (needs m o k)
  after-needs m none k h = refl
  after-needs m (some x) k h = h x

  after-unless : (c : Bool) (m : Missing) (p : Program) → Adds n p → Adds n (refuse_unless c m p)
  after-unless true m p h = h
  after-unless false m p h = refl

  after_stop : (c : Bool) (p : Program) → Adds n p → Adds n (stop_if c p)
  after_stop true p h = refl
  after_stop false p h = h

-- COOKIES.
pub stored-few : (h : Host) (cs : List Cookie) → length cs ≤ 4 → adds (store_all h cs) ≤ 4
stored-few h cs l = let z = adds-puts (Key cookies) (row_for h) cs in omega arith

length_latest : (cs : List Cookie) → length (latest cs) ≤ length cs
length_latest [] = omega arith
length_latest (c ∷ cs) = go (named c.name cs) (length_latest cs)
  where
    go : (x : Bool) → length (latest cs) ≤ length cs → length (cond x (latest cs) (c ∷ latest cs)) ≤ length (c ∷ cs)
    go true h = omega arith
    go false h = omega arith

pub merged_few : (old : List HostCookie) (new : List Cookie) (p : Protocol) → length new ≤ 4 → length (cookie_merge old new p) ≤ 4
unfolding cookie_merge
merged_few old new p h =
    let x = length_keep (allowed p) new in
    let y = length_latest (keep (allowed p) new) in
    let z = length_keep (λ (c : Cookie). not (guarded old c)) (latest (keep (allowed p) new)) in
    omega arith

pub added-few : (h : Host) (cs : List Cookie) (p : Protocol) → length cs ≤ 4 → adds (add_cookies h cs p) ≤ 4
unfolding add_cookies
added-few h cs p l = let x = length_keep (λ (c : Cookie). not (bad_prefix p c)) cs in stored-few h (keep (λ (c : Cookie). not (bad_prefix p c)) cs) (omega arith)

pub local-few : (o : Origin) (v : Stored) → adds (store_local o v) ≤ 1
local-few o v = go (eqb v.0 0)
  where
    go : (c : Bool) → adds {R = Row local_storage} {K = Key local_storage} (cond c (drop (o.host.0, is_secure o.protocol) ∷ []) (put (record { origin = o; value = v }) ∷ [])) ≤ 1
    go true = omega arith
    go false = omega arith

pub session-few : (o : Origin) (top : WindowNumber) (v : Stored) → adds (store_session o top v) ≤ 1
session-few o top v = go (eqb v.0 0)
  where
    go : (c : Bool) → adds {R = Row session_storage} {K = Key session_storage} (cond c (drop (o.host.0, (is_secure o.protocol, top.0)) ∷ []) (put (record { origin = o; top = top; value = v }) ∷ [])) ≤ 1
    go true = omega arith
    go false = omega arith

pub strict-few : (w : Waiting) (a : Answer) → adds (strict_host w a) ≤ 1
strict-few w a = go a.strict (is_secure w.url.protocol)
  where
    go : (x y : Bool) → adds {R = Row sts} {K = Key sts} (cond (x && y) (put (record { host = w.request.host }) ∷ []) []) ≤ 1
    go true true = omega arith
    go true false = omega arith
    go false y = omega arith

-- SHARED PARTS. What is left to show is that of what follows.
adds-send : (n : Table → ℕ) (o : Sending) → ((t : Table) → n t + on pending_dns 1 t ≤ 4) → Adds n (send o)
unfolding send
adds-send n o h = λ sts chosen q x. (1, omega arith, h)

abbrev pub after_storing : (Table → ℕ) → Table → ℕ
after_storing n u = ((n u + on cookies 4 u) + on local_storage 1 u) + on session_storage 1 u

adds-store : (n : Table → ℕ) (d : Document) (top : WindowNumber) (merged : List Cookie) (out : Output) (p : Program) → length merged ≤ 4 → Adds (after_storing n) p → Adds n (store d top merged out p)
adds-store n d top merged out p l h = (4, stored-few d.location.host merged l, (1, local-few (origin_of d) out.local, (1, session-few (origin_of d) top out.session, h)))

abbrev pub acting : (Table → ℕ) → Table → ℕ
acting n u = ((n u + on pending_requests 0 u) + on cookies 4 u) + on sts 1 u

adds_headers : (n : Table → ℕ) (w : Waiting) (a : Answer) (new : List Cookie) (p : Program) → length new ≤ 4 → Adds (acting n) p → Adds n (act_on_headers w a new p)
adds_headers n w a new p l h = (0, omega arith, (4, added-few w.request.host new w.url.protocol l, (1, strict-few w a, h)))

abbrev pub none_yet : Table → ℕ
none_yet t = 0

-- WHAT A STEP STORES before it goes on, a trigger nothing: `storing`, which leaves the budget `n`.
module _ (n : Table → ℕ) (storing : Program → Program) (leaves : (p : Program) → Adds n p → Adds none_yet (storing p)) where
  adds-moved : (v : WindowNumber) (ds : List Document) (o : Option Document) → ((t : Table) → (n t + on pending_requests 0 t) + on pending_dns 0 t ≤ 4) → Adds none_yet (moved v storing ds o)
  unfolding moved
  adds-moved v ds none h = refl
  adds-moved v ds (some e) h = leaves _ (0, omega arith, (0, omega arith, h))

  adds-back : (v : WindowNumber) → ((t : Table) → (n t + on pending_requests 0 t) + on pending_dns 0 t ≤ 4) → Adds none_yet (nav_back v storing)
  unfolding nav_back
  adds-back v h = λ ds. adds-moved v ds _ h

  adds-forward : (v : WindowNumber) → ((t : Table) → (n t + on pending_requests 0 t) + on pending_dns 0 t ≤ 4) → Adds none_yet (nav_forward v storing)
  unfolding nav_forward
  adds-forward v h = λ ds. adds-moved v ds _ h

abbrev stored : Table → ℕ
stored = after_storing none_yet

-- SCRIPTS.
module _ (w : WindowNumber) (d : Document) (storing : Program → Program) (leaves : (p : Program) → Adds stored p → Adds none_yet (storing p)) where
  adds-href : (url : Url) (noreferrer : Bool) (target : Target) → Adds none_yet (href w d storing url noreferrer target)
  unfolding href
  adds-href url noreferrer NewWindow = leaves _ (λ v. (1, omega arith, (0, omega arith, (0, omega arith, adds-send _ _ (four _ refl)))))
  adds-href url noreferrer (Existing x) = λ v. leaves _ (0, omega arith, (0, omega arith, adds-send _ _ (four _ refl)))

  adds-iframe_in : (url : Url) (holder : Document) → Adds none_yet (iframe_in d storing url holder)
  adds-iframe_in url holder = leaves _ (λ v. (1, omega arith, adds-send _ _ (four _ refl)))

  adds-iframe : (url : Url) (holder : Holder) → Adds none_yet (iframe d storing url holder)
  unfolding iframe
  adds-iframe url Itself = adds-iframe_in url d
  adds-iframe url (Within x) = λ found. adds-iframe_in url (otherwise d found)

  adds-form : (url : Url) (method : Method) (data' : Data) (target : Target) → Adds none_yet (form w d storing url method data' target)
  unfolding form
  adds-form url method data' NewWindow = after_stop none_yet (not (is_form_method method)) _ (leaves _ (λ v. (1, omega arith, (0, omega arith, (0, omega arith, adds-send _ _ (four _ refl))))))
  adds-form url method data' (Existing x) = after_stop none_yet (not (is_form_method method)) _ (λ v. leaves _ (0, omega arith, (0, omega arith, adds-send _ _ (four _ refl))))

  adds-setting : (x : WindowNumber) (f : Document → Document) → Adds none_yet (setting d storing x f)
  unfolding setting
  adds-setting x f = λ found. leaves _ (four _ refl)

  adds-xhr : (url : Url) (method : Method) (data' : Data) (reference : Reference) → Adds none_yet (xhr d storing url method data' reference)
  unfolding xhr
  adds-xhr url method data' reference =
      after_stop none_yet (is_forbidden method) _ (after_stop none_yet (not (same_origin (url_origin url) (origin_of d))) _ (leaves _ (adds-send _ _ (four _ refl))))

  adds-close : (x : WindowNumber) → Adds none_yet (close w d storing x)
  unfolding close
  adds-close x = λ v ds gone. leaves _ (0, omega arith, (0, omega arith, (0, omega arith, four _ refl)))

  adds-deliver : (message : ℕ) (to : Addressee) (o : Option Document) → Adds none_yet (deliver w d storing message to o)
  unfolding deliver
  adds-deliver message to none = leaves _ (four _ refl)
  adds-deliver message to (some e) = λ earlier. leaves _ (1, filed (is_for to e) _, four _ refl)
    where
      filed : (c : Bool) (i : Row inputs) → adds {R = Row inputs} {K = Key inputs} (cond c (put i ∷ []) []) ≤ 1
      filed true i = omega arith
      filed false i = omega arith

  adds_post : (x : WindowNumber) (message : ℕ) (to : Addressee) → Adds none_yet (post_message w d storing x message to)
  unfolding post_message
  adds_post x message to = λ found. after-needs none_yet _ found _ (λ top target. adds-deliver message to target)

  adds-command : (c : Command) → Adds none_yet (command w d storing c)
  unfolding command
  adds-command Nothing = leaves _ (four _ refl)
  adds-command (Href url target noreferrer) = adds-href url noreferrer target
  adds-command (Iframe url holder) = adds-iframe url holder
  adds-command (Form url method data' target) = adds-form url method data' target
  adds-command (SetScript x script) = adds-setting x _
  adds-command (SetScriptState x state) = adds-setting x _
  adds-command (XmlHttpRequest url method data' matching) = adds-xhr url method data' _
  adds-command (Back x) = λ v. adds-back stored storing leaves v (four _ refl)
  adds-command (Forward x) = λ v. adds-forward stored storing leaves v (four _ refl)
  adds-command (Close x) = adds-close x
  adds-command (PostMessage x message to) = adds_post x message to

adds-script : (w : WindowNumber) (out : Output) (new : List Cookie) → length new ≤ 4 → Adds none_yet (run_script w out new)
unfolding run_script
adds-script w out new l =
    λ found. after-needs none_yet _ found _ (λ top current. after-needs none_yet _ current _ (λ d old. adds-command w d (store d top (cookie_merge old new d.location.protocol) out)
    (λ p h. adds-store none_yet d top (cookie_merge old new d.location.protocol) out p (merged_few old new d.location.protocol l) h) out.command))

-- ANSWERS. Whatever course an answer takes, it is within the budget that the headers leave.
adds-takes : (c : Course) (w : Waiting) (a : Answer) → Adds (acting none_yet) (takes c w a)
unfolding takes
adds-takes (followed u) w a = adds-send _ _ (four _ refl)
adds-takes (loaded v ds gone script state) w a = λ n. (0, omega arith, (0, omega arith, (0, omega arith, (1, omega arith, four _ refl))))
adds-takes (handed d earlier matching) w a = (1, omega arith, four _ refl)
adds-takes nothing_more w a = four _ refl

module _ (go : Course → Program) (h : (c : Course) → Adds none_yet (go c)) where
  adds-window-course : (v : WindowNumber) (found : Option WindowNumber) (to : Option Url) (body : Body) → Adds none_yet (window_course v found to body go)
  unfolding window_course
  adds-window-course v none to body = h nothing_more
  adds-window-course v (some top) (some u) body = h (followed u)
  adds-window-course v (some top) none (Number m) = h nothing_more
  adds-window-course v (some top) none (Page script state) = λ ds gone. h (loaded v ds gone script state)

  adds-script-course : (matching : Matching) (to : Option Url) (found : Option Document) → Adds none_yet (script_course matching to found go)
  unfolding script_course
  adds-script-course matching (some u) found = h nothing_more
  adds-script-course matching none none = h nothing_more
  adds-script-course matching none (some d) = λ earlier. h (handed d earlier matching)

  adds-course : (r : Reference) (a : Answer) → Adds none_yet (course_of r a go)
  unfolding course_of
  adds-course (Req v) a = λ found. adds-window-course v found (where_to a.status a.location) a.body
  adds-course (Xhr n matching) a = λ found. adds-script-course matching (where_to a.status a.location) found

adds_response : (w : Waiting) (a : Answer) (new : List Cookie) → length new ≤ 4 → (r : Reference) → Adds none_yet (process_response r w a new)
unfolding process_response
adds_response w a new l r = adds-course _ (λ c. adds_headers none_yet w a new (takes c w a) l (adds-takes c w a)) r a

-- DNS.
adds-out : (p : Protocol) (q : Question) (address : Address) → Adds none_yet (go_out p q address)
unfolding go_out
adds-out Plain q address = (1, omega arith, (0, omega arith, four _ refl))
adds-out Secure q address = λ k. (1, omega arith, (0, omega arith, four _ refl))

adds-resolved : (a : DnsAnswer) (o : Option Question) → Adds none_yet (resolved a o)
unfolding resolved
adds-resolved a o = after-needs none_yet _ o _ (λ q. after-unless none_yet (same_host a.host q.request.host) Mismatch (go_out q.url.protocol q a.address) (adds-out q.url.protocol q a.address))

-- TRIGGERS.
adds-urlbar : (url : Url) (target : Target) → Adds none_yet (urlbar url target)
unfolding urlbar
adds-urlbar url NewWindow = λ w. (1, omega arith, adds-send _ _ (four _ refl))
adds-urlbar url (Existing w) = λ found. after-unless none_yet found NoWindow (ask (active w) (λ current. needs NoDocument current (λ d. send (sending_to (Req w) url Unknown)))) (λ current. after-needs none_yet _ current _ (λ d. adds-send _ _ (four _ refl)))

adds-reload : (w : WindowNumber) → Adds none_yet (reload w)
unfolding reload
adds-reload w = λ found. after-needs none_yet _ found _ (λ top current. after-needs none_yet _ current _ (λ d. (0, omega arith, (0, omega arith, adds-send _ _ (four _ refl)))))

pub adds-goes-back : (w : WindowNumber) → Adds none_yet (back w)
unfolding back
adds-goes-back w = λ found. after-needs none_yet _ found _ (λ top current. after-needs none_yet _ current _ (λ d. adds-back none_yet (λ p. p) (λ p h. h) w (four _ refl)))

pub adds-goes-forward : (w : WindowNumber) → Adds none_yet (forward w)
unfolding forward
adds-goes-forward w = λ found. after-needs none_yet _ found _ (λ top current. after-needs none_yet _ current _ (λ d. adds-forward none_yet (λ p. p) (λ p h. h) w (four _ refl)))

adds_closing : Adds none_yet close_corrupt
unfolding close_corrupt
adds_closing = (0, omega arith, (0, omega arith, (0, omega arith, (0, omega arith, (0, omega arith, (0, omega arith, (0, omega arith, four _ refl)))))))

-- EVERY EVENT.
pub adds_four : (e : Event) (new : List Cookie) → length new ≤ 4 → Adds none_yet (program e new)
unfolding program encrypted_answer plain_answer
adds_four (RunScript w out) new l = adds-script w out new l
adds_four (Urlbar target url) new l = adds-urlbar url target
adds_four (Reload w) new l = adds-reload w
adds_four (GoForward w) new l = adds-goes-forward w
adds_four (GoBack w) new l = adds-goes-back w
adds_four CloseCorrupt new l = adds_closing
adds_four (EncryptedAnswer k a) new l = λ found. after-needs none_yet _ found _ (λ w. after-unless none_yet (eqb a.number.0 w.request.number.0) Mismatch (process_response w.reference w a new) (adds_response w a new l w.reference))
adds_four (PlainAnswer a) new l = λ found. after-needs none_yet _ found _ (λ w. adds_response w a new l w.reference)
adds_four (DnsResolved a) new l = λ o. adds-resolved a o

-- A STEP of an item with at most four cookies is not refused with 6 where every table has four free rows.
pub step-never-full : (i : Item) → length (cookies_in i.cookies) ≤ 4 → (b : Tables) → Roomy b → step_tables i b ≡ refused Full → ⊥
unfolding step_tables
step-never-full i l b r = never-full (program i.event (cookies_in i.cookies)) (adds_four i.event (cookies_in i.cookies) l) b r (fresh_labels i.fresh)
