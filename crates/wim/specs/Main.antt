-- 000 Algorithm 9, the main algorithm: a program for each event.
use Rattle.std.specs.Prelude.{false, not, List, [], ◌∷◌, eqb}
use Rattle.std.specs.Prelude.{Option, None as none, Some as some}
pub use Rattle.types.specs.Lists.{cookies_in}
use Rattle.sorted.specs.Table.{put, drop, sift}
use Rattle.tables.specs.Tables.{windows, documents, cookies, session_storage, inputs, pending_dns, pending_requests, key_of}
use Rattle.tables.specs.Labels.{window, key}
use Rattle.shapes.specs.Events.{unsealed, sealed}
use Rattle.tables.specs.Rows.{same_host}
use Rattle.wim.specs.Nouns.{WindowNumber, Address, Protocol, Plain, Secure, Url, Cookie, Get, Unsent, Referrer, Unknown, Unset, Reference, Req, Bare, Sending, Seal, Keyless, Keyed, Target, NewWindow, Existing, Answer, DnsAnswer, Event, RunScript, Urlbar, Reload, GoForward, GoBack, CloseCorrupt, EncryptedAnswer, PlainAnswer, DnsResolved, Nobody, Document, HostCookie, Question, Waiting, NoWindow, NoDocument, NoQuestion, NoRequest, Mismatch}
use Rattle.wim.specs.Program.{Program, ask, edit, bring, done, reached, top_level, active, question, keyless, keyed, needs, refuse_unless, ◌>>=◌, ◌>>◌}
use Rattle.wim.specs.Sending.{cancel_nav, send}
use Rattle.wim.specs.History.{nav_back, nav_forward}
use Rattle.wim.specs.Script.{no_data, new_top_window, run_script}
use Rattle.wim.specs.Response.{process_response}

abbrev pub sending_to : Reference → Url → Referrer → Sending
sending_to reference url referrer = record {
  reference = reference;
  method = Get;
  url = url;
  parameters = url.parameters;
  body = no_data;
  origin = Unsent;
  referrer = referrer;
  policy = Unset;
}

-- 13 to 29: urlbar
unfoldable pub urlbar : Url → Target → Program
urlbar url NewWindow = do
  w ← bring window  -- 16
  edit windows (put (new_top_window (record { 0 = w }) Nobody) ∷ [])  -- 17, 18
  send (sending_to (Req (record { 0 = w })) url Unknown)  -- 28, 29
urlbar url (Existing w) = do
  found ← ask (top_level w)
  refuse_unless found NoWindow  -- 20
  current ← ask (active w)
  d ← needs NoDocument current  -- 20
  send (sending_to (Req w) url Unknown)  -- 21, 28, 29

-- 31, 38, 41: "w ← Subwindows(s') such that s'.w.documents ≠ ⟨⟩ if possible; otherwise stop"
abbrev pub displayed : WindowNumber → (Document → Program) → Program
displayed w k = do
  found ← ask (reached w)
  top ← needs NoWindow found
  current ← ask (active w)
  needs NoDocument current k

-- 30 to 36: reload
unfoldable pub reload : WindowNumber → Program
reload w = do
  d ← displayed w  -- 31
  cancel_nav (Bare w)  -- 35
  send (sending_to (Req w) d.location d.referrer)  -- 32 to 34, 36

-- 37 to 42: forward, back
unfoldable pub forward : WindowNumber → Program
forward w = do
  d ← displayed w  -- 38
  nav_forward w (λ p. p)  -- 39

unfoldable pub back : WindowNumber → Program
back w = do
  d ← displayed w  -- 41
  nav_back w (λ p. p)  -- 42

-- 46 to 54: CLOSECORRUPT. That the browser is closed then (53) is told by `step`.
unfoldable pub close_corrupt : Program
close_corrupt = do
  edit windows (sift (λ r. false) ∷ [])  -- 48, with the documents and inputs in them
  edit documents (sift (λ r. false) ∷ [])
  edit inputs (sift (λ r. false) ∷ [])
  edit pending_dns (sift (λ r. false) ∷ [])  -- 49
  edit pending_requests (sift (λ r. false) ∷ [])  -- 50
  edit session_storage (sift (λ r. false) ∷ [])  -- 51
  edit cookies (sift (λ (r : HostCookie). not r.cookie.session) ∷ [])  -- 52
  done none  -- 54

-- 55 to 60: an encrypted answer is found by its key and must carry the request's number
unfoldable pub encrypted_answer : Answer → List Cookie → Option Waiting → Program
encrypted_answer a new found = do
  w ← needs NoRequest found  -- 55
  refuse_unless (eqb a.number.0 w.request.number.0) Mismatch  -- 57, 58
  process_response w.reference w a new  -- 59, 60

-- 61 to 63: a plain answer is found by its number among the keyless
unfoldable pub plain_answer : Answer → List Cookie → Option Waiting → Program
plain_answer a new found = do
  w ← needs NoRequest found  -- 61
  process_response w.reference w a new  -- 62, 63

-- 64 to 74: a DNS answer
abbrev pub waiting_of : Question → Seal → Address → Waiting
waiting_of q seal address = record { reference = q.reference; request = q.request; url = q.url; seal = seal; address = address }

unfoldable pub go_out : Protocol → Question → Address → Program
go_out Plain q address = do
  edit pending_requests (put (waiting_of q Keyless address) ∷ [])  -- 72
  edit pending_dns (drop (key_of pending_dns q) ∷ [])  -- 73
  done (some (unsealed address q.request))  -- 74
go_out Secure q address = do
  k ← bring key
  edit pending_requests (put (waiting_of q (Keyed (record { 0 = k })) address) ∷ [])  -- 69
  edit pending_dns (drop (key_of pending_dns q) ∷ [])  -- 73
  done (some (sealed address (record { 0 = k }) q.request))  -- 70, 74

unfoldable pub resolved : DnsAnswer → Option Question → Program
resolved a found = do
  q ← needs NoQuestion found  -- 65
  refuse_unless (same_host a.host q.request.host) Mismatch  -- 65
  go_out q.url.protocol q a.address

-- ALGORITHM 9.
unfoldable pub program : Event → List Cookie → Program
program (RunScript w out) new = run_script w out new  -- 9 to 12
program (Urlbar target url) new = urlbar url target
program (Reload w) new = reload w
program (GoForward w) new = forward w
program (GoBack w) new = back w
program CloseCorrupt new = close_corrupt
program (EncryptedAnswer k a) new = ask (keyed k) (encrypted_answer a new)
program (PlainAnswer a) new = ask (keyless a.number) (plain_answer a new)
program (DnsResolved a) new = ask (question a.number) (resolved a)
