-- THE THEOREM: every accepted step, of whatever item, keeps the tables in order, within their sizes, and every number brought once.
use mathlib.Core.Path.{◌≡◌, refl}
use mathlib.Core.Bool.{true}
use mathlib.Core.List.{List}
use Rattle.std.specs.Prelude.{Option, None as none}
use native.Mathlib.Omega.{arith}
use Rattle.sorted.specs.Table.{Sorted}
use Rattle.tables.specs.Tables.{Table, windows, documents, cookies, session_storage, inputs, pending_dns, pending_requests, key_of, cmp, Tables, no_rows}
use Rattle.tables.specs.Labels.{Label}
use Rattle.shapes.specs.Events.{Message}
use Rattle.wim.specs.Nouns.{WindowNumber, Url, Cookie, Target, NewWindow, Existing, Req, Bare, Event, RunScript, Urlbar, Reload, GoForward, GoBack, CloseCorrupt, EncryptedAnswer, PlainAnswer, DnsResolved, Item, Document, NoWindow, NoDocument}
use Rattle.wim.specs.Program.{Program, reached, top_level, active, keyless, keyed, made, run}
use Rattle.wim.specs.Main.{urlbar, displayed, reload, forward, back, close_corrupt, cookies_in, program, sending_to}
use Rattle.wim.specs.Step.{fresh_labels, all_fresh, fits, step_tables}
use Rattle.wim.specs.Invariant.{Numbered, MadeTables, untouched, stepped}
use Rattle.invariant.proofs.Numbered.Fresh.{fresh_absent, fits-sizes, admitted}
use Rattle.invariant.proofs.Numbered.Once.{Once}
use Rattle.invariant.proofs.Numbered.Kept.{kept_self}
use Rattle.invariant.proofs.Numbered.Orderly.{Orderly, orderly_done, orderly_ask, orderly_cut, orderly_needs, orderly_unless}
use Rattle.invariant.proofs.Numbered.Shared.{orderly_send, orderly_cancel, orderly_back, orderly_forward}
use Rattle.invariant.proofs.Numbered.Scripts.{orderly_window, orderly_script}
use Rattle.invariant.proofs.Numbered.Answers.{orderly_encrypted, orderly_plain, orderly_resolved}

module _ {a : Tables} where
  -- TRIGGERS.
  orderly_urlbar : (url : Url) (target : Target) → Orderly a (urlbar url target)
  unfolding urlbar
  orderly_urlbar url NewWindow = orderly_window _ _ (λ v. orderly_send _)
  orderly_urlbar url (Existing w) =
      orderly_ask (top_level w) _ (λ found. orderly_unless found NoWindow _ (orderly_ask (active w) _ (λ current. orderly_needs NoDocument current _ (λ d. orderly_send _))))

  orderly_displayed : (w : WindowNumber) (k : Document → Program) → ((d : Document) → Orderly a (k d)) → Orderly a (displayed w k)
  orderly_displayed w k g = orderly_ask (reached w) _ (λ found. orderly_needs NoWindow found _ (λ top. orderly_ask (active w) _ (λ current. orderly_needs NoDocument current k g)))

  orderly_reload : (w : WindowNumber) → Orderly a (reload w)
  unfolding reload
  orderly_reload w = orderly_displayed w _ (λ d. orderly_cancel (Bare w) _ (orderly_send (sending_to (Req w) d.location d.referrer)))

  orderly_close_corrupt : Orderly a close_corrupt
  unfolding close_corrupt
  orderly_close_corrupt =
      orderly_cut windows _ _ refl (orderly_cut documents _ _ refl (orderly_cut inputs _ _ refl (orderly_cut pending_dns _ _ refl
      (orderly_cut pending_requests _ _ refl (orderly_cut session_storage _ _ refl (orderly_cut cookies _ _ refl (orderly_done none)))))))

  -- EVERY EVENT.
  pub orderly_program : (e : Event) (new : List Cookie) → Orderly a (program e new)
  unfolding program forward back
  orderly_program (RunScript w out) new = orderly_script w out new
  orderly_program (Urlbar target url) new = orderly_urlbar url target
  orderly_program (Reload w) new = orderly_reload w
  orderly_program (GoForward w) new = orderly_displayed w _ (λ d. orderly_forward w (λ p. p) (λ p g. g))
  orderly_program (GoBack w) new = orderly_displayed w _ (λ d. orderly_back w (λ p. p) (λ p g. g))
  orderly_program CloseCorrupt new = orderly_close_corrupt
  orderly_program (EncryptedAnswer k x) new = orderly_ask (keyed k) _ (orderly_encrypted x new)
  orderly_program (PlainAnswer x) new = orderly_ask (keyless x.number) _ (orderly_plain x new)
  orderly_program (DnsResolved x) new = orderly_resolved x

pub numbered-empty : Numbered no_rows
numbered-empty = record {
  sorted = sorted;
  sizes = λ t. omega arith;
  documents_once = λ d e i. absurd i;
  asked_once = λ q r i. absurd i;
  asked_or_waiting = λ q w i. absurd i;
  keys_once = λ v w k i. absurd i;
}
  where
    sorted : (t : Table) → Sorted (key_of t) (cmp t) (no_rows t)
    sorted t = tt

pub numbered_step : (i : Item) (b c : Tables) (m : Option Message) → Numbered b → step_tables i b ≡ made c m → Numbered c
unfolding step_tables
numbered_step i b c m N e = record {
  sorted = after.sorted;
  sizes = fits-sizes c passed.2;
  documents_once = after.documents_once;
  asked_once = after.asked_once;
  asked_or_waiting = after.asked_or_waiting;
  keys_once = after.keys_once;
}
  where
    f : List Label
    f = fresh_labels i.fresh

    passed : (run (program i.event (cookies_in i.cookies)) b f ≡ made c m) × (all_fresh b f ≡ true) × (fits c ≡ true)
    passed = admitted f b (run (program i.event (cookies_in i.cookies)) b f) c m e

    before : Once b
    before = record { sorted = N.sorted; documents_once = N.documents_once; asked_once = N.asked_once; asked_or_waiting = N.asked_or_waiting; keys_once = N.keys_once }

    after : Once c
    after = orderly_program i.event (cookies_in i.cookies) b (kept_self before) f c m (fresh_absent b f passed.1) passed.0

pub made-numbered : {b : Tables} → MadeTables b → Numbered b
made-numbered untouched = numbered-empty
made-numbered (stepped {b = b} {c = c} i m r e) = numbered_step i b c m (made-numbered r) e
