-- Every event keeps the tables standing, so every accepted step keeps them rooted.
use mathlib.Core.Path.{◌≡◌, sym, subst₃}
use mathlib.Core.List.{List}
use Rattle.std.specs.Prelude.{Option}
use lib.Dec.{eqb}
use Rattle.sorted.proofs.Member.{keep-none}
use Rattle.tables.specs.Tables.{windows, documents, inputs, Tables, no_rows}
use Rattle.tables.specs.Labels.{Label}
use Rattle.tables.specs.Rows.{same_host}
use Rattle.shapes.specs.Events.{Message}
use Rattle.wim.specs.Nouns.{WindowNumber, Url, Cookie, Address, Protocol, Plain, Secure, Target, NewWindow, Existing, Answer, DnsAnswer, Event, RunScript, Urlbar, Reload, GoForward, GoBack, CloseCorrupt, EncryptedAnswer, PlainAnswer, DnsResolved, Item, Nobody, Document, Question, Waiting, NoWindow, NoDocument, NoQuestion, NoRequest, Mismatch}
use Rattle.wim.specs.Program.{observed, Program, reached, top_level, active, keyed, keyless, question, made, run}
use Rattle.wim.specs.Main.{displayed, urlbar, reload, forward, back, close_corrupt, encrypted_answer, plain_answer, go_out, resolved, cookies_in, program}
use Rattle.wim.specs.Step.{fresh_labels, step_tables}
use Rattle.wim.specs.Invariant.{Numbered, Rooted}
use Rattle.invariant.proofs.Numbered.Fresh.{admitted}
use Rattle.invariant.proofs.Rooted.Stands.{Stands, rooted-stands, stands-rooted, stands-empty}
use Rattle.invariant.proofs.Rooted.Walk.{Keeps, kept_run, kept-needs, kept-unless}
use Rattle.invariant.proofs.Rooted.Fresh.{Fresh, all-fresh}
use Rattle.invariant.proofs.Rooted.Touched.{Whole, kept_send, untouched, light_none}
use Rattle.invariant.proofs.Rooted.Blocks.{whole_top}
use Rattle.invariant.proofs.Rooted.Commands.{kept_back, kept-forward, kept-script}
use Rattle.invariant.proofs.Rooted.Answers.{kept_response}

module _ (b : Tables) (N : Numbered b) (S : Stands (b windows) (b documents) (b inputs)) where
  -- TRIGGERS
  kept-urlbar : (url : Url) (target : Target) → Keeps Whole (Fresh b) (urlbar url target) b
  unfolding urlbar
  kept-urlbar url NewWindow = λ n f. kept_send (Fresh b) _ _ (whole_top b N S b (untouched b) n f Nobody)
  kept-urlbar url (Existing w) =
      kept-unless Whole (Fresh b) (observed (top_level w) b) NoWindow _ b (kept-needs Whole (Fresh b) NoDocument (observed (active w) b) _ b (λ d e. kept_send (Fresh b) _ b (λ l. S)))

  kept-displayed : (w : WindowNumber) (k : Document → Program) → ((d : Document) → Keeps Whole (Fresh b) (k d) b) → Keeps Whole (Fresh b) (displayed w k) b
  kept-displayed w k h = kept-needs Whole (Fresh b) NoWindow (observed (reached w) b) _ b (λ top e. kept-needs Whole (Fresh b) NoDocument (observed (active w) b) k b (λ d f. h d))

  kept-reload : (w : WindowNumber) → Keeps Whole (Fresh b) (reload w) b
  unfolding reload
  kept-reload w = kept-displayed w _ (λ d. kept_send (Fresh b) _ _ (λ l. S))

  -- CLOSECORRUPT
  kept_corrupt : Keeps Whole (Fresh b) close_corrupt b
  unfolding close_corrupt
  kept_corrupt = λ l. subst₃ Stands (sym (keep-none (b windows))) (sym (keep-none (b documents))) (sym (keep-none (b inputs))) stands-empty

  -- ANSWERS
  kept_encrypted : (a : Answer) (new : List Cookie) (found : Option Waiting) → Keeps Whole (Fresh b) (encrypted_answer a new found) b
  unfolding encrypted_answer
  kept_encrypted a new found = kept-needs Whole (Fresh b) NoRequest found _ b (λ w e. kept-unless Whole (Fresh b) (eqb a.number.0 w.request.number.0) Mismatch _ b (kept_response b N S w.reference w a new))

  kept-plain : (a : Answer) (new : List Cookie) (found : Option Waiting) → Keeps Whole (Fresh b) (plain_answer a new found) b
  unfolding plain_answer
  kept-plain a new found = kept-needs Whole (Fresh b) NoRequest found _ b (λ w e. kept_response b N S w.reference w a new)

  kept_out : (p : Protocol) (q : Question) (address : Address) → Keeps Whole (Fresh b) (go_out p q address) b
  unfolding go_out
  kept_out Plain q address = λ l. S
  kept_out Secure q address = λ k f l. S

  kept-resolved : (a : DnsAnswer) (found : Option Question) → Keeps Whole (Fresh b) (resolved a found) b
  unfolding resolved
  kept-resolved a found = kept-needs Whole (Fresh b) NoQuestion found _ b (λ q e. kept-unless Whole (Fresh b) (same_host a.host q.request.host) Mismatch _ b (kept_out q.url.protocol q a.address))

  -- EACH EVENT
  kept-event : (e : Event) (new : List Cookie) → Keeps Whole (Fresh b) (program e new) b
  unfolding program forward back
  kept-event (RunScript w out) new = kept-script b N S w out new
  kept-event (Urlbar target url) new = kept-urlbar url target
  kept-event (Reload w) new = kept-reload w
  kept-event (GoForward w) new = kept-displayed w _ (λ d. kept-forward b N S (λ p. p) light_none w)
  kept-event (GoBack w) new = kept-displayed w _ (λ d. kept_back b N S (λ p. p) light_none w)
  kept-event CloseCorrupt new = kept_corrupt
  kept-event (EncryptedAnswer k a) new = kept_encrypted a new (observed (keyed k) b)
  kept-event (PlainAnswer a) new = kept-plain a new (observed (keyless a.number) b)
  kept-event (DnsResolved a) new = kept-resolved a (observed (question a.number) b)

-- THE EMPTY TABLES ARE ROOTED, AND EVERY ACCEPTED STEP KEEPS THEM SO.
pub rooted-empty : Rooted no_rows
rooted-empty = stands-rooted no_rows stands-empty

pub rooted-step : (i : Item) (b c : Tables) (m : Option Message) → Numbered b → Numbered c → Rooted b → step_tables i b ≡ made c m → Rooted c
unfolding step_tables
rooted-step i b c m N M R e =
    let S = rooted-stands b R in
    let p : Program = program i.event (cookies_in i.cookies) in
    let f : List Label = fresh_labels i.fresh in
    let z = admitted f b (run p b f) c m e in
    stands-rooted c (kept_run Whole (Fresh b) p b f (kept-event b N S i.event (cookies_in i.cookies)) (all-fresh b f z.1) c m z.0 (M.sizes windows))
