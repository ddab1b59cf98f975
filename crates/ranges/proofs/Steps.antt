-- Every event is ranged, so every accepted step of an item in range keeps the tables in range, and sends a message in range.
use mathlib.Core.Path.{◌≡◌, refl, sym, subst}
use mathlib.Core.Logic.{inl, inr}
use mathlib.Core.Bool.{Bool, true, false, cond}
use mathlib.Core.List.{List, ◌∷◌}
use Rattle.std.specs.Prelude.{Option, None as none}
use native.Mathlib.Omega.{arith}
use borrow.Author.Tests.{eqb-false}
use lib.Dec.{eqb}
use Rattle.sorted.specs.Table.{In, All}
use Rattle.tables.specs.Tables.{windows, documents, cookies, session_storage, inputs, pending_dns, pending_requests, Tables, no_rows}
use Rattle.tables.specs.Labels.{window, Label}
use Rattle.shapes.specs.Events.{Message}
use Rattle.shapes.specs.Ranges.{ValueIn, NumberIn, UrlIn, CookieIn, TargetIn, ReferrerIn, EventIn, FreshIn, ItemIn, MessageIn}
use Rattle.wim.specs.Nouns.{WindowNumber, Fresh, Url, Cookie, Referrer, Reference, Req, Bare, Target, NewWindow, Existing, Event, RunScript, Urlbar, Reload, GoForward, GoBack, CloseCorrupt, EncryptedAnswer, PlainAnswer, DnsResolved, Item, Document, NoWindow, NoDocument}
use Rattle.wim.specs.Program.{Program, reached, top_level, active, question, keyless, keyed, made, run}
use Rattle.wim.specs.Main.{sending_to, displayed, urlbar, reload, forward, back, close_corrupt, cookies_in, program}
use Rattle.wim.specs.Step.{numbers, given, fresh_labels, step_tables}
use Rattle.wim.specs.Ranges.{DocumentIn, ReferenceIn}
use Rattle.wim.specs.Invariant.{InRange}
use Rattle.invariant.proofs.Numbered.Fresh.{admitted, fits-sizes}
use Rattle.invariant.proofs.Rooted.Walk.{ends-run}
use Rattle.shapes.proofs.Ranges.{WindowNumberIn, none_between}
use Rattle.ranges.proofs.Ranged.{Held, After, Brought, Ranged, ranged_done, ranged_ask, ranged_bring, ranged_edit, ranged_needs, ranged_unless}
use Rattle.ranges.proofs.Shared.{SendingIn, ranged_send, ranged_cancel, ranged_back, ranged_forward}
use Rattle.ranges.proofs.Scripts.{ranged_script}
use Rattle.ranges.proofs.Answers.{ranged_encrypted, ranged_plain, ranged_resolved}

-- TRIGGERS.
to_in : (reference : Reference) (url : Url) (referrer : Referrer) → ReferenceIn reference → UrlIn url → ReferrerIn referrer → SendingIn (sending_to reference url referrer)
to_in reference url referrer r u f = record { reference = r; url = u; parameters = u.parameters; body = none_between _; origin = tt; referrer = f }

ranged_urlbar : (url : Url) (target : Target) → UrlIn url → TargetIn target → Ranged (urlbar url target)
unfolding urlbar
ranged_urlbar url NewWindow u t =
    ranged_bring window _ (λ w i. ranged_edit windows _ _ (record { number = i; parent = tt; opener = tt }, tt) (ranged_send _ (to_in _ url _ i u tt)))
ranged_urlbar url (Existing w) u t =
    ranged_ask (top_level w) _ (λ found _. ranged_unless found NoWindow _ (ranged_ask (active w) _ (λ current h. ranged_needs DocumentIn NoDocument current _ h (λ d _. ranged_send _ (to_in _ url _ t u tt)))))

ranged_displayed : (w : WindowNumber) → WindowNumberIn w → (k : Document → Program) → ((d : Document) → DocumentIn d → Ranged (k d)) → Ranged (displayed w k)
ranged_displayed w i k g =
    ranged_ask (reached w) _ (λ found h. ranged_needs WindowNumberIn NoWindow found _ (h i) (λ top _. ranged_ask (active w) _ (λ current a. ranged_needs DocumentIn NoDocument current k a g)))

ranged_reload : (w : WindowNumber) → WindowNumberIn w → Ranged (reload w)
unfolding reload
ranged_reload w i = ranged_displayed w i _ (λ d di. ranged_cancel (Bare w) _ (ranged_send _ (to_in (Req w) d.location d.referrer i di.location di.referrer)))

ranged_close_corrupt : Ranged close_corrupt
unfolding close_corrupt
ranged_close_corrupt =
    ranged_edit windows _ _ tt (ranged_edit documents _ _ tt (ranged_edit inputs _ _ tt (ranged_edit pending_dns _ _ tt
    (ranged_edit pending_requests _ _ tt (ranged_edit session_storage _ _ tt (ranged_edit cookies _ _ tt (ranged_done none tt)))))))

-- EVERY EVENT.
ranged_program : (e : Event) → EventIn e → (new : List Cookie) → All CookieIn new → Ranged (program e new)
unfolding program forward back
ranged_program (RunScript w out) i new c = ranged_script w i.0 out i.1 new c
ranged_program (Urlbar target url) i new c = ranged_urlbar url target i.1 i.0
ranged_program (Reload w) i new c = ranged_reload w i
ranged_program (GoForward w) i new c = ranged_displayed w i _ (λ d _. ranged_forward w (λ p. p) (λ p g. g))
ranged_program (GoBack w) i new c = ranged_displayed w i _ (λ d _. ranged_back w (λ p. p) (λ p g. g))
ranged_program CloseCorrupt i new c = ranged_close_corrupt
ranged_program (EncryptedAnswer k a) i new c = ranged_ask (keyed k) _ (ranged_encrypted a i.1 new c)
ranged_program (PlainAnswer a) i new c = ranged_ask (keyless a.number) _ (ranged_plain a i new c)
ranged_program (DnsResolved a) i new c = ranged_ask (question a.number) _ (ranged_resolved a i)

-- WHAT IS BROUGHT: the fresh numbers that are given.
given_in : (ls : List Label) → All (λ (l : Label). ValueIn l.1) ls → (l : Label) → In l (given ls) → NumberIn l.1
given_in mathlib.Core.List.[] h l i = elim i [ ]
given_in (m ∷ ls) h l i = go (eqb m.1 0) refl i (given_in ls h.1 l)
  where
    go : (c : Bool) → eqb m.1 0 ≡ c → In l (cond c (given ls) (m ∷ given ls)) → (In l (given ls) → NumberIn l.1) → NumberIn l.1
    go true e j ih = ih j
    go false e (inl p) ih = subst (λ (x : Label). NumberIn x.1) (sym p) (let z : m.1 ≡ 0 → ⊥ = eqb-false m.1 0 e in record { low = omega arith; high = h.0.high })
    go false e (inr j) ih = ih j

brought_in : (f : Fresh) → FreshIn f → (l : Label) → In l (fresh_labels f) → NumberIn l.1
brought_in f i = given_in (numbers f) (i.window, (i.request, (i.dns, (i.key, (i.document, tt)))))

-- THE THEOREM ON TABLES.
pub in_range_empty : InRange no_rows
in_range_empty = record { rows = λ t r i. absurd i }

pub in_range_step : (i : Item) (b c : Tables) (m : Option Message) → ItemIn i → InRange b → step_tables i b ≡ made c m → InRange c × Held MessageIn m
unfolding step_tables
in_range_step i b c m x I e =
    let p : Program = program i.event (cookies_in i.cookies) in
    let f : List Label = fresh_labels i.fresh in
    let z = admitted f b (run p b f) c m e in
    let r : Ranged p = ranged_program i.event x.event (cookies_in i.cookies) x.cookies.each in
    ends-run After Brought p b f (r.ends b I) (brought_in i.fresh x.fresh) c m z.0 (fits-sizes c z.2)
