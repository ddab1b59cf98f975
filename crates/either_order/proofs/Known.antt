-- Where labels stand: a coloured label stands in the tables or is a host; what a step stands by is named by its item or stands in a row.
use mathlib.Core.Path.{◌≡◌, refl, sym, ap, subst}
use mathlib.Core.Logic.{inl, inr}
use mathlib.Core.Bool.{◌&&◌}
use Rattle.std.specs.Prelude.{Option, None as none, Some as some}
use Prim.Native.Nat.{ℕ}
use borrow.Author.Tests.{eqb-true}
use lib.Dec.{eqb}
use Rattle.sorted.specs.Table.{In, at}
use Rattle.sorted.proofs.Never.{never}
use Rattle.sorted.proofs.Tests.{and_left}
use Rattle.sorted.proofs.Member.{find_in}
use Rattle.sorted.proofs.Lookup.{at_key}
use Rattle.tables.specs.Tables.{windows, documents, pending_dns, pending_requests, key_of, cmp, Tables}
use Rattle.tables.specs.Labels.{Kind, window, request, dns, key, document, host, Label, leads}
use Rattle.tables.specs.Rows.{has_key, has_no_key}
use Rattle.wim.specs.Nouns.{WindowNumber, DocumentNumber, RequestNumber, KeyNumber, Reference, Req, NewWindow, Existing, Event, RunScript, Urlbar, Reload, GoForward, GoBack, CloseCorrupt, EncryptedAnswer, PlainAnswer, DnsResolved, Document, Question, Waiting, DnsNumber}
use Rattle.wim.specs.Walks.{document_numbered, Above, missing, topmost, held_by, above, top_at, top_above}
use Rattle.wim.specs.Program.{question, keyless, keyed, observed}
use Rattle.wim.specs.LocalSteps.{asked, awaited, home, top_of_document, top_of, names}
use Rattle.wim.proofs.Walks.{above-row}
use Rattle.tables.proofs.Update.{linear}
use Rattle.invariant.proofs.Numbered.Fresh.{Absent}
use Rattle.wim.proofs.Numbers.{row-numbered, found-document}
use Rattle.either_order.proofs.Sight.{has-key}
use Rattle.either_order.proofs.Listed.{tie_mentioned, ref_mentioned}
use Rattle.either_order.proofs.Colour.{colourless, top_colour, top_of_label, request_colour, asked_for, keyed_by, colour, question_colour, waiting_colour, colour_leads}
use Rattle.either_order.proofs.Seeds.{sought, found, waiting_number, question_number}

-- A COLOURED LABEL stands in the tables, or is a host.
pub coloured : (b : Tables) (κ : Kind) (n : ℕ) → (colour b κ n ≡ colourless → ⊥) → Absent (κ, n) b → κ ≡ host
unfolding colour top_of top_above
coloured b window n c h = go (above (b windows) (b documents) w) refl c
  where
    w : WindowNumber
    w = record { 0 = n }

    stands_in : (u : Above) → above (b windows) (b documents) w ≡ u → (u ≡ missing → ⊥) → window ≡ host
    stands_in u e k =
        let r = above-row (b windows) (b documents) w u e k in
        let z = row-numbered (b windows) w r.0 r.1 in
        absurd (h.nowhere windows r.0 z.0 (inl (ap (λ (v : WindowNumber). (window, v.0)) (sym z.1))))

    go : (u : Above) → above (b windows) (b documents) w ≡ u → (top_colour (top_at (top_above 31 (b windows) (b documents)) w u) ≡ colourless → ⊥) → window ≡ host
    go missing e c = absurd (c refl)
    go topmost e c = stands_in topmost e (λ q. never (cc))
    go (held_by d) e c = stands_in (held_by d) e (λ q. never (cc))
coloured b document n c h = go (document_numbered (b documents) (record { 0 = n })) refl c
  where
    go : (o : Option Document) → document_numbered (b documents) (record { 0 = n }) ≡ o → (top_colour (top_of_document b o) ≡ colourless → ⊥) → document ≡ host
    go none e c = absurd (c refl)
    go (some d) e c =
        let z = found-document (b documents) (record { 0 = n }) d e in
        absurd (h.nowhere documents d z.0 (inr (inl (ap (λ (v : DocumentNumber). (document, v.0)) (sym z.1)))))
coloured b request n c h = go (asked_for (b pending_dns) n) (at (key_of pending_requests) (cmp pending_requests) n (b pending_requests)) refl refl c
  where
    go : (o : Option Question) (p : Option Waiting) → asked_for (b pending_dns) n ≡ o → at (key_of pending_requests) (cmp pending_requests) n (b pending_requests) ≡ p → (request_colour b o p ≡ colourless → ⊥) → request ≡ host
    go none none e f c = absurd (c refl)
    go none (some w) e f c = let z = at_key (key_of pending_requests) (cmp pending_requests) (linear pending_requests) n (b pending_requests) w f in absurd (h.nowhere pending_requests w z.0 (inl (ap (λ (k : ℕ). (request, k)) z.1)))
    go (some q) p e f c =
        let z = find_in (λ (x : Question). eqb x.request.number.0 n) (b pending_dns) q e in
        absurd (h.nowhere pending_dns q z.0 (inr (inl (ap (λ (k : ℕ). (request, k)) (sym (eqb-true q.request.number.0 n z.1))))))
coloured b dns n c h = go (at (key_of pending_dns) (cmp pending_dns) n (b pending_dns)) refl c
  where
    go : (o : Option Question) → at (key_of pending_dns) (cmp pending_dns) n (b pending_dns) ≡ o → (question_colour b o ≡ colourless → ⊥) → dns ≡ host
    go none e c = absurd (c refl)
    go (some q) e c = let z = at_key (key_of pending_dns) (cmp pending_dns) (linear pending_dns) n (b pending_dns) q e in absurd (h.nowhere pending_dns q z.0 (inl (ap (λ (k : ℕ). (dns, k)) z.1)))
coloured b key n c h = go (keyed_by (b pending_requests) (record { 0 = n })) refl c
  where
    go : (o : Option Waiting) → keyed_by (b pending_requests) (record { 0 = n }) ≡ o → (waiting_colour b o ≡ colourless → ⊥) → key ≡ host
    go none e c = absurd (c refl)
    go (some w) e c =
        let z = find_in (λ (r : Waiting). has_key (record { 0 = n }) r.seal) (b pending_requests) w e in
        absurd (h.nowhere pending_requests w z.0 (tie_mentioned pending_requests w (key, n) (has-key (record { 0 = n }) w.seal z.1)))
coloured b host n c h = refl

-- THE ENTRIES THAT ARE FOUND stand in the tables.
pub in_questions : (b : Tables) (a : DnsNumber) (q : Question) → observed (question a) b ≡ some q → In q (b pending_dns)
unfolding observed
in_questions b a q e = (at_key (key_of pending_dns) (cmp pending_dns) (linear pending_dns) a.0 (b pending_dns) q e).0

pub in_keyless : (b : Tables) (a : RequestNumber) (w : Waiting) → observed (keyless a) b ≡ some w → In w (b pending_requests) × (w.request.number.0 ≡ a.0)
unfolding observed
in_keyless b a w e =
    let z = find_in (λ (r : Waiting). eqb r.request.number.0 a.0 && has_no_key r.seal) (b pending_requests) w e in
    (z.0, eqb-true w.request.number.0 a.0 (and_left (eqb w.request.number.0 a.0) (has_no_key w.seal) z.1))

pub in_keyed : (b : Tables) (k : KeyNumber) (w : Waiting) → observed (keyed k) b ≡ some w → In w (b pending_requests)
unfolding observed
in_keyed b k w e = (find_in (λ (r : Waiting). has_key k r.seal) (b pending_requests) w e).0

module _ (b : Tables) (l : Label) (ab : Absent l b) where
  home_waiting : (o : Option Waiting) → ((w : Waiting) → o ≡ some w → In w (b pending_requests)) → awaited o ≡ some l → ⊥
  home_waiting none h e = never (cc)
  home_waiting (some w) h e = let z : leads w.reference ≡ l = cc in ab.nowhere pending_requests w (h w refl) (ref_mentioned pending_requests w l (inl (sym z)))

  home-question : (o : Option Question) → ((q : Question) → o ≡ some q → In q (b pending_dns)) → asked o ≡ some l → ⊥
  home-question none h e = never (cc)
  home-question (some q) h e = let z : leads q.reference ≡ l = cc in ab.nowhere pending_dns q (h q refl) (ref_mentioned pending_dns q l (inl (sym z)))

  -- what a step stands by, where no row has it, is named by its item
  pub home-named : (e : Event) → home e b ≡ some l → In l (names e)
  unfolding home names
  home-named (RunScript w out) h = let z : (window, w.0) ≡ l = cc in inl (sym z)
  home-named (Urlbar NewWindow url) h = never (cc)
  home-named (Urlbar (Existing w) url) h = let z : (window, w.0) ≡ l = cc in inl (sym z)
  home-named (Reload w) h = let z : (window, w.0) ≡ l = cc in inl (sym z)
  home-named (GoForward w) h = let z : (window, w.0) ≡ l = cc in inl (sym z)
  home-named (GoBack w) h = let z : (window, w.0) ≡ l = cc in inl (sym z)
  home-named CloseCorrupt h = never (cc)
  home-named (EncryptedAnswer k a) h = absurd (home_waiting (observed (keyed k) b) (in_keyed b k) h)
  home-named (PlainAnswer a) h = absurd (home_waiting (observed (keyless a.number) b) (λ w e. (in_keyless b a.number w e).0) h)
  home-named (DnsResolved a) h = absurd (home-question (observed (question a.number) b) (in_questions b a.number) h)

  found_waiting : (o : Option Waiting) → ((w : Waiting) → o ≡ some w → In w (b pending_requests)) → In l (waiting_number o) → ⊥
  found_waiting (some w) h (inr x4) = elim x4 [ ]
  found_waiting none h x'' = elim x'' [ ]
  found_waiting (some w) h (inl e) = ab.nowhere pending_requests w (h w refl) (inl e)

  found-question : (o : Option Question) → ((q : Question) → o ≡ some q → In q (b pending_dns)) → In l (question_number o) → ⊥
  found-question (some q) h (inr x4) = elim x4 [ ]
  found-question none h x'' = elim x'' [ ]
  found-question (some q) h (inl e) = ab.nowhere pending_dns q (h q refl) (inl e)

  -- an entry that is found stands in a row
  pub found-stands : (e : Event) → In l (found e b) → ⊥
  found-stands (RunScript w out) i = i
  found-stands (Urlbar target url) i = i
  found-stands (Reload w) i = i
  found-stands (GoForward w) i = i
  found-stands (GoBack w) i = i
  found-stands CloseCorrupt i = i
  found-stands (EncryptedAnswer k a) i = found_waiting (observed (keyed k) b) (in_keyed b k) i
  found-stands (PlainAnswer a) i = found_waiting (observed (keyless a.number) b) (λ w e. (in_keyless b a.number w e).0) i
  found-stands (DnsResolved a) i = found-question (observed (question a.number) b) (in_questions b a.number) i

-- a number under which an entry is sought is named
pub sought_named : (e : Event) (l : Label) → In l (sought e) → In l (names e)
unfolding names
sought_named (RunScript w out) l i = absurd i
sought_named (Urlbar target url) l i = absurd i
sought_named (Reload w) l i = absurd i
sought_named (GoForward w) l i = absurd i
sought_named (GoBack w) l i = absurd i
sought_named CloseCorrupt l i = absurd i
sought_named (DnsResolved a) l (inr x3) = elim x3 [ ]
sought_named (PlainAnswer a) l (inr x'') = elim x'' [ ]
sought_named (EncryptedAnswer k a) l (inr x') = elim x' [ ]
sought_named (EncryptedAnswer k a) l (inl e) = inl e
sought_named (PlainAnswer a) l (inl e) = inl e
sought_named (DnsResolved a) l (inl e) = inl e

-- A STEP STANDS BY A WINDOW OR A DOCUMENT.
module _ (b : Tables) (l : Label) where
  led_colour : (r : Reference) → leads r ≡ l → colour b l.0 l.1 ≡ top_colour (top_of_label b l)
  led_colour r e = subst (λ (v : Label). colour b v.0 v.1 ≡ top_colour (top_of_label b v)) e (colour_leads b r)

  awaited_colour : (o : Option Waiting) → awaited o ≡ some l → colour b l.0 l.1 ≡ top_colour (top_of_label b l)
  awaited_colour none e = never (cc)
  awaited_colour (some w) e = led_colour w.reference (cc)

  asked_colour : (o : Option Question) → asked o ≡ some l → colour b l.0 l.1 ≡ top_colour (top_of_label b l)
  asked_colour none e = never (cc)
  asked_colour (some q) e = led_colour q.reference (cc)

  pub home_colour : (e : Event) → home e b ≡ some l → colour b l.0 l.1 ≡ top_colour (top_of_label b l)
  unfolding home
  home_colour (RunScript w out) h = led_colour (Req w) (cc)
  home_colour (Urlbar NewWindow url) h = never (cc)
  home_colour (Urlbar (Existing w) url) h = led_colour (Req w) (cc)
  home_colour (Reload w) h = led_colour (Req w) (cc)
  home_colour (GoForward w) h = led_colour (Req w) (cc)
  home_colour (GoBack w) h = led_colour (Req w) (cc)
  home_colour CloseCorrupt h = never (cc)
  home_colour (EncryptedAnswer k a) h = awaited_colour (observed (keyed k) b) h
  home_colour (PlainAnswer a) h = awaited_colour (observed (keyless a.number) b) h
  home_colour (DnsResolved a) h = asked_colour (observed (question a.number) b) h
