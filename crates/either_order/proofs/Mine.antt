-- The waiting entry that a step answers is the step's own: by where its reference leads, or else by its host.
use mathlib.Core.Path.{◌≡◌, refl, sym, ◌∙◌, ap, subst}
use mathlib.Core.Logic.{◌⊎◌, inl, inr}
use mathlib.Core.Bool.{true}
use mathlib.Core.List.{List}
use Rattle.std.specs.Prelude.{Option, None as none, Some as some}
use Prim.Native.Nat.{ℕ}
use Rattle.sorted.specs.Table.{In}
use Rattle.sorted.proofs.Never.{never}
use Rattle.tables.specs.Tables.{pending_dns, pending_requests, Tables}
use Rattle.tables.specs.Labels.{Label, request, dns, host, leads}
use Rattle.shapes.specs.Events.{Message}
use Rattle.wim.specs.Nouns.{WindowNumber, Host, Cookie, Reference, Event, RunScript, Urlbar, Reload, GoForward, GoBack, CloseCorrupt, EncryptedAnswer, PlainAnswer, DnsResolved, Answer, Question, Waiting}
use Rattle.wim.specs.Program.{question, keyless, keyed, observed, made, run}
use Rattle.wim.specs.Main.{program, plain_answer}
use Rattle.wim.specs.LocalSteps.{asked, awaited, home, top_of_home, stands, hosts, question_host, answer_hosts}
use Rattle.wim.specs.Invariant.{Numbered}
use Rattle.either_order.proofs.Listed.{in_hosts}
use Rattle.either_order.proofs.Colour.{colourless, or_host, top_of_label, entry, colour, waiting_colour, question_colour, colour_dns, colour_waiting}
use Rattle.either_order.proofs.Owned.{ours, ours_at, is-window}
use Rattle.either_order.proofs.Seeds.{sought, found, waiting_number, question_number}
use Rattle.either_order.proofs.Known.{in_questions, in_keyless, in_keyed}

-- THE ENTRY THAT A STEP ANSWERS is the step's.
entry_mine : (st : Option WindowNumber) (hs : List Host) (o : Option WindowNumber) (h : Host) → st ≡ o → In h hs → ours st hs (or_host o h) ≡ true
entry_mine st hs none h e i = in_hosts h hs i
entry_mine st hs (some t) h e i = is-window st t e

-- of no colour, or the step's own
abbrev pub Mine : Event → Tables → Label → Type 0
Mine e b l = (colour b l.0 l.1 ≡ colourless) ⊎ (ours_at b (stands e b) (hosts e b) l ≡ true)

module _ (b : Tables) (N : Numbered b) where
  of_entry : (e : Event) (l : Label) (r : Reference) (h : Host) → colour b l.0 l.1 ≡ entry b r h → stands e b ≡ top_of_label b (leads r) → In h (hosts e b) → ours_at b (stands e b) (hosts e b) l ≡ true
  of_entry e l r h c s i = ap (ours (stands e b) (hosts e b)) c ∙ entry_mine (stands e b) (hosts e b) (top_of_label b (leads r)) h s i

  -- a request that waits, found by its key or by its number
  of_waiting : (e : Event) (a : Answer) (o : Option Waiting) (w : Waiting) (l : Label) → o ≡ some w → In w (b pending_requests) → l ≡ (request, w.request.number.0)
      → stands e b ≡ top_of_home b (awaited o) → hosts e b ≡ answer_hosts b a o → ours_at b (stands e b) (hosts e b) l ≡ true
  of_waiting e a o w l f i k s h =
      of_entry e l w.reference w.request.host (ap (λ (v : Label). colour b v.0 v.1) k ∙ colour_waiting b N w i) (s ∙ ap (λ (x : Option Waiting). top_of_home b (awaited x)) f)
      (subst (In w.request.host) (sym (h ∙ ap (answer_hosts b a) f)) (inl refl))

  of_question : (e : Event) (o : Option Question) (q : Question) (l : Label) → o ≡ some q → In q (b pending_dns) → l ≡ (dns, q.number.0)
      → stands e b ≡ top_of_home b (asked o) → hosts e b ≡ question_host o → ours_at b (stands e b) (hosts e b) l ≡ true
  of_question e o q l f i k s h =
      of_entry e l q.reference q.request.host (ap (λ (v : Label). colour b v.0 v.1) k ∙ colour_dns b N q i) (s ∙ ap (λ (x : Option Question). top_of_home b (asked x)) f)
      (subst (In q.request.host) (sym (h ∙ ap question_host f)) (inl refl))

  pub found_mine : (e : Event) (l : Label) → In l (found e b) → ours_at b (stands e b) (hosts e b) l ≡ true
  unfolding stands home hosts
  found_mine (RunScript w out) l i = absurd i
  found_mine (Urlbar target url) l i = absurd i
  found_mine (Reload w) l i = absurd i
  found_mine (GoForward w) l i = absurd i
  found_mine (GoBack w) l i = absurd i
  found_mine CloseCorrupt l i = absurd i
  found_mine (EncryptedAnswer k a) l i = go (observed (keyed k) b) refl i
    where
      go : (o : Option Waiting) → observed (keyed k) b ≡ o → In l (waiting_number o) → ours_at b (stands (EncryptedAnswer k a) b) (hosts (EncryptedAnswer k a) b) l ≡ true
      go none f j = absurd j
      go (some w) f (inr x3) = elim x3 [ ]
      go (some w) f (inl j) = of_waiting (EncryptedAnswer k a) a (observed (keyed k) b) w l f (in_keyed b k w f) j refl refl
  found_mine (PlainAnswer a) l i = go (observed (keyless a.number) b) refl i
    where
      go : (o : Option Waiting) → observed (keyless a.number) b ≡ o → In l (waiting_number o) → ours_at b (stands (PlainAnswer a) b) (hosts (PlainAnswer a) b) l ≡ true
      go none f j = absurd j
      go (some w) f (inr x3) = elim x3 [ ]
      go (some w) f (inl j) = of_waiting (PlainAnswer a) a (observed (keyless a.number) b) w l f (in_keyless b a.number w f).0 j refl refl
  found_mine (DnsResolved a) l i = go (observed (question a.number) b) refl i
    where
      go : (o : Option Question) → observed (question a.number) b ≡ o → In l (question_number o) → ours_at b (stands (DnsResolved a) b) (hosts (DnsResolved a) b) l ≡ true
      go none f j = absurd j
      go (some q) f (inr x3) = elim x3 [ ]
      go (some q) f (inl j) = of_question (DnsResolved a) (observed (question a.number) b) q l f (in_questions b a.number q f) j refl refl

  -- the number under which an accepted step seeks an entry
  pub sought_mine : (e : Event) (new : List Cookie) (f : List Label) (c : Tables) (m : Option Message) → run (program e new) b f ≡ made c m → (l : Label) → In l (sought e) → Mine e b l
  unfolding stands home hosts colour observed run program plain_answer
  sought_mine (RunScript w out) new f c m acc l i = absurd i
  sought_mine (Urlbar target url) new f c m acc l i = absurd i
  sought_mine (Reload w) new f c m acc l i = absurd i
  sought_mine (GoForward w) new f c m acc l i = absurd i
  sought_mine (GoBack w) new f c m acc l i = absurd i
  sought_mine CloseCorrupt new f c m acc l i = absurd i
  sought_mine (DnsResolved a) new f c m acc l (inr x4) = elim x4 [ ]
  sought_mine (PlainAnswer a) new f c m acc l (inr x3) = elim x3 [ ]
  sought_mine (EncryptedAnswer k a) new f c m acc l (inr x'') = elim x'' [ ]
  sought_mine (EncryptedAnswer k a) new f c m acc l (inl i) = go (observed (keyed k) b) refl
    where
      go : (o : Option Waiting) → observed (keyed k) b ≡ o → Mine (EncryptedAnswer k a) b l
      go none g = inl (ap (λ (v : Label). colour b v.0 v.1) i ∙ ap (waiting_colour b) g)
      go (some w) g =
          inr (of_entry (EncryptedAnswer k a) l w.reference w.request.host (ap (λ (v : Label). colour b v.0 v.1) i ∙ ap (waiting_colour b) g)
          (ap (λ (x : Option Waiting). top_of_home b (awaited x)) g) (subst (In w.request.host) (sym (ap (answer_hosts b a) g)) (inl refl)))
  sought_mine (PlainAnswer a) new f c m acc l (inl i) = go (observed (keyless a.number) b) refl acc
    where
      go : (o : Option Waiting) → observed (keyless a.number) b ≡ o → run (plain_answer a new o) b f ≡ made c m → Mine (PlainAnswer a) b l
      go none g h = never (cc)
      go (some w) g h =
          let z = in_keyless b a.number w g in
          inr (of_waiting (PlainAnswer a) a (observed (keyless a.number) b) w l g z.0 (i ∙ ap (λ (n : ℕ). (request, n)) (sym z.1)) refl refl)
  sought_mine (DnsResolved a) new f c m acc l (inl i) = go (observed (question a.number) b) refl
    where
      go : (o : Option Question) → observed (question a.number) b ≡ o → Mine (DnsResolved a) b l
      go none g = inl (ap (λ (v : Label). colour b v.0 v.1) i ∙ ap (question_colour b) g)
      go (some q) g =
          inr (of_entry (DnsResolved a) l q.reference q.request.host (ap (λ (v : Label). colour b v.0 v.1) i ∙ ap (question_colour b) g)
          (ap (λ (x : Option Question). top_of_home b (asked x)) g) (subst (In q.request.host) (sym (ap question_host g)) (inl refl)))
