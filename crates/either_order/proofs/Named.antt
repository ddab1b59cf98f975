-- Every number that an accepted local step names stands in the tables. So where both steps are accepted, that neither names a number which
-- the other brings follows from refusal 5: two of the premises of demand 3 hold by themselves.
use mathlib.Core.Path.{◌≡◌, refl, sym, ◌∙◌, ap, subst}
use mathlib.Core.Logic.{inl, inr}
use mathlib.Core.Bool.{Bool, true, false}
use mathlib.Core.List.{List, [], ◌∷◌}
use Rattle.std.specs.Prelude.{Option, None as none, Some as some}
use Prim.Native.Nat.{ℕ}
use borrow.Author.Tests.{eqb-true}
use lib.Dec.{eqb}
use Rattle.sorted.specs.Table.{In}
use Rattle.sorted.proofs.Never.{never}
use Rattle.sorted.proofs.Member.{find_in}
use Rattle.sorted.proofs.Lookup.{at_key}
use Rattle.tables.specs.Tables.{windows, documents, pending_dns, pending_requests, key_of, cmp, Tables}
use Rattle.tables.specs.Labels.{Label, window, request, dns, key, ties}
use Rattle.tables.specs.Rows.{has_key}
use Rattle.shapes.specs.Events.{Message}
use Rattle.wim.specs.Nouns.{WindowNumber, DnsNumber, KeyNumber, Host, Cookie, NewWindow, Existing, Itself, Within, Command, Nothing, Href, Iframe, Form, SetScript, SetScriptState, XmlHttpRequest, Back, Forward, Close, PostMessage, Event, RunScript, Urlbar, Reload, GoForward, GoBack, CloseCorrupt, EncryptedAnswer, PlainAnswer, DnsResolved, Item, Window, Question, Waiting, Missing, Mismatch}
use Rattle.wim.specs.Walks.{window_numbered, steps}
use Rattle.wim.specs.Program.{Program, reached, top_level, question, keyless, keyed, observed, is_top, needs, refuse_unless, made, run}
use Rattle.wim.specs.Script.{run_script}
use Rattle.wim.specs.Response.{process_response}
use Rattle.wim.specs.Main.{urlbar, reload, forward, back, encrypted_answer, plain_answer, resolved, cookies_in, program}
use Rattle.wim.specs.Step.{fresh_labels, step_tables}
use Rattle.wim.specs.LocalSteps.{local_command, is_local, stands, hosts, command_names, names}
use Rattle.wim.proofs.Numbers.{same-window, row-numbered}
use Rattle.wim.proofs.Walks.{reached-row}
use Rattle.tables.proofs.Update.{linear}
use Rattle.invariant.proofs.Numbered.Fresh.{Absent, fresh_absent, admitted}
use Rattle.either_order.specs.Statement.{Apart}
use Rattle.either_order.proofs.Sight.{has-key}
use Rattle.either_order.proofs.Listed.{tie_mentioned}
use Rattle.either_order.proofs.Known.{in_keyless, in_keyed}

-- WHAT AN ACCEPTED PROGRAM FOUND.
module _ (b : Tables) (f : List Label) (c : Tables) (t : Option Message) where
  found_some : {A : Type 0} (m : Missing) (o : Option A) (k : A → Program) → run (needs m o k) b f ≡ made c t → (x : A) × (o ≡ some x) × (run (k x) b f ≡ made c t)
  unfolding run
  found_some m none k e = never (cc)
  found_some m (some x) k e = (x, refl, e)

  passed : (x : Bool) (m : Missing) (p : Program) → run (refuse_unless x m p) b f ≡ made c t → x ≡ true
  unfolding run
  passed true m p e = refl
  passed false m p e = never (cc)

module _ (b : Tables) (l : Label) (ab : Absent l b) where
  no_row : (w : WindowNumber) (r : Window) → In r (b windows) → r.number ≡ w → l ≡ (window, w.0) → ⊥
  no_row w r i e k = ab.nowhere windows r i (inl (k ∙ ap (λ (v : WindowNumber). (window, v.0)) (sym e)))

  not_reached : (w top : WindowNumber) → observed (reached w) b ≡ some top → l ≡ (window, w.0) → ⊥
  unfolding observed
  not_reached w top e k =
      let r = reached-row (b windows) (b documents) steps w top e in
      let z = row-numbered (b windows) w r.0 r.1 in
      no_row w r.0 z.0 z.1 k

  not_top : (w : WindowNumber) → observed (top_level w) b ≡ true → l ≡ (window, w.0) → ⊥
  unfolding observed
  not_top w e k = go (window_numbered (b windows) w) refl e
    where
      go : (o : Option Window) → window_numbered (b windows) w ≡ o → is_top o ≡ true → ⊥
      go none f h = never (cc)
      go (some r) f h = let z = row-numbered (b windows) w r f in no_row w r z.0 z.1 k

  not_key : (k : KeyNumber) (w : Waiting) → observed (keyed k) b ≡ some w → l ≡ (key, k.0) → ⊥
  unfolding observed
  not_key k w e h =
      let z = find_in (λ (r : Waiting). has_key k r.seal) (b pending_requests) w e in
      ab.nowhere pending_requests w z.0 (tie_mentioned pending_requests w l (subst (λ (v : Label). In v (ties pending_requests w)) (sym h) (has-key k w.seal z.1)))

  not_asked : (n : DnsNumber) (q : Question) → observed (question n) b ≡ some q → l ≡ (dns, n.0) → ⊥
  unfolding observed
  not_asked n q e h =
      let z = at_key (key_of pending_dns) (cmp pending_dns) (linear pending_dns) n.0 (b pending_dns) q e in
      ab.nowhere pending_dns q z.0 (inl (h ∙ ap (λ (k : ℕ). (dns, k)) z.1))

-- a local command names no window but the script's own
own-named : (w : WindowNumber) (c : Command) → local_command w c ≡ true → (l : Label) → In l (command_names c) → l ≡ (window, w.0)
own-named w Nothing e l i = absurd i
own-named w (Href url NewWindow noreferrer) e l i = absurd i
own-named w (Form url method y (Existing x)) e l (inr x6) = elim x6 [ ]
own-named w (Iframe url (Within x)) e l (inr x5) = elim x5 [ ]
own-named w (Href url (Existing x) noreferrer) e l (inr x4) = elim x4 [ ]
own-named w (Href url (Existing x) noreferrer) e l (inl k) = k ∙ ap (λ (v : WindowNumber). (window, v.0)) (same-window x w e)
own-named w (Iframe url Itself) e l i = absurd i
own-named w (Iframe url (Within x)) e l (inl k) = k ∙ ap (λ (v : WindowNumber). (window, v.0)) (same-window x w e)
own-named w (Form url method y NewWindow) e l i = absurd i
own-named w (Form url method y (Existing x)) e l (inl k) = k ∙ ap (λ (v : WindowNumber). (window, v.0)) (same-window x w e)
own-named w (SetScript x script) e l i = never (cc)
own-named w (SetScriptState x state) e l i = never (cc)
own-named w (XmlHttpRequest url method y matching) e l i = absurd i
own-named w (Back x) e l i = never (cc)
own-named w (Forward x) e l i = never (cc)
own-named w (Close x) e l i = never (cc)
own-named w (PostMessage x message to) e l i = never (cc)

-- WHAT IS NAMED STANDS.
pub named-stands : (e : Event) (new : List Cookie) (b : Tables) (f : List Label) (c : Tables) (m : Option Message) → is_local e ≡ true → run (program e new) b f ≡ made c m
    → (l : Label) → In l (names e) → Absent l b → ⊥
unfolding is_local names program run run_script urlbar reload forward back encrypted_answer plain_answer resolved
named-stands (RunScript w out) new b f c m lc acc l i ab = let z = found_some b f c m _ (observed (reached w) b) _ acc in go i (not_reached b l ab w z.0 z.1)
  where
    go : In l ((window, w.0) ∷ command_names out.command) → (l ≡ (window, w.0) → ⊥) → ⊥
    go (inl k) h = h k
    go (inr j) h = h (own-named w out.command lc l j)
named-stands (Urlbar NewWindow url) new b f c m lc acc l i ab = i
named-stands (DnsResolved a) new b f c m lc acc l (inr x9) ab = elim x9 [ ]
named-stands (PlainAnswer a) new b f c m lc acc l (inr x8) ab = elim x8 [ ]
named-stands (GoBack w) new b f c m lc acc l (inr x7) ab = elim x7 [ ]
named-stands (GoForward w) new b f c m lc acc l (inr x6) ab = elim x6 [ ]
named-stands (Reload w) new b f c m lc acc l (inr x5) ab = elim x5 [ ]
named-stands (Urlbar (Existing w) url) new b f c m lc acc l (inr x5) ab = elim x5 [ ]
named-stands (Urlbar (Existing w) url) new b f c m lc acc l (inl k) ab = not_top b l ab w (passed b f c m (observed (top_level w) b) _ _ acc) k
named-stands (Reload w) new b f c m lc acc l (inl k) ab = let z = found_some b f c m _ (observed (reached w) b) _ acc in not_reached b l ab w z.0 z.1 k
named-stands (GoForward w) new b f c m lc acc l (inl k) ab = let z = found_some b f c m _ (observed (reached w) b) _ acc in not_reached b l ab w z.0 z.1 k
named-stands (GoBack w) new b f c m lc acc l (inl k) ab = let z = found_some b f c m _ (observed (reached w) b) _ acc in not_reached b l ab w z.0 z.1 k
named-stands CloseCorrupt new b f c m lc acc l i ab = i
named-stands (EncryptedAnswer k a) new b f c m lc acc l i ab = go i
  where
    z : (w : Waiting) × (observed (keyed k) b ≡ some w) × (run (refuse_unless (eqb a.number.0 w.request.number.0) Mismatch (process_response w.reference w a new)) b f ≡ made c m)
    z = found_some b f c m _ (observed (keyed k) b) _ acc

    go : In l ((key, k.0) ∷ ((request, a.number.0) ∷ [])) → ⊥
    go (inl h) = not_key b l ab k z.0 z.1 h
    go (inr (inr x6)) = elim x6 [ ]
    go (inr (inl h)) = ab.nowhere pending_requests z.0 (in_keyed b k z.0 z.1) (inl (h ∙ ap (λ (n : ℕ). (request, n)) (eqb-true a.number.0 z.0.request.number.0 (passed b f c m _ _ _ z.2))))
named-stands (PlainAnswer a) new b f c m lc acc l (inl h) ab =
    let z = found_some b f c m _ (observed (keyless a.number) b) _ acc in
    let y = in_keyless b a.number z.0 z.1 in
    ab.nowhere pending_requests z.0 y.0 (inl (h ∙ ap (λ (n : ℕ). (request, n)) (sym y.1)))
named-stands (DnsResolved a) new b f c m lc acc l (inl h) ab = let z = found_some b f c m _ (observed (question a.number) b) _ acc in not_asked b l ab a.number z.0 z.1 h

-- THE PREMISES THAT ARE LEFT: tops, hosts, and numbers that both bring.
pub apart-when-accepted : (i j : Item) (b : Tables) → is_local i.event ≡ true → is_local j.event ≡ true
    → ((t : WindowNumber) → stands i.event b ≡ some t → stands j.event b ≡ some t → ⊥)
    → ((h : Host) → In h (hosts i.event b) → In h (hosts j.event b) → ⊥)
    → ((l : Label) → In l (fresh_labels i.fresh) → In l (fresh_labels j.fresh) → ⊥)
    → (bi bj : Tables) (mi mj : Option Message) → step_tables i b ≡ made bi mi → step_tables j b ≡ made bj mj → Apart i j b
unfolding step_tables
apart-when-accepted i j b li lj tops hosts' new bi bj mi mj ei ej =
    let ai = admitted (fresh_labels i.fresh) b (run (program i.event (cookies_in i.cookies)) b (fresh_labels i.fresh)) bi mi ei in
    let aj = admitted (fresh_labels j.fresh) b (run (program j.event (cookies_in j.cookies)) b (fresh_labels j.fresh)) bj mj ej in
    record {
      tops = tops;
      no-host = hosts';
      new-new = new;
      new-named = λ l k n. named-stands j.event (cookies_in j.cookies) b (fresh_labels j.fresh) bj mj lj aj.0 l n (fresh_absent b (fresh_labels i.fresh) ai.1 l k);
      named_new = λ l n k. named-stands i.event (cookies_in i.cookies) b (fresh_labels i.fresh) bi mi li ai.0 l n (fresh_absent b (fresh_labels j.fresh) aj.1 l k);
    }
