-- What belongs to a step: everything under its top-level window, everything of its hosts, what it brings. It is level in a browser whose
-- numbers are brought once.
use mathlib.Core.Path.{◌≡◌, refl, sym, ◌∙◌, ap}
use mathlib.Core.Logic.{inl}
use mathlib.Core.Bool.{Bool, true, false, ◌||◌}
use mathlib.Core.List.{List}
use Rattle.std.specs.Prelude.{Option, None as none, Some as some}
use Prim.Native.Nat.{◌≤◌}
use lib.ListN.{length}
use Rattle.sorted.specs.Table.{In}
use Rattle.sorted.proofs.Never.{never}
use Rattle.tables.specs.Tables.{Table, windows, documents, cookies, local_storage, session_storage, inputs, pending_dns, pending_requests, sts, Row, key_of, Tables}
use Rattle.tables.specs.Labels.{Label, window, request, dns, key, document, host, leads, among, parent_label, seal_label, tag, ties, mentions}
use Rattle.wim.specs.Nouns.{WindowNumber, Host, Reference, Parent, Top, Under, Seal, Keyless, Keyed}
use Rattle.wim.specs.Navigable.{is_window}
use Rattle.wim.specs.Invariant.{Numbered}
use Rattle.wim.proofs.Numbers.{same-window, window_same}
use Rattle.invariant.proofs.Numbered.Fresh.{Absent}
use Rattle.invariant.proofs.Rooted.Tests.{fails}
use Rattle.either_order.proofs.Part.{pulls, pulled-refs, Level}
use Rattle.either_order.proofs.Listed.{among_in, host_one_of, tie_mentioned, ref_mentioned}
use Rattle.either_order.proofs.Colour.{Colour, colourless, beneath, hosted, top_colour, or_host, top_of_label, entry, colour, colour_leads, colour_child, colour_document, colour_dns, colour_asked, colour_waiting, colour_key}

-- is a colour one of the step's? st: where it stands; hs: its hosts
abbrev pub ours : Option WindowNumber → List Host → Colour → Bool
ours st hs colourless = false
ours st hs (beneath t) = is_window t st
ours st hs (hosted h) = host_one_of h hs

abbrev pub ours_at : Tables → Option WindowNumber → List Host → Label → Bool
ours_at b st hs l = ours st hs (colour b l.0 l.1)

-- f: the numbers that it brings
unfoldable pub owned : Tables → Option WindowNumber → List Host → List Label → Label → Bool
owned b st hs f l = ours_at b st hs l || among l f

pub window-is : (st : Option WindowNumber) (t : WindowNumber) → is_window t st ≡ true → st ≡ some t
window-is none t e = never (cc)
window-is (some s) t e = ap some (sym (same-window t s e))

pub is-window : (st : Option WindowNumber) (t : WindowNumber) → st ≡ some t → is_window t st ≡ true
is-window st t e = ap (is_window t) e ∙ window_same t t refl

-- where what a reference leads to is the step's, so is the entry
entry_ours : (st : Option WindowNumber) (hs : List Host) (o : Option WindowNumber) (h : Host) → ours st hs (top_colour o) ≡ true → ours st hs (or_host o h) ≡ true
entry_ours st hs none h e = never (cc)
entry_ours st hs (some t) h e = e

module _ (b : Tables) (N : Numbered b) (st : Option WindowNumber) (hs : List Host) (f : List Label) (new : (l : Label) → In l f → Absent l b) where
  left_alone : (c d : Bool) → d ≡ false → (c || d) ≡ c
  left_alone true d e = refl
  left_alone false d e = e

  -- of a label that stands in the tables the colour decides
  pub owned_row : (t : Table) (r : Row t) → In r (b t) → (l : Label) → In l (mentions t r) → owned b st hs f l ≡ ours_at b st hs l
  unfolding owned
  owned_row t r i l j = left_alone (ours_at b st hs l) (among l f) (fails (among l f) (λ e. (new l (among_in l f e)).nowhere t r i j))

  module _ (few : length (b windows) ≤ 31) where
    by_colour : (a : Label) (l : Label) → a ≡ l → (m : Label) → colour b l.0 l.1 ≡ colour b m.0 m.1 → ours_at b st hs a ≡ ours_at b st hs m
    by_colour a l e m h = ap (ours_at b st hs) e ∙ ap (ours st hs) h

    tied : (t : Table) (r : Row t) → In r (b t) → (a : Label) → In a (ties t r) → ours_at b st hs a ≡ ours_at b st hs (tag t (key_of t r))
    tied windows r i a j = par r.parent refl j
      where
        par : (p : Parent) → r.parent ≡ p → In a (parent_label p) → ours_at b st hs a ≡ ours_at b st hs (window, r.number.0)
        par Top e k = absurd k
        par (Under n) e (mathlib.Core.Logic.inr x4) = elim x4 [ ]
        par (Under n) e (inl k) = by_colour a (document, n.0) k (window, r.number.0) (colour_child b N few r n i e)
    tied pending_dns q i a (mathlib.Core.Logic.inr x3) = elim x3 [ ]
    tied documents d i a (mathlib.Core.Logic.inr x'') = elim x'' [ ]
    tied documents d i a (inl k) = by_colour a (document, d.number.0) k (window, d.window.0) (colour_document b N d i)
    tied cookies r i a j = absurd j
    tied local_storage r i a j = absurd j
    tied session_storage r i a j = absurd j
    tied inputs r i a j = absurd j
    tied pending_dns q i a (inl k) = by_colour a (request, q.request.number.0) k (dns, q.number.0) (colour_asked b N q i ∙ sym (colour_dns b N q i))
    tied pending_requests w i a j = seal w.seal refl j
      where
        seal : (s : Seal) → w.seal ≡ s → In a (seal_label s) → ours_at b st hs a ≡ ours_at b st hs (request, w.request.number.0)
        seal Keyless e k = absurd k
        seal (Keyed n) e (mathlib.Core.Logic.inr x4) = elim x4 [ ]
        seal (Keyed n) e (inl k) = by_colour a (key, n.0) k (request, w.request.number.0) (colour_key b N w n i e ∙ sym (colour_waiting b N w i))
    tied sts r i a j = absurd j

    led : (r : Reference) (h : Host) (l : Label) → colour b l.0 l.1 ≡ entry b r h → (a : Label) → a ≡ leads r → ours_at b st hs a ≡ true → ours_at b st hs l ≡ true
    led r h l c a k e =
        let z : ours st hs (top_colour (top_of_label b (leads r))) ≡ true = ap (ours st hs) (sym (colour_leads b r)) ∙ (ap (ours_at b st hs) (sym k) ∙ e) in
        ap (ours st hs) c ∙ entry_ours st hs (top_of_label b (leads r)) h z

    pulled : (t : Table) (r : Row t) → In r (b t) → (a : Label) → In a (pulls t r) → ours_at b st hs a ≡ true → ours_at b st hs (tag t (key_of t r)) ≡ true
    pulled windows r i a j = absurd j
    pulled documents r i a j = absurd j
    pulled cookies r i a j = absurd j
    pulled local_storage r i a j = absurd j
    pulled session_storage r i a j = absurd j
    pulled inputs r i a j = absurd j
    pulled pending_requests w i a (mathlib.Core.Logic.inr x3) = elim x3 [ ]
    pulled pending_dns q i a (mathlib.Core.Logic.inr x'') = elim x'' [ ]
    pulled pending_dns q i a (inl k) = led q.reference q.request.host (dns, q.number.0) (colour_dns b N q i) a k
    pulled pending_requests w i a (inl k) = led w.reference w.request.host (request, w.request.number.0) (colour_waiting b N w i) a k
    pulled sts r i a j = absurd j

    -- WHAT A STEP OWNS HANGS TOGETHER.
    pub level_owned : Level (owned b st hs f) b
    level_owned t r i =
        let own-tag = owned_row t r i (tag t (key_of t r)) (inl refl) in (
          λ a j. owned_row t r i a (tie_mentioned t r a j) ∙ (tied t r i a j ∙ sym own-tag),
          λ a j e. own-tag ∙ pulled t r i a j (sym (owned_row t r i a (ref_mentioned t r a (pulled-refs t r a j))) ∙ e),
        )
