-- A document is loaded: those behind the active one go with everything under them, and it stands behind the active one, active in its stead.
use mathlib.Core.Path.{◌≡◌, refl, sym, ◌∙◌, ap}
use mathlib.Core.Logic.{◌⊎◌, inl, inr}
use mathlib.Core.Bool.{Bool, true, false, not}
use mathlib.Core.List.{List, [], ◌∷◌, map}
use Rattle.std.specs.Prelude.{Option, None as none, Some as some}
use Prim.Native.Nat.{ℕ, suc, ◌≤◌, ◌<◌}
use native.Mathlib.Omega.{arith}
use borrow.Author.Tests.{leb-true, le-leb}
use lib.Dec.{leb}
use lib.ListN.{length}
use Rattle.sorted.specs.Table.{In, Sorted, insert}
use Rattle.sorted.proofs.Never.{never}
use Rattle.sorted.proofs.Member.{in_keep, keep_in}
use Rattle.sorted.proofs.Sorted.{sorted-keep}
use Rattle.tables.specs.Tables.{windows, documents, key_of, cmp}
use Rattle.tables.specs.Rows.{same_window, one_of, setting_active}
use Rattle.wim.specs.Nouns.{WindowNumber, DocumentNumber, Window, Document, Input}
use Rattle.wim.specs.Walks.{documents_of, active_among, window_numbered, document_numbered, steps, top_above, is_under, removal}
use Rattle.wim.specs.History.{place_of}
use Rattle.wim.specs.Response.{later_than, up_to}
use Rattle.invariant.proofs.Rooted.Tests.{fails, not-both}
use Rattle.wim.proofs.Numbers.{row-numbered, found-document, window-eq}
use Rattle.invariant.proofs.Rooted.Stands.{Follows, Stands}
use Rattle.invariant.proofs.Rooted.Lines.{not_under_own}
use Rattle.invariant.proofs.Rooted.Counted.{rising, Gapless, counted}
use Rattle.invariant.proofs.Rooted.Cut.{windows_left, documents_left, inputs_left, Cut, row_stays, was, stays, stands-cut}
use Rattle.invariant.proofs.Rooted.Removed.{numbers, numbered_in, Once, takes_window, takes_document, Closed, window-goes, document-stays, stays-document, cut-removed}
use Rattle.invariant.proofs.Rooted.Switched.{stands-loaded}
use Rattle.invariant.proofs.Rooted.Gone.{in_history, history_in, active_in, none-active, in_later, later_in, is_later, closed-later}

no_members : {A : Type 0} (l : List A) → ((x : A) → In x l → ⊥) → length l ≡ 0
no_members [] h = refl
no_members (x ∷ l) h = absurd (h x (inl refl))

module _ (ws : List Window) (ds : List Document) (is : List Input) (S : Stands ws ds is) (s : Sorted (key_of windows) (cmp windows) ws) (t : Sorted (key_of documents) (cmp documents) ds) (once : Once ds)
    (v : WindowNumber) (r : Window) (found : window_numbered ws v ≡ some r) (o : Option Document) (current : active_among (documents_of ds v) ≡ o) where
  -- those that go, and how many stay
  abbrev later : Option Document → List DocumentNumber
  later o = numbers (later_than o (documents_of ds v))

  abbrev count : Option Document → ℕ
  count o = length (up_to o (documents_of ds v))

  abbrev gone : List DocumentNumber
  gone = later o

  abbrev W : WindowNumber → Bool
  W x = takes_window (removal ws ds gone) x

  abbrev D : DocumentNumber → Bool
  D n = takes_document (removal ws ds gone) n

  closed : Closed ds gone
  closed = closed-later ws ds is S once v o current

  cut : Cut W D ws ds
  cut = cut-removed ws ds is S s once gone closed

  -- THE WINDOW STAYS: no document of its own stands above it.
  own : (o : Option Document) (n : DocumentNumber) (d : Document) → document_numbered ds n ≡ some d → one_of d.number (later o) ≡ true → d.window ≡ v
  own none n d e g = never (cc)
  own (some a) n d e g = (in_later ws ds is S once v a d (is_later ws ds is S once v (some a) d (found-document ds n d e).0 g)).1

  not_under : is_under steps ws ds gone v ≡ false
  not_under =
      let z = row-numbered ws v r found in
      let x = S.framed.tops-there r z.0 in
      fails (is_under steps ws ds gone v) (λ u. not_under_own ws ds gone v (own o) steps steps x.0 u (ap (top_above steps ws ds) (sym z.1) ∙ x.1))

  window-stays : W v ≡ false
  window-stays = fails (W v) (λ q. not-both (window-goes ws ds is S s once gone closed v q) not_under)

  -- HOW MANY STAY: the active document's place says it.
  kept-count : (a : Document) → active_among (documents_of ds v) ≡ some a → count (some a) ≡ a.place
  unfolding documents_of
  kept-count a e =
      let k : Sorted (key_of documents) (cmp documents) (documents_of ds v) = sorted-keep (key_of documents) (cmp documents) (λ (d : Document). same_window d.window v) ds t in
      let m : Sorted (key_of documents) (cmp documents) l = sorted-keep (key_of documents) (cmp documents) (λ (d : Document). leb d.place a.place) (documents_of ds v) k in
      let h = counted (λ (d : Document). d.place) l (rising (key_of documents) v.0 l m (λ x i. ap (λ (y : WindowNumber). y.0) (was_in x i).1)) gapless in
      let z = active_in ds v a e in
      let u = h.0 a (in_l a z.0 z.1 (omega arith)) in
      last u h.1
    where
      l : List Document
      l = up_to (some a) (documents_of ds v)

      was_in : (x : Document) → In x l → In x ds × (x.window ≡ v) × (x.place ≤ a.place)
      was_in x i = let z = in_keep (λ (d : Document). leb d.place a.place) (documents_of ds v) x i in let y = in_history ds v x z.0 in (y.0, y.1, leb-true x.place a.place z.1)

      in_l : (x : Document) → In x ds → x.window ≡ v → x.place ≤ a.place → In x l
      in_l x i w p = keep_in (λ (d : Document). leb d.place a.place) (documents_of ds v) x (history_in ds v x i w) (le-leb x.place a.place p)

      gapless : Gapless (λ (d : Document). d.place) 0 l
      gapless x i = go (S.framed.places x (was_in x i).0)
        where
          go : Follows ds x → (x.place ≡ 1) ⊎ ((y : Document) × In y l × (suc y.place ≡ x.place))
          go (inl p) = inl p
          go (inr e) = let z = was_in x i in let p = z.2 in let q = e.3 in inr (e.0, in_l e.0 e.1 (e.2 ∙ z.1) (omega arith), e.3)

      last : a.place ≤ length l → (length l ≡ 0) ⊎ ((y : Document) × In y l × (y.place ≡ length l)) → length l ≡ a.place
      last u (inl p) = omega arith
      last u (inr y) = let p = (was_in y.0 y.1).2 in let q = y.2 in omega arith

  -- THE NEW DOCUMENT
  module _ (x : Document) (w : x.window ≡ v) (a : x.active ≡ true) (p : x.place ≡ suc (length (up_to o (documents_of ds v)))) (new : (d : Document) → In d ds → d.number ≡ x.number → ⊥) where
    left : Stands (windows_left W ws) (documents_left D ds) (inputs_left D is)
    left = stands-cut W D ws ds is cut S

    had : (d : Document) → In d (documents_left D ds) → In d ds × (one_of d.number gone ≡ false)
    had d i =
        let z = was W D ws ds is cut S d i in
        (z.0, (document-stays ws ds is S s once gone closed d z.0 z.1).0)

    pub stands-load : Stands (windows_left (takes_window (removal ws ds (numbers (later_than o (documents_of ds v))))) ws)
        (insert (key_of documents) (cmp documents) x (map (setting_active v (place_of o) false) (documents_left (takes_document (removal ws ds (numbers (later_than o (documents_of ds v))))) ds)))
        (inputs_left (takes_document (removal ws ds (numbers (later_than o (documents_of ds v))))) is)
    stands-load =
        stands-loaded (windows_left W ws) (documents_left D ds) (inputs_left D is) left
        (sorted-keep (key_of documents) (cmp documents) (λ (d : Document). not (D d.number)) ds t) v (place_of o) (λ d i f b. turn o current d (had d i).0 f b) x w a (λ d i. new d (had d i).0) (λ d i k. free o current p d (had d i) k)
        r (row_stays W D ws ds is cut S v window-stays ∙ found) (behind o current p kept)
      where
        turn : (o : Option Document) → active_among (documents_of ds v) ≡ o → (d : Document) → In d ds → d.window ≡ v → d.active ≡ true → d.place ≡ place_of o
        turn none e d i f b = absurd (none-active ws ds is S once v e d i f)
        turn (some c) e d i f b = let z = active_in ds v c e in ap (λ (y : Document). y.place) (S.only_active d c i z.0 (f ∙ sym z.1) b z.2)

        free : (o : Option Document) → active_among (documents_of ds v) ≡ o → x.place ≡ suc (count o) → (d : Document) → In d ds × (one_of d.number (later o) ≡ false) → key_of documents d ≡ key_of documents x → ⊥
        free o e q d h k = go o e q h.1 (window-eq d.window x.window (ap (λ (y : ℕ × ℕ). y.0) k) ∙ w) (ap (λ (y : ℕ × ℕ). y.1) k)
          where
            go : (o : Option Document) → active_among (documents_of ds v) ≡ o → x.place ≡ suc (count o) → one_of d.number (later o) ≡ false → d.window ≡ v → d.place ≡ x.place → ⊥
            go none e q g f m = none-active ws ds is S once v e d h.0 f
            go (some c) e q g f m = let n = kept-count c e in not-both (numbered_in (later_than (some c) (documents_of ds v)) d (later_in ws ds is S once v c d h.0 f (omega arith))) g

        kept : (c : Document) → In c ds → c.window ≡ v → one_of c.number gone ≡ false → In c (documents_left D ds)
        kept c i f g =
            stays W D ws ds is cut S c i (stays-document ws ds is S s once gone closed c i g (ap (is_under steps ws ds gone) f ∙ not_under))

        behind : (o : Option Document) → active_among (documents_of ds v) ≡ o → x.place ≡ suc (count o) → ((c : Document) → In c ds → c.window ≡ v → one_of c.number (later o) ≡ false → In c (documents_left D ds))
            → Follows (documents_left D ds) x
        behind none e q k = let n = no_members (documents_of ds v) (λ d i. let z = in_history ds v d i in none-active ws ds is S once v e d z.0 z.1) in inl (omega arith)
        behind (some c) e q k =
            let z = active_in ds v c e in
            let n = kept-count c e in
            inr (c, k c z.0 z.1 (fails _ (λ g. self (in_later ws ds is S once v c c (is_later ws ds is S once v (some c) c z.0 g)).2)), z.1 ∙ sym w, omega arith)
          where
            self : c.place < c.place → ⊥
            self l = omega arith
