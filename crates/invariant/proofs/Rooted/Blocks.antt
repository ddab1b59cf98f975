-- What the programs do to windows, documents and inputs, block by block: tables that stood, touched by a prelude, stand after the block.
use mathlib.Core.Path.{◌≡◌, refl, sym, ◌∙◌, ap, subst}
use mathlib.Core.Bool.{Bool, true, false, not}
use mathlib.Core.List.{List, map}
use Rattle.std.specs.Prelude.{Some as some}
use Prim.Native.Nat.{ℕ, ◌≤◌}
use lib.ListN.{length}
use Rattle.sorted.specs.Table.{In, insert}
use Rattle.sorted.proofs.Revise.{in_map, map_in, keep_map, sorted_map}
use Rattle.tables.specs.Tables.{windows, documents, inputs, key_of, cmp, Tables}
use Rattle.tables.specs.Labels.{window}
use Rattle.tables.specs.Rows.{setting_active}
use Rattle.wim.specs.Nouns.{WindowNumber, DocumentNumber, Window, Document, Input, News, Under, Opener, Nobody}
use Rattle.wim.specs.Walks.{documents_of, active_among, steps, removal}
use Rattle.wim.specs.Script.{new_top_window, with_window}
use Rattle.wim.specs.Invariant.{Numbered}
use Rattle.invariant.proofs.Rooted.Stands.{Stands, Framed, in_document}
use Rattle.invariant.proofs.Rooted.Added.{framed_top, framed_frame}
use Rattle.invariant.proofs.Rooted.Revised.{Steady, stands_calm}
use Rattle.invariant.proofs.Rooted.Cut.{windows_left, documents_left, inputs_left, stands-cut}
use Rattle.invariant.proofs.Rooted.Removed.{numbers, takes_window, takes_document, cut-closed}
use Rattle.invariant.proofs.Rooted.Switched.{stands-moved}
use Rattle.invariant.proofs.Rooted.Gone.{all_go, closed_all, active_in}
use Rattle.invariant.proofs.Rooted.Filed.{next_input, stands_filed}
use Rattle.invariant.proofs.Rooted.Fresh.{Fresh, new-window}
use Rattle.invariant.proofs.Rooted.Touched.{Touched, carried}

abbrev pub new_frame : ℕ → Document → Window
new_frame n d = record { number = record { 0 = n }; parent = Under d.number; opener = Nobody }

module _ (b : Tables) (N : Numbered b) (S : Stands (b windows) (b documents) (b inputs)) (c : Tables) (T : Touched b c) where
  -- NOTHING MORE
  pub whole_touched : Stands (c windows) (c documents) (c inputs)
  whole_touched = carried Stands b c T (stands_calm (b windows) (b documents) (b inputs) T.change T.calm S)

  -- A NEW WINDOW
  abbrev WithRow : Window → List Window → List Document → List Input → Type 0
  WithRow r ws ds is = length (insert (key_of windows) (cmp windows) r ws) ≤ steps → Stands (insert (key_of windows) (cmp windows) r ws) ds is

  with-window : (r : Window) → (length (insert (key_of windows) (cmp windows) r (b windows)) ≤ steps
      → Framed (insert (key_of windows) (cmp windows) r (b windows)) (b documents) (b inputs)) → WithRow r (c windows) (c documents) (c inputs)
  with-window r f = carried (WithRow r) b c T (λ l. stands_calm (insert (key_of windows) (cmp windows) r (b windows)) (b documents) (b inputs) T.change T.calm
      (record { framed = f l; one-active = S.one-active; only_active = S.only_active }))

  new : (n : ℕ) → Fresh b (window, n) → (x : Window) → In x (b windows) → x.number ≡ record { 0 = n } → ⊥
  new n f x i e = new-window b n f x i (ap (λ (v : WindowNumber). v.0) e)

  pub whole_top : (n : ℕ) → Fresh b (window, n) → (opener : Opener) → WithRow (new_top_window (record { 0 = n }) opener) (c windows) (c documents) (c inputs)
  whole_top n f opener = with-window (new_top_window (record { 0 = n }) opener) (λ l. framed_top (b windows) (b documents) (b inputs) S.framed (new_top_window (record { 0 = n }) opener) (new n f) refl)

  pub whole_frame : (n : ℕ) → Fresh b (window, n) → (d : Document) → In d (b documents) → WithRow (new_frame n d) (c windows) (c documents) (c inputs)
  whole_frame n f d i =
      let e = in_document (b documents) d.number d i refl in
      with-window (new_frame n d)
      (framed_frame (b windows) (b documents) (b inputs) S.framed (new_frame n d) (new n f) d refl e.0 e.1)

  -- A WINDOW CLOSED, with all that was under it before the prelude
  pub whole-closed : (v : WindowNumber) → Stands (windows_left (takes_window (with_window v (removal (b windows) (b documents) (numbers (documents_of (b documents) v))))) (c windows))
      (documents_left (takes_document (removal (b windows) (b documents) (numbers (documents_of (b documents) v)))) (c documents))
      (inputs_left (takes_document (removal (b windows) (b documents) (numbers (documents_of (b documents) v)))) (c inputs))
  whole-closed v =
      carried (λ ws ds is. Stands (windows_left W ws) (documents_left D ds) (inputs_left D is)) b c T
      (subst (λ (l : List Document). Stands (windows_left W (b windows)) l (inputs_left D (b inputs)))
      (sym (keep_map T.change (λ (d : Document). not (D d.number)) (λ d. ap (λ (n : DocumentNumber). not (D n)) (T.calm.steady.number d)) (b documents)))
      (stands_calm (windows_left W (b windows)) (documents_left D (b documents)) (inputs_left D (b inputs)) T.change T.calm
      (stands-cut W D (b windows) (b documents) (b inputs)
      (cut-closed (b windows) (b documents) (b inputs) S (N.sorted windows) N.documents_once (numbers (documents_of (b documents) v))
      (closed_all (b windows) (b documents) (b inputs) S N.documents_once v) v (all_go (b windows) (b documents) (b inputs) S N.documents_once v)) S)))
    where
      W : WindowNumber → Bool
      W = takes_window (with_window v (removal (b windows) (b documents) (numbers (documents_of (b documents) v))))

      D : DocumentNumber → Bool
      D = takes_document (removal (b windows) (b documents) (numbers (documents_of (b documents) v)))

  -- THE ACTIVE DOCUMENT MOVED
  pub whole-moved : (v : WindowNumber) (a e : Document) → active_among (documents_of (b documents) v) ≡ some a → In e (b documents) → e.window ≡ v
      → Stands (c windows) (map (setting_active v e.place true) (map (setting_active v a.place false) (c documents))) (c inputs)
  whole-moved v a e f j w =
      carried (λ ws ds is. Stands ws (map (setting_active v e.place true) (map (setting_active v a.place false) ds)) is) b c T
      (subst (λ (p : ℕ). Stands (b windows) (map (setting_active v p true) (map (setting_active v a.place false) (map g (b documents)))) (b inputs)) (s.place e)
      (stands-moved (b windows) (map g (b documents)) (b inputs) (stands_calm (b windows) (b documents) (b inputs) g T.calm S)
      (sorted_map (key_of documents) (cmp documents) g (λ d t. ((s.window d t).0, s.place d t)) (b documents) (N.sorted documents)) v a.place turn
      (g e) (map_in g (b documents) e j) (s.window e ∙ w)))
    where
      g : Document → Document
      g = T.change

      s : Steady g
      s = T.calm.steady

      turn : (d : Document) → In d (map g (b documents)) → d.window ≡ v → d.active ≡ true → d.place ≡ a.place
      turn d i x y =
          let z = in_map g (b documents) d i in
          let k = active_in (b documents) v a f in
          let o : z.0 ≡ a = S.only_active z.0 a z.1 k.0 (sym (ap (λ (q : Document). q.window) z.2 ∙ s.window z.0) ∙ x ∙ sym k.1) (sym (ap (λ (q : Document). q.active) z.2 ∙ T.calm.active z.0) ∙ y) k.2 in
          ap (λ (q : Document). q.place) z.2 ∙ s.place z.0 ∙ ap (λ (q : Document). q.place) o

  -- AN INPUT FILED, counted before the prelude
  pub whole_filed : (e : Document) → In e (b documents) → (news : News)
      → Stands (c windows) (c documents) (insert (key_of inputs) (cmp inputs) (next_input e.number (b inputs) news) (c inputs))
  whole_filed e j news =
      let x = in_document (b documents) e.number e j refl in
      carried (λ ws ds is. Stands ws ds (insert (key_of inputs) (cmp inputs) (next_input e.number (b inputs) news) is)) b c T
      (stands_calm (b windows) (b documents) _ T.change T.calm
      (stands_filed (b windows) (b documents) (b inputs) S (N.sorted inputs) e.number x.0 x.1 news))
