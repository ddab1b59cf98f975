-- What goes when documents go is a cut: they themselves and all windows and documents under them.
use mathlib.Core.Path.{◌≡◌, sym, ◌∙◌, ap, subst}
use mathlib.Core.Logic.{◌⊎◌}
use mathlib.Core.Bool.{Bool, true, false, ◌||◌}
use mathlib.Core.List.{List, map}
use Prim.Native.Nat.{suc}
use Rattle.sorted.specs.Table.{keep, In, Sorted}
use Rattle.sorted.proofs.Member.{in_keep, keep_in}
use Rattle.sorted.proofs.Revise.{in_map, map_in}
use Rattle.tables.specs.Tables.{windows, key_of, cmp}
use Rattle.tables.specs.Rows.{same_window, one_of, window_one_of}
use Rattle.wim.specs.Nouns.{WindowNumber, DocumentNumber, Window, Document, Input, Under}
use Rattle.wim.specs.Walks.{steps, is_under, Removal, removal}
use Rattle.wim.specs.Script.{with_window}
use Rattle.invariant.proofs.Rooted.Tests.{or_neither, neither_or, fails, not-both, one_in, in_one, window_in, in_window}
use Rattle.wim.proofs.Numbers.{found-document, same-window}
use Rattle.invariant.proofs.Rooted.Stands.{Stands, in_row, in_document}
use Rattle.invariant.proofs.Rooted.Lines.{is_held, top_up, under_settled, under_up}
use Rattle.invariant.proofs.Rooted.Cut.{Cut}

-- THE NUMBERS OF SOME DOCUMENTS.
abbrev pub numbers : List Document → List DocumentNumber
numbers l = map (λ (d : Document). d.number) l

pub numbered_in : (l : List Document) (d : Document) → In d l → one_of d.number (numbers l) ≡ true
numbered_in l d i = in_one d.number (numbers l) (map_in (λ (d : Document). d.number) l d i)

-- each document's number is its own
abbrev pub Once : List Document → Type 0
Once ds = (d e : Document) → In d ds → In e ds → d.number ≡ e.number → d ≡ e

pub in_numbered : (ds : List Document) → Once ds → (l : List Document) → ((d : Document) → In d l → In d ds) → (d : Document) → In d ds → one_of d.number (numbers l) ≡ true → In d l
in_numbered ds once l part d i e =
    let z = in_map (λ (d : Document). d.number) l d.number (one_in d.number (numbers l) e) in
    subst (λ (x : Document). In x l) (once z.0 d (part z.0 z.1) i (sym z.2)) z.1

-- WHAT A REMOVAL TAKES.
abbrev pub takes_window : Removal → WindowNumber → Bool
takes_window gone v = window_one_of v gone.windows

abbrev pub takes_document : Removal → DocumentNumber → Bool
takes_document gone n = one_of n gone.documents

-- with a document go those after it, and with the active one all of its window
abbrev pub Closed : List Document → List DocumentNumber → Type 0
Closed ds gone = (d e : Document) → In d ds → In e ds → e.window ≡ d.window → one_of e.number gone ≡ true → (suc e.place ≡ d.place) ⊎ (e.active ≡ true) → one_of d.number gone ≡ true

module _ (ws : List Window) (ds : List Document) (is : List Input) (S : Stands ws ds is) (s : Sorted (key_of windows) (cmp windows) ws) (once : Once ds) (gone : List DocumentNumber) (closed : Closed ds gone) where
  abbrev under : WindowNumber → Bool
  under v = is_under steps ws ds gone v

  abbrev goes : Document → Bool
  goes d = one_of d.number gone || under d.window

  abbrev W : WindowNumber → Bool
  W v = takes_window (removal ws ds gone) v

  abbrev D : DocumentNumber → Bool
  D n = takes_document (removal ws ds gone) n

  -- WHO STAYS AND WHO GOES.
  pub window-goes : (v : WindowNumber) → takes_window (removal ws ds gone) v ≡ true → is_under steps ws ds gone v ≡ true
  unfolding removal
  window-goes v e =
      let l : List Window = keep (λ (r : Window). under r.number) ws in
      let z = in_map (λ (r : Window). r.number) l v (window_in v (map (λ (r : Window). r.number) l) e) in
      ap under z.2 ∙ (in_keep (λ (r : Window). under r.number) ws z.0 z.1).1

  window-stays : (r : Window) → In r ws → W r.number ≡ false → under r.number ≡ false
  unfolding removal
  window-stays r i e = fails (under r.number) (λ p. not-both (in_window r.number (map (λ (r : Window). r.number) (keep (λ (r : Window). under r.number) ws))
      (map_in (λ (r : Window). r.number) (keep (λ (r : Window). under r.number) ws) r (keep_in (λ (r : Window). under r.number) ws r i p))) e)

  document-goes : (n : DocumentNumber) → D n ≡ true → (d : Document) × In d ds × (n ≡ d.number) × (goes d ≡ true)
  unfolding removal
  document-goes n e =
      let z = in_map (λ (d : Document). d.number) (keep goes ds) n (one_in n (numbers (keep goes ds)) e) in
      let y = in_keep goes ds z.0 z.1 in
      (z.0, y.0, z.2, y.1)

  pub document-stays : (d : Document) → In d ds → takes_document (removal ws ds gone) d.number ≡ false → (one_of d.number gone ≡ false) × (is_under steps ws ds gone d.window ≡ false)
  unfolding removal
  document-stays d i e = or_neither (one_of d.number gone) (under d.window) (fails (goes d) (λ p. not-both (numbered_in (keep goes ds) d (keep_in goes ds d i p)) e))

  pub stays-document : (d : Document) → In d ds → one_of d.number gone ≡ false → is_under steps ws ds gone d.window ≡ false → takes_document (removal ws ds gone) d.number ≡ false
  stays-document d i e f = fails (D d.number) (λ p. (let z = document-goes d.number p in
      let q : z.0 ≡ d = once z.0 d z.1 i (sym z.2) in
      not-both (sym (ap goes q) ∙ z.3) (neither_or (one_of d.number gone) (under d.window) e f)))

  -- the document above a window that stays
  parent-stays : (r : Window) (n : DocumentNumber) → In r ws → W r.number ≡ false → r.parent ≡ Under n → D n ≡ false
  parent-stays r n i e p = fails (D n) (λ q. (let z = document-goes n q in
      let f = in_document ds n z.0 z.1 (sym z.2) in
      let y = found-document ds n f.0 f.1 in
      let o : f.0 ≡ z.0 = once f.0 z.0 y.0 z.1 (y.1 ∙ z.2) in
      let h = is_held ws ds r.number r n f.0 (in_row ws s r i) p f.1 in
      let u = or_neither (one_of f.0.number gone) (is_under 31 ws ds gone f.0.window) (sym (under_up ws ds gone 31 r.number f.0 h) ∙ window-stays r i e) in
      let t = S.framed.tops-there r i in
      let k = under_settled ws ds gone 31 f.0.window t.0 (top_up ws ds 31 r.number t.0 f.0 h t.1) in
      not-both (ap goes o ∙ z.3) (neither_or (one_of f.0.number gone) (under f.0.window) u.0 (sym k ∙ u.1))))

  home_stays : (d : Document) → In d ds → D d.number ≡ false → W d.window ≡ false
  home_stays d i e = fails (W d.window) (λ q. not-both (window-goes d.window q) (document-stays d i e).1)

  history-stays : (d e : Document) → In d ds → In e ds → e.window ≡ d.window → D d.number ≡ false → (suc e.place ≡ d.place) ⊎ (e.active ≡ true) → D e.number ≡ false
  history-stays d e i j w p c =
      let z = document-stays d i p in
      stays-document e j (fails (one_of e.number gone) (λ q. not-both (closed d e i j w q c) z.0)) (ap under w ∙ z.1)

  pub cut-removed : Cut (takes_window (removal ws ds gone)) (takes_document (removal ws ds gone)) ws ds
  cut-removed = record { parents = parent-stays; homes = home_stays; histories = history-stays }

  -- A WINDOW ITSELF GOES TOO, where all its documents go.
  pub cut-closed : (v : WindowNumber) → ((d : Document) → In d ds → d.window ≡ v → one_of d.number gone ≡ true) → Cut (takes_window (with_window v (removal ws ds gone))) (takes_document (removal ws ds gone)) ws ds
  cut-closed v all =
      record {
        parents = λ r n i e. parent-stays r n i (or_neither (same_window r.number v) (W r.number) e).1;
        homes = λ d i e. neither_or (same_window d.window v) (W d.window) (fails (same_window d.window v) (λ q. not-both (all d i (same-window d.window v q)) (document-stays d i e).0)) (home_stays d i e);
        histories = history-stays;
      }
