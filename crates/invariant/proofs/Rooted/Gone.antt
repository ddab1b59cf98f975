-- The documents that go with a window, and those behind the active one: with a document go those after it, and with the active one all of its window.
use mathlib.Core.Path.{◌≡◌, sym, ◌∙◌, ap}
use mathlib.Core.Logic.{◌⊎◌, inl, inr}
use mathlib.Core.Bool.{true}
use mathlib.Core.List.{List}
use Rattle.std.specs.Prelude.{Option, None as none, Some as some}
use Prim.Native.Nat.{suc, ◌<◌}
use native.Mathlib.Omega.{arith}
use borrow.Author.Tests.{ltb-true, lt-ltb}
use lib.Dec.{ltb}
use Rattle.sorted.specs.Table.{In}
use Rattle.sorted.proofs.Never.{never}
use Rattle.sorted.proofs.Member.{in_keep, keep_in, find_in, none_pass}
use Rattle.tables.specs.Rows.{same_window, one_of}
use Rattle.wim.specs.Nouns.{WindowNumber, Window, Document, Input}
use Rattle.wim.specs.Walks.{documents_of, active_among}
use Rattle.wim.specs.Response.{later_than}
use Rattle.wim.proofs.Numbers.{same-window, window_same}
use Rattle.invariant.proofs.Rooted.Tests.{not-both}
use Rattle.invariant.proofs.Rooted.Stands.{Stands}
use Rattle.invariant.proofs.Rooted.Removed.{numbers, numbered_in, in_numbered, Once, Closed}

module _ (ds : List Document) (v : WindowNumber) where
  -- A WINDOW'S HISTORY.
  pub in_history : (d : Document) → In d (documents_of ds v) → In d ds × (d.window ≡ v)
  unfolding documents_of
  in_history d i = let z = in_keep (λ (d : Document). same_window d.window v) ds d i in (z.0, same-window d.window v z.1)

  pub history_in : (d : Document) → In d ds → d.window ≡ v → In d (documents_of ds v)
  unfolding documents_of
  history_in d i e = keep_in (λ (d : Document). same_window d.window v) ds d i (window_same d.window v e)

  -- its active document
  pub active_in : (d : Document) → active_among (documents_of ds v) ≡ some d → In d ds × (d.window ≡ v) × (d.active ≡ true)
  active_in d e = let z = find_in (λ (d : Document). d.active) (documents_of ds v) d e in let y = in_history d z.0 in (y.0, y.1, z.1)

module _ (ws : List Window) (ds : List Document) (is : List Input) (S : Stands ws ds is) (once : Once ds) (v : WindowNumber) where
  -- ALL OF A WINDOW
  pub all_go : (d : Document) → In d ds → d.window ≡ v → one_of d.number (numbers (documents_of ds v)) ≡ true
  all_go d i w = numbered_in (documents_of ds v) d (history_in ds v d i w)

  pub closed_all : Closed ds (numbers (documents_of ds v))
  closed_all d e i j w g c = all_go d i (sym w ∙ (in_history ds v e (in_numbered ds once (documents_of ds v) (λ x k. (in_history ds v x k).0) e j g)).1)

  -- THOSE BEHIND THE ACTIVE ONE
  pub none-active : active_among (documents_of ds v) ≡ none → (d : Document) → In d ds → d.window ≡ v → ⊥
  none-active e d i w =
      let z = S.one-active d i in
      not-both z.3 (none_pass (λ (d : Document). d.active) (documents_of ds v) e z.0 (history_in ds v z.0 z.1 (z.2 ∙ w)))

  pub in_later : (a d : Document) → In d (later_than (some a) (documents_of ds v)) → In d ds × (d.window ≡ v) × (a.place < d.place)
  in_later a d i =
      let z = in_keep (λ (d : Document). ltb a.place d.place) (documents_of ds v) d i in
      let y = in_history ds v d z.0 in
      (y.0, y.1, ltb-true a.place d.place z.1)

  pub later_in : (a d : Document) → In d ds → d.window ≡ v → a.place < d.place → In d (later_than (some a) (documents_of ds v))
  later_in a d i w l = keep_in (λ (d : Document). ltb a.place d.place) (documents_of ds v) d (history_in ds v d i w) (lt-ltb a.place d.place l)

  -- a document whose number is among theirs is one of them
  pub is_later : (o : Option Document) (d : Document) → In d ds → one_of d.number (numbers (later_than o (documents_of ds v))) ≡ true → In d (later_than o (documents_of ds v))
  is_later none d i e = never (cc)
  is_later (some a) d i e = in_numbered ds once (later_than (some a) (documents_of ds v)) (λ x k. (in_later a x k).0) d i e

  pub closed-later : (o : Option Document) → active_among (documents_of ds v) ≡ o → Closed ds (numbers (later_than o (documents_of ds v)))
  closed-later none f d e i j w g c = never (cc)
  closed-later (some a) f d e i j w g c =
      let z = in_later a e (is_later (some a) e j g) in
      numbered_in (later_than (some a) (documents_of ds v)) d (later_in a d i (sym w ∙ z.1) (go z c))
    where
      go : In e ds × (e.window ≡ v) × (a.place < e.place) → (suc e.place ≡ d.place) ⊎ (e.active ≡ true) → a.place < d.place
      go z (inl p) = let q = z.2 in omega arith
      go z (inr p) =
          let y = active_in ds v a f in
          let q : e.place ≡ a.place = ap (λ (x : Document). x.place) (S.only_active e a j y.0 (z.1 ∙ sym y.1) p y.2) in
          let l = z.2 in
          absurd (omega arith)
