-- The active document of a window moves to another one, or to a new one behind those that stay.
use mathlib.Core.Path.{◌≡◌, refl, sym, ◌∙◌, ap, subst}
use mathlib.Core.Logic.{◌⊎◌, inl, inr}
use mathlib.Core.Bool.{Bool, true, false, cond, ◌&&◌}
use mathlib.Core.List.{List, [], ◌∷◌, map}
use Rattle.std.specs.Prelude.{Some as some}
use Prim.Native.Nat.{ℕ, suc}
use borrow.Author.Tests.{eqb-true, eqb-false, eq-eqb, ne_eqb}
use lib.Dec.{eqb}
use Rattle.sorted.specs.Table.{In, Sorted, insert}
use Rattle.sorted.proofs.Never.{never}
use Rattle.sorted.proofs.Edits.{in_insert}
use Rattle.sorted.proofs.Equal.{put_in}
use Rattle.sorted.proofs.Revise.{in_map, map_in, sorted_map}
use Rattle.tables.specs.Tables.{documents, key_of, cmp}
use Rattle.tables.specs.Rows.{same_window, with_active, setting_active}
use Rattle.wim.specs.Nouns.{WindowNumber, Window, Document, Input}
use Rattle.wim.specs.Walks.{window_numbered}
use Rattle.wim.proofs.Numbers.{same-window, window_same}
use Rattle.invariant.proofs.Numbered.Once.{one-row}
use Rattle.invariant.proofs.Rooted.Tests.{fails, not-both}
use Rattle.invariant.proofs.Rooted.Stands.{Follows, Framed, Stands, linear_pair}
use Rattle.invariant.proofs.Rooted.Revised.{Steady, steady_where, steady_after, framed_revised, stands_revised}
use Rattle.invariant.proofs.Rooted.Added.{still_in, framed_document}

map_map : {A : Type 0} (f g : A → A) (l : List A) → map f (map g l) ≡ map (λ x. f (g x)) l
map_map f g [] = refl
map_map f g (x ∷ l) = ap (f (g x) ∷◌) (map_map f g l)

-- ONE DOCUMENT SET ACTIVE OR NOT.
module _ (v : WindowNumber) (p : ℕ) (a : Bool) where
  steady_set : Steady (setting_active v p a)
  steady_set = steady_where (λ d. same_window d.window v && eqb d.place p) (with_active a) (record { window = λ d. refl; place = λ d. refl; number = λ d. refl })

  set_here : (d : Document) → d.window ≡ v → d.place ≡ p → (setting_active v p a d).active ≡ a
  set_here d e f =
      let w = window_same d.window v e in
      let q = eq-eqb d.place p f in
      rw (w, q)

  set_elsewhere : (d : Document) → (d.window ≡ v → ⊥) → setting_active v p a d ≡ d
  set_elsewhere d n = let w = fails (same_window d.window v) (λ e. n (same-window d.window v e)) in rw w

  set-another : (d : Document) → (d.place ≡ p → ⊥) → setting_active v p a d ≡ d
  set-another d n = go (same_window d.window v) (eqb d.place p) (ne_eqb d.place p n)
    where
      go : (b c : Bool) → c ≡ false → cond (b && c) (with_active a d) d ≡ d
      go true true e = never (cc)
      go true false e = refl
      go false c e = refl

-- where one is set inactive, what is active after was so before, and is not the one
was-active : (v : WindowNumber) (p : ℕ) (d : Document) → (setting_active v p false d).active ≡ true → (d.active ≡ true) × (d.window ≡ v → d.place ≡ p → ⊥)
was-active v p d e = (go (same_window d.window v && eqb d.place p) e, λ w q. not-both e (set_here v p false d w q))
  where
    go : (b : Bool) → (cond b (with_active false d) d).active ≡ true → d.active ≡ true
    go true e = never (cc)
    go false e = e

module _ (ws : List Window) (ds : List Document) (is : List Input) (S : Stands ws ds is) (s : Sorted (key_of documents) (cmp documents) ds) (v : WindowNumber) (p : ℕ)
    (turn : (d : Document) → In d ds → d.window ≡ v → d.active ≡ true → d.place ≡ p) where
  abbrev off : Document → Document
  off = setting_active v p false

  steady_off : Steady off
  steady_off = steady_set v p false

  -- FROM THE ACTIVE ONE AT p TO ANOTHER: NAVBACK and NAVFORWARD.
  module _ (e : Document) (j : In e ds) (w : e.window ≡ v) where
    both : Document → Document
    both d = setting_active v e.place true (off d)

    steady_both : Steady both
    unfolding both
    steady_both = steady_after (setting_active v e.place true) off (steady_set v e.place true) steady_off

    active-there : (d : Document) → d.window ≡ v → d.place ≡ e.place → (both d).active ≡ true
    unfolding both
    active-there d f g = set_here v e.place true (off d) (steady_off.window d ∙ f) (steady_off.place d ∙ g)

    active_elsewhere : (d : Document) → (d.window ≡ v → ⊥) → both d ≡ d
    unfolding both
    active_elsewhere d n = ap (setting_active v e.place true) (set_elsewhere v p false d n) ∙ set_elsewhere v e.place true d n

    -- of the window no other is active
    active_only : (d : Document) → In d ds → d.window ≡ v → (both d).active ≡ true → d.place ≡ e.place
    unfolding both
    active_only d i f a = go (eqb d.place e.place) refl
      where
        go : (b : Bool) → eqb d.place e.place ≡ b → d.place ≡ e.place
        go true g = eqb-true d.place e.place g
        go false g =
            let n = set-another v e.place true (off d) (λ q. eqb-false d.place e.place g (sym (steady_off.place d) ∙ q)) in
            let z = was-active v p d (sym (ap (λ (x : Document). x.active) n) ∙ a) in
            absurd (z.1 f (turn d i f z.0))

    pub stands-moved : Stands ws (map (setting_active v e.place true) (map (setting_active v p false) ds)) is
    unfolding both
    stands-moved = subst (λ (l : List Document). Stands ws l is) (sym (map_map (setting_active v e.place true) off ds)) (stands_revised ws ds is both steady_both S one only)
      where
        one : (d : Document) → In d ds → (x : Document) × In x ds × (x.window ≡ d.window) × ((both x).active ≡ true)
        one d i = go (same_window d.window v) refl
          where
            go : (b : Bool) → same_window d.window v ≡ b → (x : Document) × In x ds × (x.window ≡ d.window) × ((both x).active ≡ true)
            go true f = (e, j, w ∙ sym (same-window d.window v f), active-there e w refl)
            go false f =
                let z = S.one-active d i in
                (z.0, z.1, z.2, ap (λ (x : Document). x.active) (active_elsewhere z.0 (λ q. not-both (window_same d.window v (sym z.2 ∙ q)) f)) ∙ z.3)

        only : (x y : Document) → In x ds → In y ds → x.window ≡ y.window → (both x).active ≡ true → (both y).active ≡ true → x ≡ y
        only x y i k f a b = go (same_window x.window v) refl
          where
            go : (c : Bool) → same_window x.window v ≡ c → x ≡ y
            go true g =
                let u = same-window x.window v g in
                let q : x.place ≡ y.place = active_only x i u a ∙ sym (active_only y k (sym f ∙ u) b) in
                one-row (key_of documents) (cmp documents) linear_pair ds s x y i k (λ t. ((f t).0, q t))
            go false g =
                let n : x.window ≡ v → ⊥ = λ q. not-both (window_same x.window v q) g in
                S.only_active x y i k f (sym (ap (λ (z : Document). z.active) (active_elsewhere x n)) ∙ a) (sym (ap (λ (z : Document). z.active) (active_elsewhere y (λ q. n (f ∙ q)))) ∙ b)

  -- FROM THE ACTIVE ONE AT p TO A NEW ONE.
  module _ (d : Document) (w : d.window ≡ v) (a : d.active ≡ true) (new : (x : Document) → In x ds → x.number ≡ d.number → ⊥) (free : (x : Document) → In x ds → key_of documents x ≡ key_of documents d → ⊥) where
    abbrev old : List Document
    old = map (setting_active v p false) ds

    old_new : (x : Document) → In x old → x.number ≡ d.number → ⊥
    old_new x i e = let z = in_map off ds x i in new z.0 z.1 (sym (ap (λ (y : Document). y.number) z.2 ∙ steady_off.number z.0) ∙ e)

    same_key : (x : Document) → key_of documents (off x) ≡ key_of documents x
    same_key x t = ((steady_off.window x t).0, steady_off.place x t)

    old_free : (x : Document) → In x old → key_of documents x ≡ key_of documents d → ⊥
    old_free x i e = let z = in_map off ds x i in free z.0 z.1 (sym (ap (key_of documents) z.2 ∙ same_key z.0) ∙ e)

    sorted_old : Sorted (key_of documents) (cmp documents) old
    sorted_old = sorted_map (key_of documents) (cmp documents) off same_key ds s

    pub stands-loaded : (r : Window) → window_numbered ws v ≡ some r → Follows ds d
        → Stands ws (insert (key_of documents) (cmp documents) d old) is
    stands-loaded r e c =
        record {
          framed = frame;
          one-active = λ x i. one x (in_insert (key_of documents) (cmp documents) d old x i);
          only_active = λ x y i k. only x y (in_insert (key_of documents) (cmp documents) d old x i) (in_insert (key_of documents) (cmp documents) d old y k);
        }
      where
        F : Framed ws old is
        F = framed_revised ws ds is off steady_off S.framed

        behind : Follows ds d → Follows old d
        behind (inl q) = inl q
        behind (inr z) = inr (off z.0, map_in off ds z.0 z.1, steady_off.window z.0 ∙ z.2, ap suc (steady_off.place z.0) ∙ z.3)

        frame : Framed ws (insert (key_of documents) (cmp documents) d old) is
        frame = framed_document ws old is F d sorted_old old_new old_free r (ap (window_numbered ws) w ∙ e) (behind c)

        in_new : In d (insert (key_of documents) (cmp documents) d old)
        in_new = put_in (key_of documents) (cmp documents) linear_pair d old

        one : (x : Document) → (x ≡ d) ⊎ In x old → (y : Document) × In y (insert (key_of documents) (cmp documents) d old) × (y.window ≡ x.window) × (y.active ≡ true)
        one x (inl q) = (d, in_new, sym (ap (λ (y : Document). y.window) q), a)
        one x (inr i) = go (same_window z.0.window v) refl
          where
            z : (y : Document) × In y ds × (x ≡ off y)
            z = in_map off ds x i

            here : x.window ≡ z.0.window
            here = ap (λ (y : Document). y.window) z.2 ∙ steady_off.window z.0

            go : (b : Bool) → same_window z.0.window v ≡ b → (y : Document) × In y (insert (key_of documents) (cmp documents) d old) × (y.window ≡ x.window) × (y.active ≡ true)
            go true g = (d, in_new, w ∙ sym (here ∙ same-window z.0.window v g), a)
            go false g =
                let u = S.one-active z.0 z.1 in
                let n = set_elsewhere v p false u.0 (λ q. not-both (window_same z.0.window v (sym u.2 ∙ q)) g) in
                let k : In u.0 old = subst (λ (y : Document). In y old) n (map_in off ds u.0 u.1) in
                (u.0, still_in ws old is F d sorted_old old_new old_free u.0 k, u.2 ∙ sym here, u.3)

        -- of those that were there none is active in the window
        none_else : {A : Type 0} (y : Document) → In y old → y.window ≡ v → y.active ≡ true → A
        none_else y i f b =
            let z = in_map off ds y i in
            let h : z.0.window ≡ v = sym (ap (λ (x : Document). x.window) z.2 ∙ steady_off.window z.0) ∙ f in
            let t = was-active v p z.0 (sym (ap (λ (x : Document). x.active) z.2) ∙ b) in
            absurd (t.1 h (turn z.0 z.1 h t.0))

        only : (x y : Document) → (x ≡ d) ⊎ In x old → (y ≡ d) ⊎ In y old → x.window ≡ y.window → x.active ≡ true → y.active ≡ true → x ≡ y
        only x y (inl q) (inl u) f b g = q ∙ sym u
        only x y (inl q) (inr k) f b g = none_else y k (sym f ∙ ap (λ (z : Document). z.window) q ∙ w) g
        only x y (inr i) (inl u) f b g = none_else x i (f ∙ ap (λ (z : Document). z.window) u ∙ w) b
        only x y (inr i) (inr k) f b g =
            let z = in_map off ds x i in
            let u = in_map off ds y k in
            let h : z.0.window ≡ u.0.window = sym (ap (λ (x : Document). x.window) z.2 ∙ steady_off.window z.0) ∙ f ∙ ap (λ (x : Document). x.window) u.2 ∙ steady_off.window u.0 in
            let m = was-active v p z.0 (sym (ap (λ (x : Document). x.active) z.2) ∙ b) in
            let n = was-active v p u.0 (sym (ap (λ (x : Document). x.active) u.2) ∙ g) in
            z.2 ∙ ap off (S.only_active z.0 u.0 z.1 u.1 h m.0 n.0) ∙ sym u.2
