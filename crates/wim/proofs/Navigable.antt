-- What is computed by `may_navigate` is the least set of Definition 38: sound and complete, for any tables.
use mathlib.Core.Path.{◌≡◌, refl, sym, ◌∙◌, ap, subst}
use mathlib.Core.Logic.{◌⊎◌, inl, inr}
use mathlib.Core.Bool.{Bool, true, false, cond, ◌&&◌, ◌||◌}
use mathlib.Core.List.{List}
use Rattle.std.specs.Prelude.{Option, None as none, Some as some}
use Prim.Native.Nat.{ℕ, zero, suc, ◌≤◌, ◌<◌}
use native.Mathlib.Omega.{arith}
use native.Mathlib.Decide.{dec_le, le_ind}
use lib.ListN.{length}
use Rattle.sorted.specs.Table.{In, is_some}
use Rattle.wim.specs.Nouns.{WindowNumber, Origin, Window, Document, Opener, Nobody, OpenedBy}
use Rattle.wim.specs.Walks.{active_document, has_origin, Above, missing, topmost, held_by, above, reached_at, steps, reached_from, is_reached}
use Rattle.wim.specs.Navigable.{ChildOf⁺, child, further, ChildOf*, HasOrigin, opener_of, Navigable, same-origin, top-level, ancestor, opened, ancestor_at, ancestor_has, is_window, navigable_directly, follows, may_navigate}
use Rattle.sorted.proofs.Never.{never}
use Rattle.sorted.proofs.Tests.{and_left, and_right, and_both, or_one, or_left, or_right}
use Rattle.wim.proofs.Numbers.{same-window, window_same, row-numbered}
use Rattle.wim.proofs.Pigeon.{pigeon}
use Rattle.wim.proofs.Walks.{reached-up, reached-from, has-row}

-- whether the opener passes a test
abbrev pub by_opener : (WindowNumber → Bool) → Opener → Bool
by_opener f a = elim a as (λ _. Bool) [ Nobody ↦ false | OpenedBy p ↦ f p ]

pub by-opener : (f : WindowNumber → Bool) (a : Opener) → by_opener f a ≡ true → (p : WindowNumber) × (a ≡ OpenedBy p) × (f p ≡ true)
by-opener f Nobody e = never (cc)
by-opener f (OpenedBy p) e = (p, refl, e)

-- RULE 2: the window from which another is reached is the one top-level window that this is, or is a child of.
module _ (ws : List Window) (ds : List Document) where
  pub further* : (v p : WindowNumber) (d : Document) → above ws ds v ≡ held_by d → d.active ≡ true → ChildOf* ws ds d.window p → ChildOf* ws ds v p
  further* v p d f a (inl e) = inr (subst (ChildOf⁺ ws ds v) e (child f a))
  further* v p d f a (inr c) = inr (further f a c)

  pub top_sound : (n : ℕ) (w v : WindowNumber) → reached_from n ws ds w ≡ some v → ChildOf* ws ds w v × (above ws ds v ≡ topmost)
  unfolding reached_from
  top_sound zero w v e = never (cc)
  top_sound (suc n) w v e = go (above ws ds w) refl e (top_sound n)
    where
      further-up : (d : Document) (b : Bool) → d.active ≡ b → above ws ds w ≡ held_by d → cond b (reached_from n ws ds d.window) none ≡ some v
          → (reached_from n ws ds d.window ≡ some v → ChildOf* ws ds d.window v × (above ws ds v ≡ topmost)) → ChildOf* ws ds w v × (above ws ds v ≡ topmost)
      further-up d true a f e ih = let z = ih e in (further* w v d f a z.0, z.1)
      further-up d false a f e ih = never (cc)

      go : (u : Above) → above ws ds w ≡ u → reached_at (reached_from n ws ds) w u ≡ some v
          → ((x t : WindowNumber) → reached_from n ws ds x ≡ some t → ChildOf* ws ds x t × (above ws ds t ≡ topmost)) → ChildOf* ws ds w v × (above ws ds v ≡ topmost)
      go missing f e ih = never (cc)
      go topmost f e ih = let z : w ≡ v = cc in (inl z, subst (λ (x : WindowNumber). above ws ds x ≡ topmost) z f)
      go (held_by d) f e ih = further-up d d.active refl f e (ih d.window v)

  itself_top : (n : ℕ) (v t : WindowNumber) → above ws ds v ≡ topmost → reached_from n ws ds v ≡ some t → t ≡ v
  unfolding reached_from
  itself_top zero v t f e = never (cc)
  itself_top (suc n) v t f e = let z : some v ≡ some t = sym (ap (reached_at (reached_from n ws ds) v) f) ∙ e in cc

  child-top : (v p : WindowNumber) → ChildOf⁺ ws ds v p → above ws ds p ≡ topmost → (n : ℕ) (t : WindowNumber) → reached_from n ws ds v ≡ some t → t ≡ p
  unfolding reached_from
  child-top v p (child {d = d} f a) h zero t e = never (cc)
  child-top v p (child {d = d} f a) h (suc n) t e = itself_top n d.window t h (reached-up ws ds n v t d f e).1
  child-top v p (further {d = d} f a c) h zero t e = never (cc)
  child-top v p (further {d = d} f a c) h (suc n) t e = child-top d.window p c h n t (reached-up ws ds n v t d f e).1

  pub top_complete : (w v : WindowNumber) → is_reached ws ds w ≡ true → ChildOf* ws ds w v → above ws ds v ≡ topmost → reached_from steps ws ds w ≡ some v
  top_complete w v r c h = let z = reached-from ws ds w r in z.1 ∙ ap some (go c z.0 z.1)
    where
      go : ChildOf* ws ds w v → (t : WindowNumber) → reached_from steps ws ds w ≡ some t → t ≡ v
      go (inl e) t f = itself_top steps w t (subst (λ (x : WindowNumber). above ws ds x ≡ topmost) (sym e) h) f ∙ e
      go (inr c) t f = child-top w v c h steps t f

module _ (ws : List Window) (ds : List Document) (o : Origin) where
  -- RULE 3: an ancestor found is one, and one of a reached window is found within the steps by which that is reached.
  ancestor_sound : (n : ℕ) (v : WindowNumber) → ancestor_has n ws ds o v ≡ true → (p : WindowNumber) × ChildOf⁺ ws ds v p × HasOrigin ds o p
  unfolding ancestor_has
  ancestor_sound zero v e = never (cc)
  ancestor_sound (suc n) v e = go (above ws ds v) refl e (ancestor_sound n)
    where
      go : (u : Above) → above ws ds v ≡ u → ancestor_at (ancestor_has n ws ds o) ds o u ≡ true
          → ((x : WindowNumber) → ancestor_has n ws ds o x ≡ true → (p : WindowNumber) × ChildOf⁺ ws ds x p × HasOrigin ds o p) → (p : WindowNumber) × ChildOf⁺ ws ds v p × HasOrigin ds o p
      go missing f e ih = never (cc)
      go topmost f e ih = never (cc)
      go (held_by d) f e ih = one (or_one (has_origin o (active_document ds d.window)) (ancestor_has n ws ds o d.window) (and_right d.active _ e))
        where
          a : d.active ≡ true
          a = and_left d.active _ e

          one : (has_origin o (active_document ds d.window) ≡ true) ⊎ (ancestor_has n ws ds o d.window ≡ true) → (p : WindowNumber) × ChildOf⁺ ws ds v p × HasOrigin ds o p
          one (inl h) = (d.window, child f a, h)
          one (inr h) = let z = ih d.window h in (z.0, further f a z.1, z.2)

  ancestor_complete : (v p : WindowNumber) → ChildOf⁺ ws ds v p → HasOrigin ds o p → (n : ℕ) (t : WindowNumber) → reached_from n ws ds v ≡ some t → ancestor_has n ws ds o v ≡ true
  unfolding ancestor_has reached_from
  ancestor_complete v p (child {d = d} f a) h zero t e = never (cc)
  ancestor_complete v p (child {d = d} f a) h (suc n) t e = rw f (and_both d.active _ a (or_left _ _ h))
  ancestor_complete v p (further {d = d} f a c) h zero t e = never (cc)
  ancestor_complete v p (further {d = d} f a c) h (suc n) t e =
      rw f (and_both d.active _ a (or_right (has_origin o (active_document ds d.window)) _ (ancestor_complete d.window p c h n t (reached-up ws ds n v t d f e).1)))

  module _ (w : WindowNumber) where
    -- RULES 1 TO 3.
    is-window : (v : WindowNumber) (a : Option WindowNumber) → is_window v a ≡ true → a ≡ some v
    is-window v none e = never (cc)
    is-window v (some t) e = ap {B = Option WindowNumber} some (sym (same-window v t e))

    pub directly_sound : (v : WindowNumber) → is_reached ws ds v ≡ true → navigable_directly ws ds o w v ≡ true → Navigable ws ds o w v
    unfolding navigable_directly
    directly_sound v r e = go (or_one (has_origin o (active_document ds v)) _ e)
      where
        rest : (is_window v (reached_from steps ws ds w) ≡ true) ⊎ (ancestor_has steps ws ds o v ≡ true) → Navigable ws ds o w v
        rest (inl h) =
            let e : reached_from steps ws ds w ≡ some v = is-window v (reached_from steps ws ds w) h in
            let z = top_sound ws ds steps w v e in
            top-level r (ap is_some e) z.0 z.1
        rest (inr h) = let z = ancestor_sound steps v h in ancestor r z.1 z.2

        go : (has_origin o (active_document ds v) ≡ true) ⊎ ((is_window v (reached_from steps ws ds w) || ancestor_has steps ws ds o v) ≡ true) → Navigable ws ds o w v
        go (inl h) = same-origin r h
        go (inr h) = rest (or_one (is_window v (reached_from steps ws ds w)) _ h)

    same_directly : (v : WindowNumber) → HasOrigin ds o v → navigable_directly ws ds o w v ≡ true
    unfolding navigable_directly
    same_directly v h = or_left _ _ h

    top_directly : (v : WindowNumber) → reached_from steps ws ds w ≡ some v → navigable_directly ws ds o w v ≡ true
    unfolding navigable_directly
    top_directly v h = or_right (has_origin o (active_document ds v)) _ (or_left _ _ (ap (is_window v) h ∙ window_same v v refl))

    ancestor_directly : (v p : WindowNumber) → is_reached ws ds v ≡ true → ChildOf⁺ ws ds v p → HasOrigin ds o p → navigable_directly ws ds o w v ≡ true
    unfolding navigable_directly
    ancestor_directly v p r c h =
        let z = reached-from ws ds v r in
        or_right (has_origin o (active_document ds v)) _ (or_right (is_window v (reached_from steps ws ds w)) _ (ancestor_complete v p c h steps z.0 z.1))

    -- RULE 4: one opener more.
    pub follows-reached : (n : ℕ) (v : WindowNumber) → follows n ws ds o w v ≡ true → is_reached ws ds v ≡ true
    unfolding follows
    follows-reached zero v e = never (cc)
    follows-reached (suc n) v e = and_left (is_reached ws ds v) _ e

    pub follows_sound : (n : ℕ) (v : WindowNumber) → follows n ws ds o w v ≡ true → Navigable ws ds o w v
    unfolding follows
    follows_sound zero v e = never (cc)
    follows_sound (suc n) v e = go (or_one (navigable_directly ws ds o w v) _ (and_right (is_reached ws ds v) _ e)) (follows_sound n)
      where
        r : is_reached ws ds v ≡ true
        r = and_left (is_reached ws ds v) _ e

        go : (navigable_directly ws ds o w v ≡ true) ⊎ (by_opener (follows n ws ds o w) (opener_of ws v) ≡ true) → ((x : WindowNumber) → follows n ws ds o w x ≡ true → Navigable ws ds o w x) → Navigable ws ds o w v
        go (inl h) ih = directly_sound v r h
        go (inr h) ih = let z = by-opener (follows n ws ds o w) (opener_of ws v) h in opened r z.1 (follows-reached n z.0 z.2) (ih z.0 z.2)

    pub follows-step : (n : ℕ) (v : WindowNumber) → follows (suc n) ws ds o w v ≡ (is_reached ws ds v && (navigable_directly ws ds o w v || by_opener (follows n ws ds o w) (opener_of ws v)))
    unfolding follows
    follows-step n v = refl

    -- what is within the set is found by following openers some number of times
    follows-base : (v : WindowNumber) → is_reached ws ds v ≡ true → navigable_directly ws ds o w v ≡ true → follows 1 ws ds o w v ≡ true
    follows-base v r h = follows-step 0 v ∙ and_both (is_reached ws ds v) _ r (or_left _ _ h)

    follows-opened : (n : ℕ) (v p : WindowNumber) → is_reached ws ds v ≡ true → opener_of ws v ≡ OpenedBy p → follows n ws ds o w p ≡ true → follows (suc n) ws ds o w v ≡ true
    follows-opened n v p r e h = follows-step n v ∙ and_both (is_reached ws ds v) _ r (or_right (navigable_directly ws ds o w v) _ (ap (by_opener (follows n ws ds o w)) e ∙ h))

    some-follows : (v : WindowNumber) → Navigable ws ds o w v → (n : ℕ) × (follows n ws ds o w v ≡ true)
    some-follows v (same-origin r h) = (1, follows-base v r (same_directly v h))
    some-follows v (top-level r q c h) = (1, follows-base v r (top_directly v (top_complete ws ds w v q c h)))
    some-follows v (ancestor {p = p} r c h) = (1, follows-base v r (ancestor_directly v p r c h))
    some-follows v (opened {p = p} r e q c) = let z = some-follows p c in (suc z.0, follows-opened z.0 v p r e z.1)

    -- OPENERS NEED NOT BE FOLLOWED MORE OFTEN THAN THERE ARE ROWS.
    pub follows_next : (n : ℕ) (v : WindowNumber) → follows n ws ds o w v ≡ true → follows (suc n) ws ds o w v ≡ true
    unfolding follows
    follows_next zero v e = never (cc)
    follows_next (suc n) v e = go (or_one (navigable_directly ws ds o w v) _ (and_right (is_reached ws ds v) _ e)) (follows_next n)
      where
        r : is_reached ws ds v ≡ true
        r = and_left (is_reached ws ds v) _ e

        go : (navigable_directly ws ds o w v ≡ true) ⊎ (by_opener (follows n ws ds o w) (opener_of ws v) ≡ true)
            → ((x : WindowNumber) → follows n ws ds o w x ≡ true → follows (suc n) ws ds o w x ≡ true) → follows (suc (suc n)) ws ds o w v ≡ true
        go (inl h) ih = and_both (is_reached ws ds v) _ r (or_left _ _ h)
        go (inr h) ih = let z = by-opener (follows n ws ds o w) (opener_of ws v) h in follows-opened (suc n) v z.0 r z.1 (ih z.0 z.2)

    pub follows-more : (n m : ℕ) (v : WindowNumber) → n ≤ m → follows n ws ds o w v ≡ true → follows m ws ds o w v ≡ true
    follows-more n m v l e = le_ind (λ (k : ℕ). follows k ws ds o w v ≡ true) e (λ k h. follows_next k v) m l

    -- the window is found only by following n openers
    abbrev Far : ℕ → WindowNumber → Type 0
    Far n v = (follows n ws ds o w v ≡ false) × (follows (suc n) ws ds o w v ≡ true)

    far_lt : (m n : ℕ) (v : WindowNumber) → Far m v → Far n v → m < n → ⊥
    far_lt m n v h k l = let z : follows n ws ds o w v ≡ true = follows-more (suc m) n v l h.1 in let y : follows n ws ds o w v ≡ false = k.0 in never (cc)

    far-one : (m n : ℕ) (v : WindowNumber) → Far m v → Far n v → m ≡ n
    far-one m n v h k = go (dec_le m n) (dec_le n m)
      where
        go : Dec (m ≤ n) → Dec (n ≤ m) → m ≡ n
        go (yes p) (yes q) = omega arith
        go (yes p) (no q) = absurd (far_lt m n v h k (omega arith))
        go (no p) e = absurd (far_lt n m v k h (omega arith))

    -- the opener of such a window is found by one step less
    far-opener : (n : ℕ) (v : WindowNumber) → Far (suc n) v → (p : WindowNumber) × Far n p
    unfolding follows
    far-opener n v h = go (or_one (navigable_directly ws ds o w v) _ (and_right (is_reached ws ds v) _ h.1))
      where
        r : is_reached ws ds v ≡ true
        r = and_left (is_reached ws ds v) _ h.1

        near : (p : WindowNumber) → opener_of ws v ≡ OpenedBy p → (b : Bool) → follows n ws ds o w p ≡ b → b ≡ false
        near p e true f = let z : follows (suc n) ws ds o w v ≡ true = follows-opened n v p r e f in let y : follows (suc n) ws ds o w v ≡ false = h.0 in never (cc)
        near p e false f = refl

        go : (navigable_directly ws ds o w v ≡ true) ⊎ (by_opener (follows (suc n) ws ds o w) (opener_of ws v) ≡ true) → (p : WindowNumber) × Far n p
        go (inl c) = let z : follows (suc n) ws ds o w v ≡ true = and_both (is_reached ws ds v) _ r (or_left _ _ c) in let y : follows (suc n) ws ds o w v ≡ false = h.0 in never (cc)
        go (inr c) = let z = by-opener (follows (suc n) ws ds o w) (opener_of ws v) c in (z.0, (near z.0 z.1 (follows n ws ds o w z.0) refl, z.2))

    -- on the way every distance is met, at a window with a row
    far-row : (n : ℕ) (v : WindowNumber) → Far n v → (r : Window) × In r ws × Far n r.number
    far-row n v h =
        let r = has-row ws ds v (follows-reached (suc n) v h.1) in
        let z = row-numbered ws v r.0 r.1 in
        (r.0, z.0, subst (Far n) (sym z.1) h)

    distances : (n : ℕ) (v : WindowNumber) → Far n v → (m : ℕ) → m ≤ n → (r : Window) × In r ws × Far m r.number
    distances zero v h m l = let e : 0 ≡ m = omega arith in far-row m v (subst (λ (k : ℕ). Far k v) e h)
    distances (suc n) v h m l = go (dec_le m n) (distances n)
      where
        go : Dec (m ≤ n) → ((x : WindowNumber) → Far n x → (m : ℕ) → m ≤ n → (r : Window) × In r ws × Far m r.number) → (r : Window) × In r ws × Far m r.number
        go (yes k) ih = let z = far-opener n v h in ih z.0 z.1 m k
        go (no k) ih = let e : suc n ≡ m = omega arith in far-row m v (subst (λ (k : ℕ). Far k v) e h)

    far-short : (n : ℕ) (v : WindowNumber) → Far n v → suc n ≤ length ws
    far-short n v h = pigeon (λ m (r : Window). Far m r.number) (λ m k r x y. far-one m k r.number x y) (suc n) ws (λ m l. distances n v h m (omega arith))

    pub follows_settled : (n : ℕ) (v : WindowNumber) → length ws ≤ n → follows (suc n) ws ds o w v ≡ follows n ws ds o w v
    follows_settled n v l = go (follows n ws ds o w v) (follows (suc n) ws ds o w v) refl refl
      where
        go : (b c : Bool) → follows n ws ds o w v ≡ b → follows (suc n) ws ds o w v ≡ c → c ≡ b
        go true c e f = sym f ∙ follows_next n v e
        go false false e f = refl
        go false true e f = let z = far-short n v (e, f) in absurd (omega arith)

    follows-rows : (n : ℕ) (v : WindowNumber) → follows n ws ds o w v ≡ true → follows (length ws) ws ds o w v ≡ true
    follows-rows zero v e = follows-more zero (length ws) v (omega arith) e
    follows-rows (suc n) v e = go (dec_le (length ws) n) (follows-rows n v)
      where
        go : Dec (length ws ≤ n) → (follows n ws ds o w v ≡ true → follows (length ws) ws ds o w v ≡ true) → follows (length ws) ws ds o w v ≡ true
        go (yes k) ih = ih (sym (follows_settled n v k) ∙ e)
        go (no k) ih = follows-more (suc n) (length ws) v (omega arith) e

-- THE LEAST SET.
module _ (ws : List Window) (ds : List Document) (o : Origin) (w v : WindowNumber) where
  pub navigable_sound : may_navigate ws ds o w v ≡ true → Navigable ws ds o w v
  navigable_sound e = follows_sound ws ds o w _ v e

  -- as often as there are rows would do
  pub navigable_within : Navigable ws ds o w v → follows (length ws) ws ds o w v ≡ true
  navigable_within c = let z = some-follows ws ds o w v c in follows-rows ws ds o w z.0 v z.1

  pub navigable_complete : Navigable ws ds o w v → may_navigate ws ds o w v ≡ true
  navigable_complete c = follows_next ws ds o w (length ws) v (navigable_within c)
