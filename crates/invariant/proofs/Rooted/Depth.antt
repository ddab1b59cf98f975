-- A line of parents that ends has no more windows than the table has rows.
use mathlib.Core.Path.{◌≡◌, refl, sym, ◌∙◌, subst}
use mathlib.Core.List.{List}
use Rattle.std.specs.Prelude.{Option, None as none, Some as some}
use Prim.Native.Nat.{ℕ, zero, suc, ◌≤◌, ◌<◌}
use native.Mathlib.Omega.{arith}
use native.Mathlib.Decide.{dec_le}
use lib.ListN.{length}
use Rattle.sorted.specs.Table.{In}
use Rattle.sorted.proofs.Never.{never}
use Rattle.wim.specs.Nouns.{WindowNumber, Window, Document}
use Rattle.wim.specs.Walks.{Above, missing, topmost, held_by, above, top_at, top_above}
use Rattle.wim.proofs.Pigeon.{pigeon}
use Rattle.wim.proofs.Numbers.{row-numbered}
use Rattle.wim.proofs.Walks.{top-more}
use Rattle.invariant.proofs.Rooted.Lines.{topmost-row, held-row}

module _ (ws : List Window) (ds : List Document) where
  -- the window stands exactly n documents below a top-level window
  abbrev High : ℕ → WindowNumber → Type 0
  High n v = (top_above n ws ds v ≡ none) × ((t : WindowNumber) × (top_above (suc n) ws ds v ≡ some t))

  high_lt : (m n : ℕ) (v : WindowNumber) → High m v → High n v → m < n → ⊥
  high_lt m n v h k l =
      let z : top_above n ws ds v ≡ some h.1.0 = top-more ws ds (suc m) n v h.1.0 l h.1.1 in
      let y : top_above n ws ds v ≡ none = k.0 in
      never (cc)

  high_one : (m n : ℕ) (v : WindowNumber) → High m v → High n v → m ≡ n
  high_one m n v h k = go (dec_le m n) (dec_le n m)
    where
      go : Dec (m ≤ n) → Dec (n ≤ m) → m ≡ n
      go (yes p) (yes q) = omega arith
      go (yes p) (no q) = absurd (high_lt m n v h k (omega arith))
      go (no p) e = absurd (high_lt n m v k h (omega arith))

  -- on the way up every height is met
  heights : (n : ℕ) (v : WindowNumber) → High n v → (m : ℕ) → m ≤ n → (r : Window) × In r ws × High m r.number
  unfolding top_above
  heights zero v h m l = go (above ws ds v) refl h.1.1
    where
      go : (u : Above) → above ws ds v ≡ u → top_at (top_above zero ws ds) v u ≡ some h.1.0 → (r : Window) × In r ws × High m r.number
      go missing e f = never (cc)
      go topmost e f =
          let z = topmost-row ws ds v e in
          let i = row-numbered ws v z.0 z.1 in
          let x : m ≡ 0 = omega arith in
          (z.0, i.0, subst (λ (k : ℕ). High k z.0.number) (sym x) (subst (High 0) (sym i.1) h))
      go (held_by d) e f = never (cc)
  heights (suc n) v h m l = go (above ws ds v) refl h.0 h.1.1 (heights n) (dec_le m n)
    where
      go : (u : Above) → above ws ds v ≡ u → top_at (top_above n ws ds) v u ≡ none → top_at (top_above (suc n) ws ds) v u ≡ some h.1.0
          → ((x : WindowNumber) → High n x → (m : ℕ) → m ≤ n → (r : Window) × In r ws × High m r.number) → Dec (m ≤ n) → (r : Window) × In r ws × High m r.number
      go missing e f g ih c = never (cc)
      go topmost e f g ih c = never (cc)
      go (held_by d) e f g ih (yes k) = ih d.window (f, (h.1.0, g)) m k
      go (held_by d) e f g ih (no k) =
          let z = held-row ws ds v d e in
          let i = row-numbered ws v z.0 z.2 in
          let x : m ≡ suc n = omega arith in
          (z.0, i.0, subst (λ (k : ℕ). High k z.0.number) (sym x) (subst (High (suc n)) (sym i.1) h))

  deep : (n : ℕ) (v : WindowNumber) → High n v → suc n ≤ length ws
  deep n v h = pigeon (λ m (r : Window). High m r.number) (λ m k r x y. high_one m k r.number x y) (suc n) ws (λ m l. heights n v h m (omega arith))

  -- in a table of no more rows one step more finds nothing more
  pub settled : (n : ℕ) (v : WindowNumber) → length ws ≤ n → top_above n ws ds v ≡ top_above (suc n) ws ds v
  settled n v l = go (top_above n ws ds v) (top_above (suc n) ws ds v) refl refl
    where
      go : (o p : Option WindowNumber) → top_above n ws ds v ≡ o → top_above (suc n) ws ds v ≡ p → o ≡ p
      go none none e f = refl
      go none (some t) e f = let z = deep n v (e, (t, f)) in absurd (omega arith)
      go (some t) p e f = sym (top-more ws ds n (suc n) v t (omega arith) e) ∙ f
