-- The walks upward: more steps change nothing once a top-level window is found, and what is reached has a row.
use mathlib.Core.Path.{◌≡◌, refl, sym}
use mathlib.Core.Bool.{Bool, true, false, cond}
use mathlib.Core.List.{List}
use Rattle.std.specs.Prelude.{Option, None as none, Some as some}
use Prim.Native.Nat.{ℕ, zero, suc, ◌≤◌}
use native.Mathlib.Decide.{le_ind}
use Rattle.sorted.specs.Table.{is_some}
use Rattle.wim.specs.Nouns.{WindowNumber, Window, Document}
use Rattle.wim.specs.Walks.{Above, missing, topmost, held_by, above_row, above, top_at, reached_at, steps, window_numbered, top_above, reached_from, is_reached}
use Rattle.sorted.proofs.Never.{never}

module _ (ws : List Window) (ds : List Document) where
  -- what stands above a window is known only of a window with a row
  pub above-row : (v : WindowNumber) (u : Above) → above ws ds v ≡ u → (u ≡ missing → ⊥) → (r : Window) × (window_numbered ws v ≡ some r)
  unfolding above
  above-row v u e n = go (window_numbered ws v) refl e
    where
      go : (a : Option Window) → window_numbered ws v ≡ a → above_row ds a ≡ u → (r : Window) × (window_numbered ws v ≡ some r)
      go none f g = absurd (n (sym g))
      go (some r) f g = (r, f)

  -- MORE STEPS.
  top-next : (n : ℕ) (v t : WindowNumber) → top_above n ws ds v ≡ some t → top_above (suc n) ws ds v ≡ some t
  unfolding top_above
  top-next zero v t e = never (cc)
  top-next (suc n) v t e = go (above ws ds v) e (top-next n)
    where
      go : (u : Above) → top_at (top_above n ws ds) v u ≡ some t → ((x s : WindowNumber) → top_above n ws ds x ≡ some s → top_above (suc n) ws ds x ≡ some s)
          → top_at (top_above (suc n) ws ds) v u ≡ some t
      go missing e ih = never (cc)
      go topmost e ih = e
      go (held_by d) e ih = ih d.window t e

  pub top-more : (n m : ℕ) (v t : WindowNumber) → n ≤ m → top_above n ws ds v ≡ some t → top_above m ws ds v ≡ some t
  top-more n m v t l e = le_ind (λ (k : ℕ). top_above k ws ds v ≡ some t) e (λ k h. top-next k v t) m l

  reached-next : (n : ℕ) (v t : WindowNumber) → reached_from n ws ds v ≡ some t → reached_from (suc n) ws ds v ≡ some t
  unfolding reached_from
  reached-next zero v t e = never (cc)
  reached-next (suc n) v t e = go (above ws ds v) e (reached-next n)
    where
      further : (d : Document) (b : Bool) → cond b (reached_from n ws ds d.window) none ≡ some t
          → (reached_from n ws ds d.window ≡ some t → reached_from (suc n) ws ds d.window ≡ some t) → cond b (reached_from (suc n) ws ds d.window) none ≡ some t
      further d true e ih = ih e
      further d false e ih = e

      go : (u : Above) → reached_at (reached_from n ws ds) v u ≡ some t
          → ((x s : WindowNumber) → reached_from n ws ds x ≡ some s → reached_from (suc n) ws ds x ≡ some s)
          → reached_at (reached_from (suc n) ws ds) v u ≡ some t
      go missing e ih = never (cc)
      go topmost e ih = e
      go (held_by d) e ih = further d d.active e (ih d.window t)

  -- REACHED WINDOWS.
  -- the window above through an active document is reached from the same top-level window, with a step less
  pub reached-up : (n : ℕ) (v t : WindowNumber) (d : Document) → above ws ds v ≡ held_by d → reached_from (suc n) ws ds v ≡ some t → (d.active ≡ true) × (reached_from n ws ds d.window ≡ some t)
  unfolding reached_from
  reached-up n v t d h e = go d.active refl (rw h at e)
    where
      go : (b : Bool) → d.active ≡ b → cond b (reached_from n ws ds d.window) none ≡ some t → (d.active ≡ true) × (reached_from n ws ds d.window ≡ some t)
      go true f e = (f, e)
      go false f e = never (cc)

  pub reached-row : (n : ℕ) (v t : WindowNumber) → reached_from n ws ds v ≡ some t → (r : Window) × (window_numbered ws v ≡ some r)
  unfolding reached_from
  reached-row zero v t e = never (cc)
  reached-row (suc n) v t e = go (above ws ds v) refl e
    where
      go : (u : Above) → above ws ds v ≡ u → reached_at (reached_from n ws ds) v u ≡ some t → (r : Window) × (window_numbered ws v ≡ some r)
      go missing f e = never (cc)
      go topmost f e = above-row v topmost f (λ q. never (cc))
      go (held_by d) f e = above-row v (held_by d) f (λ q. never (cc))

  pub reached-top : (n : ℕ) (v t : WindowNumber) → reached_from n ws ds v ≡ some t → top_above n ws ds v ≡ some t
  unfolding reached_from top_above
  reached-top zero v t e = e
  reached-top (suc n) v t e = go (above ws ds v) e (reached-top n)
    where
      further : (d : Document) (b : Bool) → cond b (reached_from n ws ds d.window) none ≡ some t → reached_from n ws ds d.window ≡ some t
      further d true e = e
      further d false e = never (cc)

      go : (u : Above) → reached_at (reached_from n ws ds) v u ≡ some t
          → ((x s : WindowNumber) → reached_from n ws ds x ≡ some s → top_above n ws ds x ≡ some s) → top_at (top_above n ws ds) v u ≡ some t
      go missing e ih = e
      go topmost e ih = e
      go (held_by d) e ih = ih d.window t (further d d.active e)

  pub reached-from : (v : WindowNumber) → is_reached ws ds v ≡ true → (t : WindowNumber) × (reached_from steps ws ds v ≡ some t)
  reached-from v e = go (reached_from steps ws ds v) refl e
    where
      go : (a : Option WindowNumber) → reached_from steps ws ds v ≡ a → is_some a ≡ true → (t : WindowNumber) × (reached_from steps ws ds v ≡ some t)
      go none f g = never (cc)
      go (some t) f g = (t, f)

  pub has-row : (v : WindowNumber) → is_reached ws ds v ≡ true → (r : Window) × (window_numbered ws v ≡ some r)
  has-row v e = let z = reached-from v e in reached-row steps v z.0 z.1
