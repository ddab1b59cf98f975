-- The four rules, one step at a time: n steps, or n windows, are left.
use mathlib.Core.Path.{◌≡◌, refl, ◌∙◌, ap}
use mathlib.Core.Bool.{false, ◌&&◌, ◌||◌}
use mathlib.Core.List.{List}
use Prim.Native.Nat.{ℕ, suc, ◌+◌, ◌-◌}
use native.Mathlib.Omega.{arith}
use lib.ListN.{length}
use Rattle.wim.specs.Nouns.{WindowNumber, Origin, Window, Document}
use Rattle.wim.specs.Walks.{Above, above, is_reached}
use Rattle.wim.specs.Navigable.{opener_of, ancestor_at, ancestor_has, navigable_directly, follows, may_navigate}
use Rattle.wim.proofs.Navigable.{by_opener}
use Rattle.walks.proofs.Up.{one_less}

-- RULE 3.
module _ (n : ℕ) (ws : List Window) (ds : List Document) (o : Origin) (v : WindowNumber) where
  pub ancestor_none : n ≡ 0 → ancestor_has n ws ds o v ≡ false
  unfolding ancestor_has
  ancestor_none e = rw e refl

  pub ancestor_up : (u : Above) → (n ≡ 0 → ⊥) → above ws ds v ≡ u → ancestor_has n ws ds o v ≡ ancestor_at (ancestor_has (n - 1) ws ds o) ds o u
  unfolding ancestor_has
  ancestor_up u e f = ap (λ k. ancestor_has k ws ds o v) (one_less n e) ∙ ap (ancestor_at (ancestor_has (n - 1) ws ds o) ds o) f

-- ALL FOUR.
module _ (n : ℕ) (ws : List Window) (ds : List Document) (o : Origin) (w v : WindowNumber) where
  pub follows_none : n ≡ 0 → follows n ws ds o w v ≡ false
  unfolding follows
  follows_none e = rw e refl

  pub follows_more : (n ≡ 0 → ⊥) → follows n ws ds o w v ≡ (is_reached ws ds v && (navigable_directly ws ds o w v || by_opener (follows (n - 1) ws ds o w) (opener_of ws v)))
  unfolding follows
  follows_more e = ap (λ k. follows k ws ds o w v) (one_less n e)

-- as often as there are windows
pub all_openers : (ws : List Window) (ds : List Document) (o : Origin) (w v : WindowNumber) {n : ℕ} → n ≡ length ws → follows (n + 1) ws ds o w v ≡ may_navigate ws ds o w v
all_openers ws ds o w v {n} e = let z : n + 1 ≡ suc (length ws) = omega arith in ap (λ (k : ℕ). follows k ws ds o w v) z
