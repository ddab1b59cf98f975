-- The search for a place, where a key is compared with a part of a row: the loop of Loops, at the row of which that part was read.
use mathlib.Core.Path.{◌≡◌, refl, sym, ap, ◌∙◌}
use mathlib.Core.Bool.{true, false}
use mathlib.Core.List.{List, []}
use Prim.Native.Nat.{ℕ, ◌+◌, ◌<◌}
use lib.ListN.{get_or}
use Rattle.std.specs.declared.cmp.Ordering.{Ordering as Order}
use Rattle.sorted.specs.Order.{same, after}
use Rattle.memory.specs.Rows.{Layout, rows, Read, Glimpsed, Found}
use Rattle.memory.proofs.Loops.{Searching, search_next, search_hit}

module _ {A H : Type 0} {t : Layout A} {f : A → H} {m : List ℕ} {i : ℕ} {h : H} (g : Glimpsed t f m i h) where
  there : Read t m i (get_or (rows t m) i (t.decode []))
  there = record { is = refl }

  module _ (c : H → Order) where
    pub glance_after : {n : ℕ} → Searching t (λ x. c (f x)) m n i → i < n → after (c h) ≡ true → Searching t (λ x. c (f x)) m n (i + 1)
    glance_after s k e = search_next s there k (ap (λ (x : H). after (c x)) (sym g.is) ∙ e)

    pub glance_stop : {n : ℕ} → Searching t (λ x. c (f x)) m n i → i < n → after (c h) ≡ false → Found t (λ x. c (f x)) m i (same (c h)) n
    glance_stop s k e = rw g.is (search_hit s there k (ap (λ (x : H). after (c x)) (sym g.is) ∙ e))
