-- The loop that looks for the first row that does not stand before a given one.
use mathlib.Core.Path.{◌≡◌, refl, sym, ap, ◌∙◌}
use mathlib.Core.Bool.{Bool, true, false, cond, false≢true}
use mathlib.Core.List.{List, [], ◌∷◌}
use Prim.Native.Nat.{ℕ, suc, zero-le, suc-le-suc, ◌+◌, ◌≤◌, ◌<◌, min}
use native.Mathlib.Nat.{add-zero, zero-add}
use native.Mathlib.Omega.{arith}
use lib.ListN.{length, get_or, take, drop}
use Rattle.std.specs.declared.cmp.Ordering.{Ordering as Order}
use Rattle.sorted.specs.Order.{same, after}
use Rattle.sorted.specs.Table.{lower, has, Sought}
use Rattle.sorted.proofs.Count.{all-rows, row_count, next_row, no_row}

pub record Seeking {A : Type 0} (c : A → Order) (count capacity n : ℕ) (rows : List A) (i : ℕ) : Type 0 where
  pub len : length rows ≡ capacity
  pub counts : n ≡ min count capacity
  pub within : i ≤ n
  pub passed : i + lower c (drop i (take n rows)) ≡ lower c (take n rows)
  pub missed : has c (drop i (take n rows)) ≡ has c (take n rows)

module _ {A : Type 0} {c : A → Order} {count capacity n : ℕ} {rows : List A} where
  pub seek_start : length rows ≡ capacity → n ≡ min count capacity → Seeking c count capacity n rows 0
  seek_start l e = record { len = l; counts = e; within = zero-le; passed = zero-add _; missed = refl }

  module _ {i : ℕ} (s : Seeking c count capacity n rows i) where
    all : take n rows ≡ take count rows
    all = all-rows count capacity n rows s.len s.counts

    pub seek_next : (d : A) → i < n → after (c (get_or rows i d)) ≡ true → Seeking c count capacity n rows (i + 1)
    unfolding lower has
    seek_next d h e =
        let p : i + suc (lower c (drop (i + 1) (take n rows))) ≡ lower c (take n rows) = rw (next_row count capacity n rows s.len s.counts i d h, e) at s.passed in
        record { len = s.len; counts = s.counts; within = omega arith; passed = omega (arith, p); missed = rw (next_row count capacity n rows s.len s.counts i d h, e) at s.missed }

    pub seek_hit : (d : A) → i < n → after (c (get_or rows i d)) ≡ false → Sought c count capacity rows i (same (c (get_or rows i d))) n
    unfolding lower has
    seek_hit d h e =
        let p : i + 0 ≡ lower c (take n rows) = rw (next_row count capacity n rows s.len s.counts i d h, e) at s.passed in
        let r : same (c (get_or rows i d)) ≡ has c (take n rows) = rw (next_row count capacity n rows s.len s.counts i d h, e) at s.missed in
        record { len = s.len; place = sym (add-zero i) ∙ p ∙ ap (lower c) all; there = r ∙ ap (has c) all; size = row_count count capacity n rows s.len s.counts }

    pub seek_end : n ≤ i → Sought c count capacity rows i false n
    unfolding lower has
    seek_end h =
        let e : drop i (take n rows) ≡ [] = no_row count capacity n rows s.len s.counts i h in
        record {
          len = s.len;
          place = sym (add-zero i) ∙ (rw e at s.passed) ∙ ap (lower c) all;
          there = (rw e at s.missed) ∙ ap (has c) all;
          size = row_count count capacity n rows s.len s.counts;
        }

-- where the place is
module _ {A : Type 0} (c : A → Order) where
  pub hit-below : (l : List A) → has c l ≡ true → lower c l < length l
  unfolding lower has
  hit-below [] h = absurd (false≢true h)
  hit-below (x ∷ l) h = go (after (c x)) (λ e. hit-below l e) h
    where
      go : (b : Bool) → (has c l ≡ true → lower c l < length l) → cond b (has c l) (same (c x)) ≡ true → cond b (suc (lower c l)) 0 < suc (length l)
      go true ih e = suc-le-suc (ih e)
      go false ih e = suc-le-suc zero-le

  pub lower-within : (l : List A) → lower c l ≤ length l
  unfolding lower
  lower-within [] = zero-le
  lower-within (x ∷ l) = go (after (c x)) (lower-within l)
    where
      go : (b : Bool) → lower c l ≤ length l → cond b (suc (lower c l)) 0 ≤ suc (length l)
      go true ih = suc-le-suc ih
      go false ih = zero-le
