-- The loop that looks for the first row that passes a test.
use mathlib.Core.Path.{◌≡◌, ap}
use mathlib.Core.Bool.{Bool, true, false}
use mathlib.Core.List.{List, []}
use Rattle.std.specs.Prelude.{None as none, Some as some}
use Prim.Native.Nat.{ℕ, zero-le, ◌+◌, ◌≤◌, ◌<◌, min}
use native.Mathlib.Omega.{arith}
use lib.ListN.{length, get_or, take, drop}
use Rattle.sorted.specs.Table.{find}
use Rattle.sorted.proofs.Count.{all-rows, next_row, no_row}

pub record Finding {A : Type 0} (p : A → Bool) (count capacity n : ℕ) (rows : List A) (i : ℕ) : Type 0 where
  pub len : length rows ≡ capacity
  pub counts : n ≡ min count capacity
  pub within : i ≤ n
  pub all : find p (drop i (take n rows)) ≡ find p (take count rows)

module _ {A : Type 0} {p : A → Bool} {count capacity n : ℕ} {rows : List A} where
  pub find-start : length rows ≡ capacity → n ≡ min count capacity → Finding p count capacity n rows 0
  find-start l e = record { len = l; counts = e; within = zero-le; all = ap (find p) (all-rows count capacity n rows l e) }

  module _ {i : ℕ} (s : Finding p count capacity n rows i) where
    pub find-next : (d : A) → i < n → p (get_or rows i d) ≡ false → Finding p count capacity n rows (i + 1)
    unfolding find
    find-next d h e = record { len = s.len; counts = s.counts; within = omega arith; all = rw (next_row count capacity n rows s.len s.counts i d h, e) at s.all }

    pub find-hit : (d : A) → i < n → p (get_or rows i d) ≡ true → some (get_or rows i d) ≡ find p (take count rows)
    unfolding find
    find-hit d h e = rw (next_row count capacity n rows s.len s.counts i d h, e) at s.all

    pub find-end : n ≤ i → none ≡ find p (take count rows)
    unfolding find
    find-end h =
        let e : drop i (take n rows) ≡ [] = no_row count capacity n rows s.len s.counts i h in
        rw e at s.all
