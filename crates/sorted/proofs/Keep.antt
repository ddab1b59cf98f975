-- The loop that keeps the rows that pass a test: rows before i are done, and j of them are kept.
use mathlib.Core.Path.{◌≡◌, sym, ap, ◌∙◌}
use mathlib.Core.Bool.{Bool, true, false}
use mathlib.Core.List.{List, [], ◌∷◌, ◌++◌, append-nil}
use Prim.Native.Nat.{ℕ, zero-le, ◌+◌, ◌≤◌, ◌<◌, min}
use native.Mathlib.Numerals.{add-one}
use native.Mathlib.Omega.{arith}
use lib.ListN.{length, get_or, take, drop, set, length-set}
use lib.Seq.{take-suc-set, take-set-lt, drop-set-lt, append_snoc}
use Rattle.sorted.specs.Table.{keep}
use Rattle.sorted.proofs.Count.{all-rows, next_row, no_row}

pub record Keeping {A : Type 0} (p : A → Bool) (count capacity n : ℕ) (rows₀ rows : List A) (i j : ℕ) : Type 0 where
  pub len : length rows ≡ capacity
  pub counts : n ≡ min count capacity
  pub within : i ≤ n
  pub behind : j ≤ i
  pub all : take j rows ++ keep p (drop i (take n rows)) ≡ keep p (take count rows₀)

module _ {A : Type 0} {p : A → Bool} {count capacity n : ℕ} {rows₀ : List A} where
  pub keep-start : length rows₀ ≡ capacity → n ≡ min count capacity → Keeping p count capacity n rows₀ rows₀ 0 0
  keep-start l e = record { len = l; counts = e; within = zero-le; behind = zero-le; all = ap (keep p) (all-rows count capacity n rows₀ l e) }

  module _ {rows : List A} {i j : ℕ} (s : Keeping p count capacity n rows₀ rows i j) where
    pub keep_drops : (d : A) → i < n → p (get_or rows i d) ≡ false → Keeping p count capacity n rows₀ rows (i + 1) j
    unfolding keep
    keep_drops d h e =
        record { len = s.len; counts = s.counts; within = omega arith; behind = omega arith; all = rw (next_row count capacity n rows s.len s.counts i d h, e) at s.all }

    pub keep-keeps : (d : A) → i < n → p (get_or rows i d) ≡ true → Keeping p count capacity n rows₀ (set rows j (get_or rows i d)) (i + 1) (j + 1)
    unfolding keep
    keep-keeps d h e =
        record {
          len = length-set rows j (get_or rows i d) ∙ s.len;
          counts = s.counts;
          within = omega arith;
          behind = omega arith;
          all =
              let l : j < length rows = omega (arith, s.len) in
              let w : A = get_or rows i d in
              let t : take (j + 1) (set rows j w) ≡ take j rows ++ (w ∷ []) = rw add-one (take-suc-set rows j w l) in
              let u : drop (i + 1) (take n (set rows j w)) ≡ drop (i + 1) (take n rows) =
              rw (take-set-lt n rows j w (omega arith)) (drop-set-lt (i + 1) (take n rows) j w (omega arith))
              in
              rw (t, u, append_snoc) (rw (next_row count capacity n rows s.len s.counts i d h, e) at s.all);
        }

    pub keep-end : n ≤ i → take j rows ≡ keep p (take count rows₀)
    unfolding keep
    keep-end h =
        let e : drop i (take n rows) ≡ [] = no_row count capacity n rows s.len s.counts i h in
        sym (append-nil (take j rows)) ∙ (rw e at s.all)
