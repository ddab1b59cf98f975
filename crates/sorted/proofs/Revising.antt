-- The loop that changes each row in place: rows before i are changed.
use mathlib.Core.Path.{◌≡◌, sym, ap, ◌∙◌}
use mathlib.Core.List.{List, [], ◌∷◌, ◌++◌, map, append-nil}
use Prim.Native.Nat.{ℕ, zero-le, ◌+◌, ◌≤◌, ◌<◌, min}
use native.Mathlib.Numerals.{add-one}
use native.Mathlib.Omega.{arith}
use lib.ListN.{length, get_or, take, drop, set, length-set}
use lib.Seq.{take-suc-set, take-set-lt, drop-set-lt, append_snoc}
use Rattle.sorted.proofs.Count.{all-rows, next_row, no_row}

pub record Revising {A : Type 0} (f : A → A) (count capacity n : ℕ) (rows₀ rows : List A) (i : ℕ) : Type 0 where
  pub len : length rows ≡ capacity
  pub counts : n ≡ min count capacity
  pub within : i ≤ n
  pub all : take i rows ++ map f (drop i (take n rows)) ≡ map f (take count rows₀)

module _ {A : Type 0} {f : A → A} {count capacity n : ℕ} {rows₀ : List A} where
  pub revise-start : length rows₀ ≡ capacity → n ≡ min count capacity → Revising f count capacity n rows₀ rows₀ 0
  revise-start l e = record { len = l; counts = e; within = zero-le; all = ap (map f) (all-rows count capacity n rows₀ l e) }

  module _ {rows : List A} {i : ℕ} (s : Revising f count capacity n rows₀ rows i) where
    pub revise-next : (d : A) → i < n → Revising f count capacity n rows₀ (set rows i (f (get_or rows i d))) (i + 1)
    revise-next d h =
        record {
          len = length-set rows i (f (get_or rows i d)) ∙ s.len;
          counts = s.counts;
          within = omega arith;
          all =
              let w : A = f (get_or rows i d) in
              let t : take (i + 1) (set rows i w) ≡ take i rows ++ (w ∷ []) = rw add-one (take-suc-set rows i w (omega (arith, s.len))) in
              let u : drop (i + 1) (take n (set rows i w)) ≡ drop (i + 1) (take n rows) =
              rw (take-set-lt n rows i w (omega arith)) (drop-set-lt (i + 1) (take n rows) i w (omega arith))
              in
              rw (t, u, append_snoc) (rw (next_row count capacity n rows s.len s.counts i d h) at s.all);
        }

    pub revise-end : n ≤ i → take i rows ≡ map f (take count rows₀)
    revise-end h =
        let e : drop i (take n rows) ≡ [] = no_row count capacity n rows s.len s.counts i h in
        sym (append-nil (take i rows)) ∙ (rw e at s.all)
