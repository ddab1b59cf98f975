-- The loop that changes each row of a table in a memory in its place, by the law of `sorted` for the rows.
use mathlib.Core.Path.{◌≡◌, ap, ap₂, ◌∙◌}
use mathlib.Core.List.{List, []}
use Prim.Native.Nat.{ℕ, ◌+◌, ◌≤◌, ◌<◌, min}
use native.Mathlib.Omega.{arith}
use lib.ListN.{length, get_or, take, drop, set}
use Rattle.sorted.proofs.Revising.{Revising, revise-start, revise-next, revise-end}
use Rattle.memory.specs.Rows.{Layout, rows, count, table, place, end, over, Within, Read, Revised, Written}
use Rattle.memory.proofs.Table.{rows_length, counted, place-fits, rows-over, rows-count, count-count}
use Rattle.memory.proofs.Frame.{within_refl, within-then, within-set, within-over}

pub record Changing {A : Type 0} (t : Layout A) (f : A → A) (m₀ m : List ℕ) (n i : ℕ) : Type 0 where
  pub revising : Revising f (count t m₀) t.capacity n (rows t m₀) (rows t m) i
  pub within : i ≤ n
  pub most : n ≤ t.capacity
  pub whole : end t ≤ length m
  pub rest : Within t.base (end t) m₀ m

module _ {A : Type 0} {t : Layout A} {f : A → A} {m₀ : List ℕ} {n : ℕ} where
  pub change_start : end t ≤ length m₀ → n ≡ length (table t m₀) → Changing t f m₀ m₀ n 0
  change_start l e = let k : n ≡ min (count t m₀) t.capacity = e ∙ counted t m₀ in record { revising = revise-start (rows_length t m₀) k; within = omega arith; most = omega arith; whole = l; rest = within_refl _ _ _ }

  module _ {m : List ℕ} {i : ℕ} (s : Changing t f m₀ m n i) where
    -- row r is written as f r by the numbers c
    pub change_next : {r : A} {m₁ : List ℕ} (c : List ℕ) → Read t m i r → i < n → length c ≡ t.width → t.decode c ≡ f r → m₁ ≡ over m (place t i) c → Changing t f m₀ m₁ n (i + 1)
    change_next {r} {m₁} c g h z d q =
        let b : i < t.capacity = omega (arith, s.most) in
        let k : place t i + t.width ≤ end t = place-fits t i b in
        let v : rows t m₁ ≡ set (rows t m) i (f (get_or (rows t m) i (t.decode []))) = ap (rows t) q ∙ rows-over t m i c s.whole b z ∙ ap (set (rows t m) i) (d ∙ ap f g.is) in
        let y : Within t.base (end t) m m₁ = rw q (within-over t.base (end t) m (place t i) c (omega arith) (omega arith) s.whole) in
        record {
          revising = rw v (revise-next s.revising (t.decode []) h);
          within = omega arith;
          most = s.most;
          whole = omega (arith, s.whole, y.len);
          rest = within-then s.rest y;
        }

    pub change_written : {r v : A} {m₁ : List ℕ} → Read t m i r → i < n → v ≡ f r → Written t v i m m₁ → Changing t f m₀ m₁ n (i + 1)
    change_written {m₁ = m₁} g h e w = change_next (take t.width (drop (place t i) m₁)) g h w.len (w.reads ∙ e) w.is

    pub change_end : n ≤ i → Revised t f m₀ (set m t.base i)
    change_end h = record {
      rows = ap₂ (λ (k : ℕ) (l : List A). take k l) (count-count t m i s.whole) (rows-count t m i) ∙ revise-end s.revising h;
      rest = within-then s.rest (within-set t.base (end t) m t.base i (omega arith) (omega arith));
    }
