-- The loops that collect something of the rows that pass, or count them, by the laws of `sorted` for the rows.
use mathlib.Core.Path.{◌≡◌, sym, ap, ◌∙◌}
use mathlib.Core.Bool.{Bool, true, false}
use mathlib.Core.List.{List, [], map}
use Prim.Native.Nat.{ℕ, zero-le, ◌+◌, ◌≤◌, ◌<◌, min}
use native.Mathlib.Nat.{zero-add}
use native.Mathlib.Omega.{arith}
use lib.ListN.{length, take, drop, set, length-set}
use Rattle.sorted.specs.Table.{keep, fill}
use Rattle.sorted.proofs.Count.{all-rows, next_row, no_row}
use Rattle.sorted.proofs.Collect.{Collecting, collect_start, collect_skips, collect_takes, collect_end, fill_more, fill_end}
use Rattle.memory.specs.Rows.{Layout, rows, count, table, Read}
use Rattle.memory.proofs.Table.{rows_length, counted}

-- SOMETHING OF EACH ROW THAT PASSES.
pub record Gathering {A B : Type 0} (t : Layout A) (p : A → Bool) (f : A → B) (m : List ℕ) (n : ℕ) (out : List B) (i j : ℕ) : Type 0 where
  pub collecting : Collecting p f (count t m) t.capacity n (rows t m) out i j
  pub most : n ≤ t.capacity

module _ {A B : Type 0} {t : Layout A} {p : A → Bool} {f : A → B} {m : List ℕ} {n : ℕ} where
  -- into an array with as much room as the table, or more
  pub gather_with_room : {out : List B} (room : ℕ) → length out ≡ room → t.capacity ≤ room → n ≡ length (table t m) → Gathering t p f m n out 0 0
  gather_with_room room l h e = let k : n ≡ min (count t m) t.capacity = e ∙ counted t m in record { collecting = collect_start (rows_length t m) (omega arith) k; most = omega arith }

  pub gather_start : {out : List B} → length out ≡ t.capacity → n ≡ length (table t m) → Gathering t p f m n out 0 0
  gather_start l e = gather_with_room t.capacity l (omega arith) e

  module _ {out : List B} {i j : ℕ} (s : Gathering t p f m n out i j) where
    pub gather_skips : {r : A} → Read t m i r → i < n → p r ≡ false → Gathering t p f m n out (i + 1) j
    gather_skips g h e = record { collecting = collect_skips s.collecting (t.decode []) h (ap p (sym g.is) ∙ e); most = s.most }

    pub gather_takes : {r : A} → Read t m i r → i < n → p r ≡ true → Gathering t p f m n (set out j (f r)) (i + 1) (j + 1)
    gather_takes {r} g h e = let q = g.is in record { collecting = rw q (collect_takes s.collecting (t.decode []) h (ap p (sym q) ∙ e)); most = s.most }

    pub gather_end : n ≤ i → take j out ≡ map f (keep p (table t m))
    gather_end h = collect_end s.collecting h

    pub gather_below : j ≤ i
    gather_below = s.collecting.behind

-- INTO AN ARRAY THAT IS d wherever nothing is collected: the whole array is determined.
pub record Picking {A B : Type 0} (t : Layout A) (p : A → Bool) (f : A → B) (d : B) (m : List ℕ) (n : ℕ) (out : List B) (i j : ℕ) : Type 0 where
  pub gathering : Gathering t p f m n out i j
  pub room : length out ≡ t.capacity
  pub rest : out ≡ fill d t.capacity (take j out)

module _ {A B : Type 0} {t : Layout A} {p : A → Bool} {f : A → B} {d : B} {m : List ℕ} {n : ℕ} where
  pub pick_start : {out : List B} → length out ≡ t.capacity → out ≡ fill d t.capacity [] → n ≡ length (table t m) → Picking t p f d m n out 0 0
  pick_start l r e = record { gathering = gather_start l e; room = l; rest = r }

  module _ {out : List B} {i j : ℕ} (s : Picking t p f d m n out i j) where
    pub pick_skips : {r : A} → Read t m i r → i < n → p r ≡ false → Picking t p f d m n out (i + 1) j
    pick_skips g h e = record { gathering = gather_skips s.gathering g h e; room = s.room; rest = s.rest }

    pub pick_takes : {r : A} → Read t m i r → i < n → p r ≡ true → Picking t p f d m n (set out j (f r)) (i + 1) (j + 1)
    pick_takes {r} g h e =
        let b : j ≤ i = gather_below s.gathering in
        record {
          gathering = gather_takes s.gathering g h e;
          room = length-set out j (f r) ∙ s.room;
          rest = fill_more d (f r) t.capacity j out s.room (omega (arith, s.gathering.most)) s.rest;
        }

    pub pick_end : n ≤ i → (out ≡ fill d t.capacity (map f (keep p (table t m)))) × (j ≡ length (map f (keep p (table t m))))
    pick_end h = fill_end d s.gathering.collecting s.rest h

-- HOW MANY PASS.
pub record Tallying {A : Type 0} (t : Layout A) (p : A → Bool) (m : List ℕ) (n i j : ℕ) : Type 0 where
  pub counts : n ≡ min (count t m) t.capacity
  pub most : n ≤ t.capacity
  pub within : i ≤ n
  pub behind : j ≤ i
  pub all : j + length (keep p (drop i (take n (rows t m)))) ≡ length (keep p (table t m))

module _ {A : Type 0} {t : Layout A} {p : A → Bool} {m : List ℕ} {n : ℕ} where
  pub tally_start : n ≡ length (table t m) → Tallying t p m n 0 0
  tally_start e =
      let k : n ≡ min (count t m) t.capacity = e ∙ counted t m in
      record { counts = k; most = omega arith; within = zero-le; behind = zero-le; all = rw (zero-add) (ap (λ (l : List A). length (keep p l)) (all-rows (count t m) t.capacity n (rows t m) (rows_length t m) k)) }

  module _ {i j : ℕ} (s : Tallying t p m n i j) where
    pub tally_skips : {r : A} → Read t m i r → i < n → p r ≡ false → Tallying t p m n (i + 1) j
    unfolding keep
    tally_skips g h e = record {
      counts = s.counts;
      most = s.most;
      within = omega arith;
      behind = omega (arith, s.behind);
      all = rw (next_row (count t m) t.capacity n (rows t m) (rows_length t m) s.counts i (t.decode []) h, ap p (sym g.is) ∙ e) at s.all;
    }

    pub tally_takes : {r : A} → Read t m i r → i < n → p r ≡ true → Tallying t p m n (i + 1) (j + 1)
    unfolding keep
    tally_takes g h e =
        let a = rw (next_row (count t m) t.capacity n (rows t m) (rows_length t m) s.counts i (t.decode []) h, ap p (sym g.is) ∙ e) at s.all in
        record { counts = s.counts; most = s.most; within = omega arith; behind = omega (arith, s.behind); all = omega (arith, a) }

    pub tally_end : n ≤ i → j ≡ length (keep p (table t m))
    unfolding keep
    tally_end h = let a = rw (no_row (count t m) t.capacity n (rows t m) (rows_length t m) s.counts i h) at s.all in omega (arith, a)
