-- Cookie headers: those that are tidy, and the loops over a header's pairs.
use mathlib.Core.Path.{◌≡◌, refl, sym, ap, ap₂, ◌∙◌}
use mathlib.Core.List.{List, []}
use Prim.Native.Nat.{ℕ, zero-le, ◌+◌, ◌*◌, ◌≤◌, ◌<◌, min}
use native.Mathlib.Numerals.{add-one}
use native.Mathlib.Omega.{arith}
use lib.ListN.{length, get_or, take, drop, set, length-set, get_or-eq_default}
use lib.Seq.{take-suc, take-suc-set}
use Rattle.sorted.specs.Table.{fill}
use Rattle.sorted.proofs.Count.{all-rows, row_count, taken-fits, take_fill}
use Rattle.sorted.proofs.Collect.{fill_more}
use Rattle.tables.specs.Nouns.{Pair, Jar}
use Rattle.tables.specs.Rows.{blank_pair, jar}
use Rattle.memory.specs.Rows.{rows, count, table, over, Within}
use Rattle.memory.proofs.Table.{rows_length, row_at, rows-over, rows-count, count-count}
use Rattle.memory.proofs.Frame.{within_refl, within-then, within-set, within-over}
use Rattle.layouts.specs.Jars.{pair_from, pairs_in, jar_at, tidy, Wrote}

-- a header of few enough pairs is tidy
pub tidy-jar : (ps : List Pair) → length ps ≤ 64 → tidy (jar ps) ≡ jar ps
unfolding jar
tidy-jar ps h = ap jar (take_fill blank_pair 64 ps h)

-- and so is one that is read
pub tidy-read : (p : ℕ) (m : List ℕ) → tidy (jar_at p m) ≡ jar_at p m
tidy-read p m = tidy-jar (table (pairs_in p) m) (taken-fits (count (pairs_in p) m) 64 (rows (pairs_in p) m) (rows_length (pairs_in p) m))

-- behind the end there is the header without a pair
pub no-jar : (p : ℕ) (m : List ℕ) → length m ≤ p → jar [] ≡ jar_at p m
no-jar p m h = ap (λ (n : ℕ). jar (take n (rows (pairs_in p) m))) (sym (get_or-eq_default m 0 h))

-- READ: the first i pairs are there, and blanks behind them.
pub record Gathering (m : List ℕ) (p n : ℕ) (out : List Pair) (i : ℕ) : Type 0 where
  pub len : length out ≡ 64
  pub most : n ≤ 64
  pub within : i ≤ n
  pub all : take i out ≡ take i (rows (pairs_in p) m)
  pub rest : out ≡ fill blank_pair 64 (take i out)

module _ {m : List ℕ} {p n : ℕ} where
  pub gather_start : {out : List Pair} → length out ≡ 64 → out ≡ fill blank_pair 64 [] → n ≡ min (count (pairs_in p) m) 64 → Gathering m p n out 0
  gather_start l e k = record { len = l; most = omega arith; within = zero-le; all = refl; rest = e }

  module _ {out : List Pair} {i : ℕ} (g : Gathering m p n out i) where
    pub gather_next : {x : Pair} → i < n → x ≡ pair_from (take 3 (drop (p + 1 + i * 3) m)) → Gathering m p n (set out i x) (i + 1)
    gather_next {x} h e =
        let t : List Pair = rows (pairs_in p) m in
        let l : length t ≡ 64 = rows_length (pairs_in p) m in
        let k : length out ≡ 64 = g.len in
        let y : get_or t i (pair_from []) ≡ x = row_at (pairs_in p) m i (omega (arith, g.most)) ∙ sym e in
        record {
          len = length-set out i x ∙ g.len;
          most = g.most;
          within = omega arith;
          all = rw (add-one i, take-suc-set out i x (omega (arith, g.most)), take-suc t i (pair_from []) (omega (arith, g.most)), g.all, y);
          rest = fill_more blank_pair x 64 i out g.len (omega (arith, g.most)) g.rest;
        }

    pub gather_end : n ≤ i → n ≡ min (count (pairs_in p) m) 64 → (out ≡ fill blank_pair 64 (table (pairs_in p) m)) × (n ≡ length (table (pairs_in p) m))
    gather_end h k =
        let w : i ≡ n = omega (arith, g.within) in
        let a : take n (rows (pairs_in p) m) ≡ table (pairs_in p) m = all-rows (count (pairs_in p) m) 64 n (rows (pairs_in p) m) (rows_length (pairs_in p) m) k in
        (g.rest ∙ ap (fill blank_pair 64) (g.all ∙ ap (λ (j : ℕ). take j (rows (pairs_in p) m)) w ∙ a), row_count (count (pairs_in p) m) 64 n (rows (pairs_in p) m) (rows_length (pairs_in p) m) k)

-- WRITTEN: the first i pairs are there.
pub record Filing (p n : ℕ) (ps : List Pair) (m₀ m : List ℕ) (i : ℕ) : Type 0 where
  pub len : length ps ≡ 64
  pub most : n ≤ 64
  pub within : i ≤ n
  pub whole : length m ≡ length m₀
  pub all : take i (rows (pairs_in p) m) ≡ take i ps
  pub rest : Within p (p + 193) m₀ m

module _ {p n : ℕ} {ps : List Pair} {m₀ : List ℕ} where
  pub file-start : (c : ℕ) → length ps ≡ 64 → n ≡ min c 64 → Filing p n ps m₀ m₀ 0
  file-start c l k = record { len = l; most = omega arith; within = zero-le; whole = refl; all = refl; rest = within_refl _ _ _ }

  module _ {m : List ℕ} {i : ℕ} (g : Filing p n ps m₀ m i) where
    pub file-next : {m₁ : List ℕ} (x : List ℕ) (d : Pair) → i < n → p + 193 ≤ length m₀ → length x ≡ 3 → pair_from x ≡ get_or ps i d → m₁ ≡ over m (p + 1 + i * 3) x → Filing p n ps m₀ m₁ (i + 1)
    file-next {m₁} x d h b l e q =
        let t : List Pair = rows (pairs_in p) m in
        let lt : length t ≡ 64 = rows_length (pairs_in p) m in
        let k : i < 64 = omega (arith, g.most) in
        let lp : length ps ≡ 64 = g.len in
        let v : rows (pairs_in p) m₁ ≡ set t i (get_or ps i d) = ap (rows (pairs_in p)) q ∙ rows-over (pairs_in p) m i x (omega (arith, g.whole)) k l ∙ ap (set t i) e in
        let z : Within p (p + 193) m m₁ = rw q (within-over p (p + 193) m (p + 1 + i * 3) x (omega arith) (omega arith) (omega (arith, g.whole))) in
        record {
          len = g.len;
          most = g.most;
          within = omega arith;
          whole = z.len ∙ g.whole;
          all = rw (v, add-one i, take-suc-set t i (get_or ps i d) (omega arith), take-suc ps i d (omega arith), g.all);
          rest = within-then g.rest z;
        }

    pub file-end : (j : Jar) → ps ≡ j.rows → n ≤ i → p + 193 ≤ length m₀ → n ≡ min j.count 64 → Wrote p j m₀ (set m p n)
    file-end j s h b k =
        let w : i ≡ n = omega (arith, g.within) in
        let a : take n ps ≡ take j.count ps = all-rows j.count 64 n ps g.len k in
        let v : table (pairs_in p) (set m p n) ≡ take n (rows (pairs_in p) m) = ap₂ (λ (x : ℕ) (l : List Pair). take x l) (count-count (pairs_in p) m n (omega (arith, g.whole))) (rows-count (pairs_in p) m n) in
        record {
          reads = λ q. ap jar (v ∙ ap (λ (x : ℕ). take x (rows (pairs_in p) m)) (sym w) ∙ g.all ∙ ap (λ (x : ℕ). take x ps) w ∙ a ∙ ap (take j.count) s);
          rest = λ q. within-then g.rest (within-set p (p + 193) m p n (omega arith) (omega arith));
          beyond = λ q. absurd (omega (arith, q));
        }

-- no room, and nothing done
pub file-none : (p : ℕ) (j : Jar) (m : List ℕ) → length m < p + 193 → Wrote p j m m
file-none p j m h = record { reads = λ q. absurd (omega (arith, q)); rest = λ q. absurd (omega (arith, q)); beyond = λ q. refl }
