-- The loop that collects something of each row that passes a test into another array, which has at least as much room: rows before i are done, and
-- j of them are collected.
use mathlib.Core.Path.{◌≡◌, refl, sym, ap, ◌∙◌}
use mathlib.Core.Bool.{Bool, true, false}
use mathlib.Core.List.{List, [], ◌∷◌, ◌++◌, map, append-nil}
use Prim.Native.Nat.{ℕ, zero, suc, zero-le, ◌+◌, ◌≤◌, ◌<◌, min}
use native.Mathlib.Nat.{not-suc-le-zero, le_of_suc-le-suc}
use native.Mathlib.Numerals.{add-one}
use native.Mathlib.Omega.{arith}
use lib.ListN.{length, get_or, take, drop, set, length-set}
use lib.Seq.{length-take-le, take-suc-set, append_snoc}
use Rattle.sorted.specs.Table.{keep, fill}
use Rattle.sorted.proofs.Count.{all-rows, next_row, no_row}

pub record Collecting {A B : Type 0} (p : A → Bool) (f : A → B) (count capacity n : ℕ) (rows : List A) (out : List B) (i j : ℕ) : Type 0 where
  pub len : length rows ≡ capacity
  pub room : capacity ≤ length out
  pub counts : n ≡ min count capacity
  pub within : i ≤ n
  pub behind : j ≤ i
  pub all : take j out ++ map f (keep p (drop i (take n rows))) ≡ map f (keep p (take count rows))

module _ {A B : Type 0} {p : A → Bool} {f : A → B} {count capacity n : ℕ} {rows : List A} where
  pub collect_start : {out : List B} → length rows ≡ capacity → capacity ≤ length out → n ≡ min count capacity → Collecting p f count capacity n rows out 0 0
  collect_start l r e = record { len = l; room = r; counts = e; within = zero-le; behind = zero-le; all = ap (λ (t : List A). map f (keep p t)) (all-rows count capacity n rows l e) }

  module _ {out : List B} {i j : ℕ} (s : Collecting p f count capacity n rows out i j) where
    pub collect_skips : (d : A) → i < n → p (get_or rows i d) ≡ false → Collecting p f count capacity n rows out (i + 1) j
    unfolding keep
    collect_skips d h e =
        record { len = s.len; room = s.room; counts = s.counts; within = omega arith; behind = omega arith; all = rw (next_row count capacity n rows s.len s.counts i d h, e) at s.all }

    pub collect_takes : (d : A) → i < n → p (get_or rows i d) ≡ true → Collecting p f count capacity n rows (set out j (f (get_or rows i d))) (i + 1) (j + 1)
    unfolding keep
    collect_takes d h e =
        record {
          len = s.len;
          room = omega (arith, length-set out j (f (get_or rows i d)), s.room);
          counts = s.counts;
          within = omega arith;
          behind = omega arith;
          all =
              let w : B = f (get_or rows i d) in
              let t : take (j + 1) (set out j w) ≡ take j out ++ (w ∷ []) = rw add-one (take-suc-set out j w (omega (arith, s.room))) in
              rw (t, append_snoc) (rw (next_row count capacity n rows s.len s.counts i d h, e) at s.all);
        }

    pub collect_end : n ≤ i → take j out ≡ map f (keep p (take count rows))
    unfolding keep
    collect_end h =
        let e : drop i (take n rows) ≡ [] = no_row count capacity n rows s.len s.counts i h in
        sym (append-nil (take j out)) ∙ (rw e at s.all)

-- INTO AN ARRAY THAT IS d wherever nothing is collected yet: the whole array is determined, and records that hold it are equal where their lists are.
fill-set : {B : Type 0} (d w : B) (n : ℕ) (l : List B) → length l < n → set (fill d n l) (length l) w ≡ fill d n (l ++ (w ∷ []))
fill-set d w zero l h = absurd (not-suc-le-zero h)
fill-set d w (suc n) [] h = refl
fill-set {B} d w (suc n) (x ∷ l) h = ap {B = List B} (λ (t : List B). x ∷ t) (fill-set d w n l (le_of_suc-le-suc h))

pub fill_more : {B : Type 0} (d w : B) (capacity j : ℕ) (out : List B) → length out ≡ capacity → j < capacity → out ≡ fill d capacity (take j out) → set out j w ≡ fill d capacity (take (j + 1) (set out j w))
fill_more d w capacity j out len h e =
    let n : length (take j out) ≡ j = length-take-le j out (omega arith) in
    let t : take (j + 1) (set out j w) ≡ take j out ++ (w ∷ []) = rw add-one (take-suc-set out j w (omega arith)) in
    let s : set (fill d capacity (take j out)) (length (take j out)) w ≡ fill d capacity (take j out ++ (w ∷ [])) = fill-set d w capacity (take j out) (omega arith) in
    let u : set (fill d capacity (take j out)) j w ≡ fill d capacity (take j out ++ (w ∷ [])) = rw n at s in
    rw t (ap (λ (o : List _). set o j w) e ∙ u)

pub fill_end : {A B : Type 0} {p : A → Bool} {f : A → B} {count capacity n i j : ℕ} {rows : List A} {out : List B} (d : B) → Collecting p f count capacity n rows out i j → out ≡ fill d capacity (take j out) → n ≤ i
    → (out ≡ fill d capacity (map f (keep p (take count rows)))) × (j ≡ length (map f (keep p (take count rows))))
fill_end {capacity = capacity} {j = j} {out = out} d s e h =
    let c = collect_end s h in
    let b : j ≤ length out = omega (arith, s.behind, s.within, s.counts, s.room) in
    (rw (← c) e, rw (← c) (sym (length-take-le j out b)))
