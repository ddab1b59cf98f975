-- The loops over a table in a memory, each by the law of `sorted` for the rows.
use mathlib.Core.Path.{◌≡◌, sym, ap, ap₂, ◌∙◌}
use mathlib.Core.Bool.{Bool, true, false, true≢false}
use mathlib.Core.List.{List, []}
use Rattle.std.specs.Prelude.{None as none, Some as some}
use Prim.Native.Nat.{ℕ, ◌+◌, ◌*◌, ◌-◌, ◌≤◌, ◌<◌, min}
use native.Mathlib.Numerals.{add-one}
use native.Mathlib.Nat.{mul-le-mul_right}
use native.Mathlib.Omega.{arith}
use lib.ListN.{length, get_or, take, drop, set, length-drop}
use lib.Seq.{length-take-le, take-take}
use Rattle.std.specs.declared.cmp.Ordering.{Ordering as Order}
use Rattle.sorted.specs.Order.{same, after}
use Rattle.sorted.specs.Table.{find, stand, opened}
use Rattle.sorted.proofs.First.{Finding, find-start, find-next, find-hit, find-end}
use Rattle.sorted.proofs.Seek.{Seeking, seek_start, seek_next, seek_hit, seek_end, lower-within}
use Rattle.sorted.proofs.Keep.{Keeping, keep-start, keep_drops, keep-keeps, keep-end}
use Rattle.sorted.proofs.Open.{at-below, put-over, put-new}
use Rattle.memory.specs.Rows.{Layout, rows, count, table, place, end, over, shifted, Within, Read, Found, Kept, Put}
use Rattle.memory.proofs.Chunks.{take_opened}
use Rattle.memory.proofs.Table.{rows_length, counted, row_at, place-fits, rows-over, count-over, rows-count, count-count, rows-opened}
use Rattle.memory.proofs.Frame.{within_refl, within-then, within-set, within-over, within-shifted}

-- THE FIRST ROW that passes.
pub record Looking {A : Type 0} (t : Layout A) (p : A → Bool) (m : List ℕ) (n i : ℕ) : Type 0 where
  pub finding : Finding p (count t m) t.capacity n (rows t m) i
  pub most : n ≤ t.capacity

module _ {A : Type 0} {t : Layout A} {p : A → Bool} {m : List ℕ} {n : ℕ} where
  pub look_start : n ≡ length (table t m) → Looking t p m n 0
  look_start e = let k : n ≡ min (count t m) t.capacity = e ∙ counted t m in record { finding = find-start (rows_length t m) k; most = omega arith }

  module _ {i : ℕ} (s : Looking t p m n i) where
    pub look_next : {r : A} → Read t m i r → i < n → p r ≡ false → Looking t p m n (i + 1)
    look_next g h e = record { finding = find-next s.finding (t.decode []) h (ap p (sym g.is) ∙ e); most = s.most }

    pub look_hit : {r : A} → Read t m i r → i < n → p r ≡ true → some r ≡ find p (table t m)
    look_hit g h e = let f = g.is in ap some f ∙ find-hit s.finding (t.decode []) h (ap p (sym f) ∙ e)

    pub look_end : n ≤ i → none ≡ find p (table t m)
    look_end h = find-end s.finding h

-- THE PLACE of a row.
pub record Searching {A : Type 0} (t : Layout A) (c : A → Order) (m : List ℕ) (n i : ℕ) : Type 0 where
  pub seeking : Seeking c (count t m) t.capacity n (rows t m) i
  pub most : n ≤ t.capacity

module _ {A : Type 0} {t : Layout A} {c : A → Order} {m : List ℕ} {n : ℕ} where
  pub search_start : n ≡ length (table t m) → Searching t c m n 0
  search_start e = let k : n ≡ min (count t m) t.capacity = e ∙ counted t m in record { seeking = seek_start (rows_length t m) k; most = omega arith }

  module _ {i : ℕ} (s : Searching t c m n i) where
    pub search_next : {r : A} → Read t m i r → i < n → after (c r) ≡ true → Searching t c m n (i + 1)
    search_next g h e = record { seeking = seek_next s.seeking (t.decode []) h (ap (λ (x : A). after (c x)) (sym g.is) ∙ e); most = s.most }

    pub search_hit : {r : A} → Read t m i r → i < n → after (c r) ≡ false → Found t c m i (same (c r)) n
    search_hit g h e =
        let f = g.is in
        record { is = rw f (seek_hit s.seeking (t.decode []) h (ap (λ (x : A). after (c x)) (sym f) ∙ e)) }

    pub search_end : n ≤ i → Found t c m i false n
    search_end h = record { is = seek_end s.seeking h }

-- ONLY ROWS THAT PASS.
pub record Sifting {A : Type 0} (t : Layout A) (p : A → Bool) (m₀ m : List ℕ) (n i j : ℕ) : Type 0 where
  pub keeping : Keeping p (count t m₀) t.capacity n (rows t m₀) (rows t m) i j
  pub within : i ≤ n
  pub behind : j ≤ i
  pub most : n ≤ t.capacity
  pub whole : end t ≤ length m
  pub rest : Within t.base (end t) m₀ m

module _ {A : Type 0} {t : Layout A} {p : A → Bool} {m₀ : List ℕ} {n : ℕ} where
  pub sift-start : end t ≤ length m₀ → n ≡ length (table t m₀) → Sifting t p m₀ m₀ n 0 0
  sift-start l e = let k : n ≡ min (count t m₀) t.capacity = e ∙ counted t m₀ in record { keeping = keep-start (rows_length t m₀) k; within = omega arith; behind = omega arith; most = omega arith; whole = l; rest = within_refl _ _ _ }

  module _ {m : List ℕ} {i j : ℕ} (s : Sifting t p m₀ m n i j) where
    pub sift_drops : {r : A} → Read t m i r → i < n → p r ≡ false → Sifting t p m₀ m n (i + 1) j
    sift_drops g h e = record {
      keeping = keep_drops s.keeping (t.decode []) h (ap p (sym g.is) ∙ e);
      within = omega arith;
      behind = omega (arith, s.behind);
      most = s.most;
      whole = s.whole;
      rest = s.rest;
    }

    pub sift-keeps : {r : A} {m₁ : List ℕ} → Read t m i r → i < n → p r ≡ true → m₁ ≡ over m (place t j) (take t.width (drop (place t i) m)) → Sifting t p m₀ m₁ n (i + 1) (j + 1)
    sift-keeps {r} {m₁} g h e q =
        let w : ℕ = t.width in
        let f = g.is in
        let c : List ℕ = take w (drop (place t i) m) in
        let k : place t i + w ≤ end t = place-fits t i (omega (arith, s.most)) in
        let k₂ : place t j + w ≤ end t = place-fits t j (omega (arith, s.most, s.behind)) in
        let ld : length (drop (place t i) m) ≡ length m - place t i = length-drop (place t i) m in
        let lc : length c ≡ w = length-take-le w (drop (place t i) m) (omega (arith, s.whole)) in
        let v : rows t m₁ ≡ set (rows t m) j (get_or (rows t m) i (t.decode [])) = ap (rows t) q ∙ rows-over t m j c s.whole (omega (arith, s.most, s.behind)) lc ∙ ap (set (rows t m) j) (sym (row_at t m i (omega (arith, s.most)))) in
        let z : Within t.base (end t) m m₁ = rw q (within-over t.base (end t) m (place t j) c (omega arith) (omega arith) s.whole) in
        record {
          keeping = rw v (keep-keeps s.keeping (t.decode []) h (ap p (sym f) ∙ e));
          within = omega arith;
          behind = omega (arith, s.behind);
          most = s.most;
          whole = omega (arith, s.whole, z.len);
          rest = within-then s.rest z;
        }

    pub sift-end : n ≤ i → Kept t p m₀ (set m t.base j)
    sift-end h = record {
      rows = ap₂ (λ (k : ℕ) (l : List A). take k l) (count-count t m j s.whole) (rows-count t m j) ∙ keep-end s.keeping h;
      rest = within-then s.rest (within-set t.base (end t) m t.base j (omega arith) (omega arith));
    }

-- where a row goes
module _ {A : Type 0} {t : Layout A} {c : A → Order} {m : List ℕ} {at n : ℕ} {hit : Bool} (s : Found t c m at hit n) where
  pub place-below : hit ≡ true → at < t.capacity
  place-below h = at-below s.is h

  pub place-within : at ≤ n
  place-within = omega (arith, s.is.place, s.is.size, lower-within c (table t m))

-- A ROW PUT IN, in the place of another or between two.
module _ {A K : Type 0} {t : Layout A} (key : A → K) (cmp : K → K → Order) (r : A) {m : List ℕ} {at n : ℕ} {hit : Bool} (c : List ℕ) (s : Found t (stand key cmp r) m at hit n)
    (l : end t ≤ length m) (z : length c ≡ t.width) (d : t.decode c ≡ r) where
  pub put_instead : {m₁ : List ℕ} → hit ≡ true → m₁ ≡ over m (place t at) c → Put t key cmp r m m₁ true
  put_instead h q =
      let b : at < t.capacity = at-below s.is h in
      let k : place t at + t.width ≤ end t = place-fits t at b in
      let v : rows t (over m (place t at) c) ≡ set (rows t m) at r = rows-over t m at c l b z ∙ ap (set (rows t m) at) d in
      rw q record {
        rows = rw (v, count-over t m at c l b) (put-over key cmp r s.is h);
        same = λ e. absurd (true≢false e);
        rest = within-over t.base (end t) m (place t at) c (omega arith) (omega arith) l;
      }

  pub put-between : {m₁ m₂ : List ℕ} → hit ≡ false → n < t.capacity → m₁ ≡ shifted m (place t at) (place t n) t.width → m₂ ≡ over m₁ (place t at) c → Put t key cmp r m (set m₂ t.base (n + 1)) true
  put-between {m₁} {m₂} h b q₁ q₂ =
      let w : ℕ = t.width in
      let a : at ≤ n = place-within s in
      let k : place t n + w ≤ end t = place-fits t n b in
      let k₂ : place t at + w ≤ end t = place-fits t at (omega arith) in
      let g : at * w ≤ n * w = mul-le-mul_right w a in
      let f₁ : Within t.base (end t) m m₁ = rw q₁ (within-shifted t.base (end t) m (place t at) (place t n) w (omega arith) (omega arith) k l) in
      let l₁ : end t ≤ length m₁ = omega (arith, f₁.len) in
      let f₂ : Within t.base (end t) m₁ m₂ = rw q₂ (within-over t.base (end t) m₁ (place t at) c (omega arith) (omega arith) l₁) in
      let l₂ : end t ≤ length m₂ = omega (arith, f₂.len) in
      let f₃ : Within t.base (end t) m₂ (set m₂ t.base (n + 1)) = within-set t.base (end t) m₂ t.base (n + 1) (omega arith) (omega arith) in
      let v : take (n + 1) (rows t m₂) ≡ opened at r (take n (rows t m)) = (rw (q₂, q₁) (rows-opened t m at n c l a b z)) ∙ ap (λ (x : A). opened at x (take n (rows t m))) d in
      let u : take (n + 1) (take t.capacity (opened at r (rows t m))) ≡ opened at r (take n (rows t m)) = rw (take-take (n + 1) t.capacity (opened at r (rows t m)) (omega arith), add-one n) (take_opened at n r (rows t m) a) in
      let y : table t (set m₂ t.base (n + 1)) ≡ take (n + 1) (take t.capacity (opened at r (rows t m))) =
      ap₂ (λ (i : ℕ) (x : List A). take i x) (count-count t m₂ (n + 1) l₂) (rows-count t m₂ (n + 1)) ∙ v ∙ sym u
      in
      record {
        rows = rw y (put-new key cmp r s.is h b);
        same = λ e. absurd (true≢false e);
        rest = within-then f₁ (within-then f₂ f₃);
      }
