-- A table in a memory: its rows read, replaced, put in; its count.
use mathlib.Core.Path.{◌≡◌, refl, sym, ap, ◌∙◌}
use mathlib.Core.List.{List, [], ◌++◌, map}
use Prim.Native.Nat.{ℕ, suc, ◌+◌, ◌*◌, ◌-◌, ◌≤◌, ◌<◌, min}
use native.Mathlib.Nat.{mul-le-mul_right, suc-mul}
use native.Mathlib.Numerals.{add-one}
use native.Mathlib.Omega.{arith}
use lib.ListN.{length, get_or, take, drop, set, length-take, length-drop, length-map, get_or-map}
use lib.Seq.{length-take-le, take-append-le, drop-append-le, drop_at, take-take, drop-drop, get_or-drop, get_or-take, drop-set-lt, get_or-set_same}
use Rattle.sorted.specs.Table.{opened}
use Rattle.memory.specs.Rows.{Layout, chunks, rows, count, table, place, end, over, shifted}
use Rattle.memory.proofs.Chunks.{drop_take, map_set, map_take, map_opened, length_chunks, take_chunks, chunk_at, chunks-set, chunks_open}

-- one number of a row, as the code reads it
pub cell : (w p k : ℕ) (m : List ℕ) → k < w → get_or (take w (drop p m)) k 0 ≡ get_or m (p + k) 0
cell w p k m h = get_or-take w (drop p m) k 0 h ∙ get_or-drop p m k 0

module _ {A : Type 0} (t : Layout A) where
  pub rows_length : (m : List ℕ) → length (rows t m) ≡ t.capacity
  rows_length m = length-map (chunks t.width t.capacity (drop (t.base + 1) m)) t.decode ∙ length_chunks t.width t.capacity (drop (t.base + 1) m)

  pub row_at : (m : List ℕ) (i : ℕ) → i < t.capacity → get_or (rows t m) i (t.decode []) ≡ t.decode (take t.width (drop (place t i) m))
  row_at m i h =
      get_or-map t.decode (chunks t.width t.capacity (drop (t.base + 1) m)) i []
      ∙ ap t.decode (chunk_at t.width i t.capacity (drop (t.base + 1) m) [] h ∙ ap (take t.width) (drop-drop (i * t.width) (t.base + 1) m))

  -- a count beyond the capacity reads as the capacity
  pub counted : (m : List ℕ) → length (table t m) ≡ min (count t m) t.capacity
  counted m = length-take (count t m) (rows t m) ∙ ap (min (count t m)) (rows_length m)

  -- a row that there is room for lies in the table
  pub place-fits : (i : ℕ) → i < t.capacity → place t i + t.width ≤ end t
  place-fits i h =
      let e : suc i * t.width ≡ i * t.width + t.width = suc-mul i t.width in
      let f : suc i * t.width ≤ t.capacity * t.width = mul-le-mul_right t.width h in
      omega arith

  pub rows-over : (m : List ℕ) (i : ℕ) (c : List ℕ) → end t ≤ length m → i < t.capacity → length c ≡ t.width → rows t (over m (place t i) c) ≡ set (rows t m) i (t.decode c)
  rows-over m i c r h z =
      let s : ℕ = t.base + 1 in
      let a : ℕ = i * t.width in
      let f : place t i + t.width ≤ end t = place-fits i h in
      let l₁ : length (take (s + a) m) ≡ s + a = length-take-le (s + a) m (omega arith) in
      let l₂ : length (drop s m) ≡ length m - s = length-drop s m in
      let y : List ℕ = c ++ drop (s + a + length c) m in
      let x : s + a + length c ≡ s + (a + t.width) = omega arith in
      let v : drop (s + a + length c) m ≡ drop (a + t.width) (drop s m) = rw (drop-drop (a + t.width) s m, x) in
      let e : drop s (over m (place t i) c) ≡ take a (drop s m) ++ (c ++ drop (a + t.width) (drop s m)) = drop-append-le s (take (s + a) m) y (omega arith) ∙ (rw (drop_take s a m, v)) in
      ap (λ (k : List ℕ). map t.decode (chunks t.width t.capacity k)) e
      ∙ ap (map t.decode) (chunks-set t.width i t.capacity a (drop s m) c refl h (omega arith) z)
      ∙ map_set t.decode (chunks t.width t.capacity (drop s m)) i c

  -- the count is none of the rows, and the rows none of it
  pub count-over : (m : List ℕ) (i : ℕ) (c : List ℕ) → end t ≤ length m → i < t.capacity → count t (over m (place t i) c) ≡ count t m
  count-over m i c r h =
      let f : place t i + t.width ≤ end t = place-fits i h in
      let l : length (take (place t i) m) ≡ place t i = length-take-le (place t i) m (omega arith) in
      let y : List ℕ = c ++ drop (place t i + length c) m in
      let e : take (t.base + 1) (over m (place t i) c) ≡ take (t.base + 1) m = take-append-le (t.base + 1) (take (place t i) m) y (omega arith) ∙ take-take (t.base + 1) (place t i) m (omega arith) in
      sym (get_or-take (t.base + 1) (over m (place t i) c) t.base 0 (omega arith)) ∙ ap (λ (k : List ℕ). get_or k t.base 0) e ∙ get_or-take (t.base + 1) m t.base 0 (omega arith)

  pub rows-count : (m : List ℕ) (n : ℕ) → rows t (set m t.base n) ≡ rows t m
  rows-count m n = rw (drop-set-lt (t.base + 1) m t.base n (omega arith))

  pub count-count : (m : List ℕ) (n : ℕ) → end t ≤ length m → count t (set m t.base n) ≡ n
  count-count m n r = get_or-set_same m t.base n 0 (omega arith)

  -- a row put in at i, before the n rows that count
  pub rows-opened : (m : List ℕ) (i n : ℕ) (c : List ℕ) → end t ≤ length m → i ≤ n → n < t.capacity → length c ≡ t.width
      → take (n + 1) (rows t (over (shifted m (place t i) (place t n) t.width) (place t i) c)) ≡ opened i (t.decode c) (take n (rows t m))
  rows-opened m i n c r h k z =
      let s : ℕ = t.base + 1 in
      let w : ℕ = t.width in
      let a : ℕ = i * w in
      let p : ℕ = place t i in
      let e : ℕ = place t n in
      let f : e + w ≤ end t = place-fits n k in
      let g : a ≤ n * w = mul-le-mul_right w h in
      let mid : List ℕ = take (e - p) (drop p m) in
      let rest : List ℕ = mid ++ drop (e + w) m in
      let l₁ : length (take (p + w) m) ≡ p + w = length-take-le (p + w) m (omega arith) in
      let l₂ : length (drop s m) ≡ length m - s = length-drop s m in
      let t₁ : take p (shifted m p e w) ≡ take p m = take-append-le p (take (p + w) m) rest (omega arith) ∙ take-take p (p + w) m (omega arith) in
      let t₂ : drop (p + length c) (shifted m p e w) ≡ rest = rw z (drop_at (take (p + w) m) rest (p + w) l₁) in
      let l₃ : length (take p m) ≡ p = length-take-le p m (omega arith) in
      let d₁ : drop s (take p m) ≡ take a (drop s m) = drop_take s a m in
      let d₂ : drop p m ≡ drop a (drop s m) = rw (drop-drop a s m) in
      let q : drop s (over (shifted m p e w) p c) ≡ take a (drop s m) ++ (c ++ (take (e - p) (drop a (drop s m)) ++ drop (e + w) m)) =
      rw (t₁, t₂) (drop-append-le s (take p m) (c ++ rest) (omega arith) ∙ (rw (d₁, d₂)))
      in
      let j : take (n + 1) (chunks w t.capacity (drop s (over (shifted m p e w) p c))) ≡ opened i c (take n (chunks w t.capacity (drop s m))) =
      rw (add-one n, take_chunks w (suc n) t.capacity (drop s (over (shifted m p e w) p c)) k, take_chunks w n t.capacity (drop s m) (omega arith), q)
      (chunks_open w i n a (e - p) (drop s m) c (drop (e + w) m) refl (omega arith) h (omega arith) z)
      in
      sym (map_take t.decode (n + 1) (chunks w t.capacity (drop s (over (shifted m p e w) p c))))
      ∙ ap (map t.decode) j
      ∙ map_opened t.decode i c (take n (chunks w t.capacity (drop s m)))
      ∙ ap (opened i (t.decode c)) (map_take t.decode n (chunks w t.capacity (drop s m)))
