-- Rows of w numbers: one read, one replaced, one put between two.
use mathlib.Core.Path.{◌≡◌, refl, sym, ap, ap₂, ◌∙◌}
use mathlib.Core.List.{List, [], ◌∷◌, ◌++◌, map}
use Prim.Native.Nat.{ℕ, zero, suc, ◌+◌, ◌*◌, ◌-◌, ◌≤◌, ◌<◌}
use native.Mathlib.Nat.{suc-mul, zero-mul, add_comm, mul-le-mul_right, not-suc-le-zero, le_of_suc-le-suc, zero-add, suc-add}
use native.Mathlib.Omega.{arith}
use lib.ListN.{length, get_or, take, drop, set, length-drop}
use lib.Seq.{length-take-le, take-append-le, drop-append-le, take_at, drop_at, take-take, drop-drop, take-nil}
use Rattle.sorted.specs.Table.{opened}
use Rattle.memory.specs.Rows.{chunks}

-- LISTS of anything.
module _ {A : Type 0} where
  pub drop_take : (a k : ℕ) (l : List A) → drop a (take (a + k) l) ≡ take k (drop a l)
  drop_take a k l = go a l
    where
      go : (a : ℕ) (l : List A) → drop a (take (a + k) l) ≡ take k (drop a l)
      go zero l = rw (zero-add)
      go (suc a) [] = rw (suc-add) (sym (take-nil k))
      go (suc a) (x ∷ l) = rw suc-add (go a l)

  pub take_opened : (p n : ℕ) (r : A) (l : List A) → p ≤ n → take (suc n) (opened p r l) ≡ opened p r (take n l)
  take_opened zero n r l h = refl
  take_opened (suc p) zero r l h = absurd (not-suc-le-zero h)
  take_opened (suc p) (suc n) r [] h = refl
  take_opened (suc p) (suc n) r (x ∷ xs) h = ap {B = List A} (λ (t : List A). x ∷ t) (take_opened p n r xs (le_of_suc-le-suc h))

module _ {A B : Type 0} (f : A → B) where
  pub map_set : (l : List A) (i : ℕ) (x : A) → map f (set l i x) ≡ set (map f l) i (f x)
  map_set [] i x = refl
  map_set (y ∷ l) zero x = refl
  map_set (y ∷ l) (suc i) x = ap {B = List B} (λ (t : List B). f y ∷ t) (map_set l i x)

  pub map_take : (n : ℕ) (l : List A) → map f (take n l) ≡ take n (map f l)
  map_take zero l = refl
  map_take (suc n) [] = refl
  map_take (suc n) (y ∷ l) = ap {B = List B} (λ (t : List B). f y ∷ t) (map_take n l)

  pub map_opened : (p : ℕ) (x : A) (l : List A) → map f (opened p x l) ≡ opened p (f x) (map f l)
  map_opened zero x l = refl
  map_opened (suc p) x [] = refl
  map_opened (suc p) x (y ∷ l) = ap {B = List B} (λ (t : List B). f y ∷ t) (map_opened p x l)

-- ROWS OF w NUMBERS.
module _ (w : ℕ) where
  pub length_chunks : (n : ℕ) (l : List ℕ) → length (chunks w n l) ≡ n
  unfolding chunks
  length_chunks zero l = refl
  length_chunks (suc n) l = ap suc (length_chunks n (drop w l))

  pub take_chunks : (k n : ℕ) (l : List ℕ) → k ≤ n → take k (chunks w n l) ≡ chunks w k l
  unfolding chunks
  take_chunks zero n l h = refl
  take_chunks (suc k) zero l h = absurd (not-suc-le-zero h)
  take_chunks (suc k) (suc n) l h = ap {B = List (List ℕ)} (λ (t : List (List ℕ)). take w l ∷ t) (take_chunks k n (drop w l) (le_of_suc-le-suc h))

  pub chunk_at : (i n : ℕ) (l d : List ℕ) → i < n → get_or (chunks w n l) i d ≡ take w (drop (i * w) l)
  unfolding chunks
  chunk_at i zero l d h = absurd (not-suc-le-zero h)
  chunk_at zero (suc n) l d h = rw zero-mul
  chunk_at (suc i) (suc n) l d h = chunk_at i n (drop w l) d (le_of_suc-le-suc h) ∙ (rw (suc-mul, add_comm) (ap (take w) (drop-drop (i * w) w l)))

  -- what stands behind n rows does not matter
  pub chunks-front : (n : ℕ) (l rest : List ℕ) → n * w ≤ length l → chunks w n (take (n * w) l ++ rest) ≡ chunks w n l
  unfolding chunks
  chunks-front zero l rest r = refl
  chunks-front (suc n) l rest r =
      let m₁ : suc n * w ≡ w + n * w = suc-mul n w ∙ add_comm (n * w) w in
      let l₁ : length (take (w + n * w) l) ≡ w + n * w = length-take-le (w + n * w) l (omega arith) in
      let l₂ : length (drop w l) ≡ length l - w = length-drop w l in
      let t : take w (take (w + n * w) l ++ rest) ≡ take w l = take-append-le w (take (w + n * w) l) rest (omega arith) ∙ take-take w (w + n * w) l (omega arith) in
      let s : drop w (take (w + n * w) l ++ rest) ≡ take (n * w) (drop w l) ++ rest = drop-append-le w (take (w + n * w) l) rest (omega arith) ∙ (rw (drop_take w (n * w) l)) in
      rw (m₁, t, s, chunks-front n (drop w l) rest (omega arith))

  pub chunks_take : (n : ℕ) (l : List ℕ) → chunks w n (take (n * w) l) ≡ chunks w n l
  unfolding chunks
  chunks_take zero l = refl
  chunks_take (suc n) l =
      let m₁ : suc n * w ≡ w + n * w = suc-mul n w ∙ add_comm (n * w) w in
      rw (m₁, take-take w (w + n * w) l (omega arith), drop_take w (n * w) l, chunks_take n (drop w l))

  -- one row replaced
  pub chunks-set : (i n a : ℕ) (l c : List ℕ) → a ≡ i * w → i < n → n * w ≤ length l → length c ≡ w → chunks w n (take a l ++ (c ++ drop (a + w) l)) ≡ set (chunks w n l) i c
  unfolding chunks
  chunks-set i zero a l c e h r z = absurd (not-suc-le-zero h)
  chunks-set zero (suc n) a l c e h r z =
      let e₀ : a ≡ 0 = e ∙ zero-mul w in
      rw (e₀, zero-add, take_at c (drop w l) w z, drop_at c (drop w l) w z)
  chunks-set (suc i) (suc n) a l c e h r z =
      let b : ℕ = i * w in
      let e₁ : a ≡ w + b = e ∙ suc-mul i w ∙ add_comm (i * w) w in
      let m₁ : suc n * w ≡ n * w + w = suc-mul n w in
      let m₂ : b ≤ n * w = mul-le-mul_right w (omega arith) in
      let y : List ℕ = c ++ drop (a + w) l in
      let l₁ : length (take a l) ≡ a = length-take-le a l (omega arith) in
      let l₂ : length (drop w l) ≡ length l - w = length-drop w l in
      let t : take w (take a l ++ y) ≡ take w l = take-append-le w (take a l) y (omega arith) ∙ take-take w a l (omega arith) in
      let u : drop w (take a l) ≡ take b (drop w l) = rw e₁ (drop_take w b l) in
      let v : drop (a + w) l ≡ drop (b + w) (drop w l) = let x : a + w ≡ w + (b + w) = omega arith in rw (drop-drop (b + w) w l, x) in
      let s : drop w (take a l ++ y) ≡ take b (drop w l) ++ (c ++ drop (b + w) (drop w l)) = drop-append-le w (take a l) y (omega arith) ∙ (rw (u, v)) in
      rw (t, s, chunks-set i n b (drop w l) c refl (omega arith) (omega arith) z)

  -- one row put in
  pub chunks_open : (i n a k : ℕ) (l c rest : List ℕ) → a ≡ i * w → a + k ≡ n * w → i ≤ n → n * w ≤ length l → length c ≡ w → chunks w (suc n) (take a l ++ (c ++ (take k (drop a l) ++ rest))) ≡ opened i c (chunks w n l)
  unfolding chunks
  chunks_open zero n a k l c rest e f h r z =
      let e₀ : a ≡ 0 = e ∙ zero-mul w in
      let f₀ : k ≡ n * w = omega (arith, e₀) in
      rw (e₀, f₀, take_at c (take (n * w) l ++ rest) w z, drop_at c (take (n * w) l ++ rest) w z, chunks-front n l rest r)
  chunks_open (suc i) zero a k l c rest e f h r z = absurd (not-suc-le-zero h)
  chunks_open (suc i) (suc n) a k l c rest e f h r z =
      let b : ℕ = i * w in
      let e₁ : a ≡ w + b = e ∙ suc-mul i w ∙ add_comm (i * w) w in
      let m₁ : suc n * w ≡ n * w + w = suc-mul n w in
      let m₂ : b ≤ n * w = mul-le-mul_right w (omega arith) in
      let y : List ℕ = c ++ (take k (drop a l) ++ rest) in
      let l₁ : length (take a l) ≡ a = length-take-le a l (omega arith) in
      let l₂ : length (drop w l) ≡ length l - w = length-drop w l in
      let t : take w (take a l ++ y) ≡ take w l = take-append-le w (take a l) y (omega arith) ∙ take-take w a l (omega arith) in
      let u : drop w (take a l) ≡ take b (drop w l) = rw e₁ (drop_take w b l) in
      let v : drop a l ≡ drop b (drop w l) = rw (drop-drop b w l, e₁) in
      let s : drop w (take a l ++ y) ≡ take b (drop w l) ++ (c ++ (take k (drop b (drop w l)) ++ rest)) = drop-append-le w (take a l) y (omega arith) ∙ (rw (u, v)) in
      ap₂ {C = List (List ℕ)} (λ (x : List ℕ) (q : List ℕ). x ∷ chunks w (suc n) q) t s
      ∙ ap {B = List (List ℕ)} (λ (x : List (List ℕ)). take w l ∷ x) (chunks_open i n b k (drop w l) c rest refl (omega arith) (omega arith) (omega arith) z)
