-- Where a row goes: how a key stands to the rows; a row put in there.
use mathlib.Core.Path.{◌≡◌, refl, sym, ap, subst, ◌∙◌}
use mathlib.Core.Bool.{Bool, true, false}
use mathlib.Core.List.{List}
use Prim.Native.Nat.{ℕ, ◌+◌, ◌≤◌, ◌<◌}
use native.Mathlib.Nat.{mul-le-mul_right}
use native.Mathlib.Omega.{arith}
use lib.ListN.{length, set}
use Rattle.std.specs.declared.cmp.Ordering.{Ordering as Order}
use Rattle.std.specs.declared.cmp.Ordering.TheVariants.{Less as Before, Equal as Same, Greater as After}
use Rattle.sorted.specs.Order.{same, after}
use Rattle.sorted.proofs.Never.{never}
use Rattle.memory.specs.Rows.{total, Layout, table, place, end, shifted, Glimpsed, Found, Put, Written, Lifted}
use Rattle.memory.proofs.Table.{place-fits}
use Rattle.memory.proofs.Loops.{Searching, search_end, place-below, place-within}
use Rattle.memory.proofs.Written.{written_instead, written-between, written_nowhere}
use Rattle.sorted.specs.Table.{stand}
use Rattle.memory.proofs.Heads.{glance_after, glance_stop}

same_is_not_after : (o : Order) → same o ≡ true → after o ≡ false
same_is_not_after Before e = refl
same_is_not_after Same e = refl
same_is_not_after After e = never (cc)

module _ {A H : Type 0} {t : Layout A} {head_of : A → H} (c : H → Order) {m : List ℕ} {i : ℕ} {h : H} (g : Glimpsed t head_of m i h) (o : Order) (e : o ≡ c h) {n : ℕ} where
  pub stands_after : Searching t (λ x. c (head_of x)) m n i → i < n → after o ≡ true → Searching t (λ x. c (head_of x)) m n (i + 1)
  stands_after s k a = glance_after g c s k (ap after (sym e) ∙ a)

  pub stands_there : Searching t (λ x. c (head_of x)) m n i → i < n → same o ≡ true → n ≡ length (table t m) → Found t (λ x. c (head_of x)) m i true (length (table t m))
  stands_there s k a q = rw (sym q, sym a, e) (glance_stop g c s k (ap after (sym e) ∙ same_is_not_after o a))

  pub stands_before : Searching t (λ x. c (head_of x)) m n i → i < n → same o ≡ false → after o ≡ false → n ≡ length (table t m) → Found t (λ x. c (head_of x)) m i false (length (table t m))
  stands_before s k a b q = rw (sym q, sym a, e) (glance_stop g c s k (ap after (sym e) ∙ b))

-- behind all of them
pub stands_last : {A : Type 0} {t : Layout A} {c : A → Order} {m : List ℕ} {n i : ℕ} → Searching t c m n i → n ≡ i → n ≡ length (table t m) → Found t c m n false (length (table t m))
stands_last {t = t} {c = c} {m = m} {n = n} s k q = rw (sym q) (subst (λ x. Found t c m x false n) (sym k) (search_end s (omega arith)))

-- the rows from a place on are moved up by one
pub rows_shifted : {A : Type 0} (t : Layout A) {m l : List ℕ} (i n p e w : ℕ) → end t ≤ total → n < t.capacity → i ≤ n → p ≡ place t i → e ≡ place t n → w ≡ t.width → Lifted m p e w l → l ≡ shifted m (place t i) (place t n) t.width
rows_shifted t {m} i n p e w l h k f q z c =
    let a : place t n + t.width ≤ end t = place-fits t n h in
    let b : place t i ≤ place t n = (let x = mul-le-mul_right t.width k in omega arith) in
    rw (sym f, sym q, sym z) (c.fits (omega arith) (omega arith))

-- A ROW PUT IN, where its key says.
module _ {A K : Type 0} {t : Layout A} (key : A → K) (cmp : K → K → Order) (r : A) {m : List ℕ} {i : ℕ} {k : K} {n : ℕ} {hit : Bool} (e : k ≡ key r) (s : Found t (λ x. cmp k (key x)) m i hit n) (l : length m ≡ total) (h : end t ≤ total) where
  stands : Found t (stand key cmp r) m i hit n
  stands = subst (λ x. Found t (λ y. cmp x (key y)) m i hit n) e s

  pub put_there : {m₁ : List ℕ} → hit ≡ true → (i < t.capacity → Written t r i m m₁) → Put t key cmp r m m₁ true
  put_there q w = written_instead key cmp r stands (omega arith) q (w (place-below stands q))

  pub put_nowhere : hit ≡ false → t.capacity ≤ n → Put t key cmp r m m false
  put_nowhere q b = written_nowhere key cmp r stands (omega arith) q b

  pub put_before : {m₁ m₂ : List ℕ} (p u w : ℕ) → hit ≡ false → n < t.capacity → p ≡ place t i → u ≡ place t n → w ≡ t.width → Lifted m p u w m₁ → (i < t.capacity → Written t r i m₁ m₂) → Put t key cmp r m (set m₂ t.base (n + 1)) true
  put_before p u w q b f g z c v =
      let a : i ≤ n = place-within stands in
      written-between key cmp r stands (omega arith) q b (rows_shifted t i n p u w h b a f g z c) (v (omega arith))
