-- A row that is written in several goes: its head by one store, the rest by another function.
use mathlib.Core.Path.{◌≡◌, refl, sym, ap, ap₂, ◌∙◌}
use mathlib.Core.Bool.{Bool, true, false}
use mathlib.Core.List.{List, ◌++◌}
use Prim.Native.Nat.{ℕ, ◌+◌, ◌-◌, ◌≤◌, ◌<◌}
use native.Mathlib.Omega.{arith}
use lib.ListN.{length, take, drop, set, length-drop, take-append-drop}
use lib.Seq.{length-take-le, take-take, drop-drop, take_at, drop_at}
use Rattle.std.specs.declared.cmp.Ordering.{Ordering as Order}
use Rattle.sorted.specs.Table.{stand}
use Rattle.sorted.proofs.Open.{put_full}
use Rattle.memory.specs.Rows.{Layout, Within, over, shifted, place, end, rows, Found, Put, Written, Cleared}
use Rattle.memory.proofs.Chunks.{drop_take}
use Rattle.memory.proofs.Table.{place-fits, count-count}
use Rattle.memory.proofs.Frame.{within_refl, within-then, within-over, within-set}
use Rattle.memory.proofs.Loops.{put_instead, put-between}

-- a smaller part of the memory
pub within_wider : {b e : ℕ} {m n : List ℕ} (b₁ e₁ : ℕ) → b₁ ≤ b → e ≤ e₁ → Within b e m n → Within b₁ e₁ m n
within_wider {b} {e} {m} {n} b₁ e₁ h k f =
    let q : e + (e₁ - e) ≡ e₁ = omega arith in
    record {
      len = f.len;
      before = sym (take-take b₁ b n h) ∙ ap (take b₁) f.before ∙ take-take b₁ b m h;
      behind = ap (λ (i : ℕ). drop i n) (sym q) ∙ sym (drop-drop (e₁ - e) e n) ∙ ap (drop (e₁ - e)) f.behind ∙ drop-drop (e₁ - e) e m ∙ ap (λ (i : ℕ). drop i m) q;
    }

-- what stands there now was stored
part_length : (p w : ℕ) (n : List ℕ) → p + w ≤ length n → length (take w (drop p n)) ≡ w
part_length p w n h = let l : length (drop p n) ≡ length n - p = length-drop p n in length-take-le w (drop p n) (omega arith)

pub within-is-over : (p w : ℕ) (m n : List ℕ) → p + w ≤ length m → Within p (p + w) m n → n ≡ over m p (take w (drop p n))
within-is-over p w m n h f =
    let z : length (take w (drop p n)) ≡ w = part_length p w n (omega (arith, f.len)) in
    sym (take-append-drop p n)
    ∙ ap₂ (λ (a b : List ℕ). a ++ b) f.before (sym (take-append-drop w (drop p n)) ∙ ap (λ (a : List ℕ). take w (drop p n) ++ a) (drop-drop w p n ∙ f.behind ∙ ap (λ (k : ℕ). drop (p + k) m) (sym z)))

module _ {A : Type 0} (t : Layout A) (i k : ℕ) (h m : List ℕ) {m₁ n : List ℕ} (l : length h ≡ k) (q : m₁ ≡ over m (place t i) h) (f : Within (place t i + k) (place t i + t.width) m₁ n) where
  -- the head is as it was stored
  pub head-kept : place t i + t.width ≤ length m → k ≤ t.width → take k (drop (place t i) n) ≡ h
  head-kept r b =
      let p : ℕ = place t i in
      let z : length (take p m) ≡ p = length-take-le p m (omega arith) in
      sym (drop_take p k n) ∙ ap (drop p) f.before ∙ drop_take p k m₁ ∙ ap (λ (a : List ℕ). take k (drop p a)) q
      ∙ ap (take k) (drop_at (take p m) (h ++ drop (p + length h) m) p z) ∙ take_at h (drop (p + length h) m) k l

  pub written : {r : A} → place t i + t.width ≤ length m → k ≤ t.width → t.decode (take t.width (drop (place t i) n)) ≡ r → Written t r i m n
  written r b e =
      let p : ℕ = place t i in
      let x : Within p (p + t.width) m m₁ = rw q (within-over p (p + t.width) m p h (omega arith) (omega arith) r) in
      let y : Within p (p + t.width) m n = within-then x (within_wider p (p + t.width) (omega arith) (omega arith) f) in
      record { is = within-is-over p t.width m n r y; len = part_length p t.width n (omega (arith, y.len)); reads = e }

-- all its numbers by one store
pub written_once : {A : Type 0} (t : Layout A) (i : ℕ) (c m : List ℕ) {n : List ℕ} {r : A} → end t ≤ length m → i < t.capacity → length c ≡ t.width → t.decode c ≡ r → n ≡ over m (place t i) c → Written t r i m n
written_once t i c m {n} l h z d q =
    let k : place t i + t.width ≤ end t = place-fits t i h in
    let f : Within (place t i + t.width) (place t i + t.width) n n = within_refl _ _ _ in
    written t i t.width c m z q f (omega arith) (omega arith) (ap t.decode (head-kept t i t.width c m z q f (omega arith) (omega arith)) ∙ d)

-- A ROW PUT IN, in three ways.
module _ {A K : Type 0} {t : Layout A} (key : A → K) (cmp : K → K → Order) (r : A) {m : List ℕ} {at n : ℕ} {hit : Bool} (s : Found t (stand key cmp r) m at hit n) (l : end t ≤ length m) where
  pub written_instead : {m₁ : List ℕ} → hit ≡ true → Written t r at m m₁ → Put t key cmp r m m₁ true
  written_instead {m₁} h w = put_instead key cmp r (take t.width (drop (place t at) m₁)) s l w.len w.reads h w.is

  pub written-between : {m₁ m₂ : List ℕ} → hit ≡ false → n < t.capacity → m₁ ≡ shifted m (place t at) (place t n) t.width → Written t r at m₁ m₂ → Put t key cmp r m (set m₂ t.base (n + 1)) true
  written-between {m₁} {m₂} h b q w = put-between key cmp r (take t.width (drop (place t at) m₂)) s l w.len w.reads h b q w.is

  pub written_nowhere : hit ≡ false → t.capacity ≤ n → Put t key cmp r m m false
  written_nowhere h b = record { rows = put_full key cmp r s.is h b; same = λ e. refl; rest = within_refl _ _ _ }

-- NO ROW IS LEFT where none counts.
pub cleared : {A : Type 0} (t : Layout A) (m : List ℕ) → end t ≤ length m → Cleared t m (set m t.base 0)
cleared {A} t m l = record {
  rows = ap (λ (k : ℕ). take k (rows t (set m t.base 0))) (count-count t m 0 l);
  rest = within-set t.base (end t) m t.base 0 (omega arith) (omega arith);
}
