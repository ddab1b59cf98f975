-- What holds of the loops whatever a closure answers: rows moved or written change nothing but their table, and a row that is handed out is one of the table's.
use mathlib.Core.Path.{◌≡◌, refl, sym, subst, ◌∙◌}
use mathlib.Core.List.{List, [], ◌∷◌}
use mathlib.Core.Logic.{◌⊎◌, inl, inr}
use Prim.Native.Nat.{ℕ, zero, suc, ◌+◌, ◌-◌, ◌≤◌, ◌<◌, min}
use native.Mathlib.Omega.{arith}
use lib.ListN.{length, get_or, take, drop, length-drop, set}
use lib.Seq.{length-take-le, get_or-take}
use Rattle.sorted.specs.Table.{In}
use Rattle.memory.specs.Rows.{Layout, rows, count, table, place, end, over, Within, Read, Written}
use Rattle.memory.proofs.Table.{counted, place-fits}
use Rattle.memory.proofs.Frame.{within-over, within-set}

module _ {A : Type 0} (t : Layout A) where
  -- a row is copied to another's place
  pub copied_within : {m n : List ℕ} (i j : ℕ) → end t ≤ length m → i < t.capacity → j ≤ i → n ≡ over m (place t j) (take t.width (drop (place t i) m)) → Within t.base (end t) m n
  copied_within {m} {n} i j l h k q =
      let a : place t i + t.width ≤ end t = place-fits t i h in
      let b : place t j + t.width ≤ end t = place-fits t j (omega arith) in
      let ld : length (drop (place t i) m) ≡ length m - place t i = length-drop (place t i) m in
      let lc : length (take t.width (drop (place t i) m)) ≡ t.width = length-take-le t.width (drop (place t i) m) (omega arith) in
      rw q (within-over t.base (end t) m (place t j) (take t.width (drop (place t i) m)) (omega arith) (omega arith) l)

  pub written_within : {r : A} {m n : List ℕ} (i : ℕ) → end t ≤ length m → i < t.capacity → Written t r i m n → Within t.base (end t) m n
  written_within {r} {m} {n} i l h w =
      let a : place t i + t.width ≤ end t = place-fits t i h in
      rw w.is (within-over t.base (end t) m (place t i) (take t.width (drop (place t i) n)) (omega arith) (omega (arith, w.len)) l)

  pub counted_within : (m : List ℕ) (n : ℕ) → Within t.base (end t) m (set m t.base n)
  counted_within m n = within-set t.base (end t) m t.base n (omega arith) (omega arith)

-- a row at a place within a list
at_in : {A : Type 0} (l : List A) (i : ℕ) (d : A) → i < length l → In (get_or l i d) l
at_in [] i d h = absurd (omega arith)
at_in (x ∷ l) zero d h = inl refl
at_in (x ∷ l) (suc i) d h = inr (at_in l i d (omega arith))

pub read_in : {A : Type 0} (t : Layout A) (m : List ℕ) (i : ℕ) {r : A} → Read t m i r → i < length (table t m) → In r (table t m)
read_in t m i {r} g h =
    let k : length (table t m) ≡ min (count t m) t.capacity = counted t m in
    let e : get_or (table t m) i (t.decode []) ≡ get_or (rows t m) i (t.decode []) = get_or-take (count t m) (rows t m) i (t.decode []) (omega arith) in
    subst (λ x. In x (table t m)) (e ∙ sym g.is) (at_in (table t m) i (t.decode []) h)
