-- A part of a row, or a table within one, lies in the memory where the row does.
use mathlib.Core.Path.{◌≡◌, refl, sym, ap, ◌∙◌}
use mathlib.Core.List.{List, [], ◌∷◌}
use Prim.Native.Nat.{ℕ, ◌+◌, ◌-◌, ◌≤◌}
use native.Mathlib.Omega.{arith}
use lib.ListN.{length, take, drop, length-drop}
use lib.Seq.{take-take, drop-drop}
use Rattle.memory.specs.Rows.{total}
use Rattle.memory.proofs.Chunks.{drop_take}

-- of the w numbers from k on of a row of v numbers that starts at p
pub part : (w k v p : ℕ) (m : List ℕ) → k + w ≤ v → take w (drop k (take v (drop p m))) ≡ take w (drop (p + k) m)
part w k v p m h =
    let e : k + (v - k) ≡ v = omega arith in
    ap (λ (n : ℕ). take w (drop k (take n (drop p m)))) (sym e)
    ∙ ap (take w) (drop_take k (v - k) (drop p m))
    ∙ take-take w (v - k) (drop k (drop p m)) (omega arith)
    ∙ ap (take w) (drop-drop k p m)

-- behind the end there are no numbers
pub beyond : (m : List ℕ) (p : ℕ) → length m ≡ total → total ≤ p → drop p m ≡ []
beyond m p l h = none (drop p m) (let e = length-drop p m in omega arith)
  where
    none : (k : List ℕ) → length k ≡ 0 → k ≡ []
    none [] e = refl
    none (x ∷ k) e = absurd (omega (arith, e))
