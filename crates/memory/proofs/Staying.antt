-- A row that stands where it goes is not copied.
use mathlib.Core.Path.{◌≡◌, ap, ◌∙◌}
use mathlib.Core.Bool.{Bool, true}
use mathlib.Core.List.{List}
use Prim.Native.Nat.{ℕ, ◌+◌, ◌≤◌, ◌<◌}
use native.Mathlib.Omega.{arith}
use lib.ListN.{take, drop}
use Rattle.memory.specs.Rows.{Layout, place, over, Read}
use Rattle.memory.proofs.Loops.{Sifting, sift-keeps}
use Rattle.memory.proofs.Table.{place-fits}
use Rattle.memory.proofs.Frame.{within_refl}
use Rattle.memory.proofs.Written.{within-is-over}

pub sift-stays : {A : Type 0} {t : Layout A} {p : A → Bool} {m₀ m : List ℕ} {n i j : ℕ} {r : A} → Sifting t p m₀ m n i j → Read t m i r → i < n → p r ≡ true → i ≤ j → Sifting t p m₀ m n (i + 1) (j + 1)
sift-stays {t = t} {m = m} {i = i} {j = j} s g k e b =
    let q : i ≡ j = omega (arith, s.behind) in
    let z = place-fits t i (omega (arith, s.most)) in
    let o : m ≡ over m (place t i) (take t.width (drop (place t i) m)) = within-is-over (place t i) t.width m m (omega (arith, s.whole)) (within_refl _ _ _) in
    sift-keeps s g k e (o ∙ ap (λ (x : ℕ). over m (place t x) (take t.width (drop (place t i) m))) q)
