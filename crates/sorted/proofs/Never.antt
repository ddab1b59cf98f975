-- What cannot be: `never (cc)` where two constructors that differ are said to be equal.
use mathlib.Core.Path.{◌≡◌}
use Prim.Native.Nat.{ℕ}
use native.Mathlib.Omega.{arith}

pub never {ℓ} : {A : Type ℓ} → ◌≡◌ {A = ℕ} 0 1 → A
never h = absurd (omega arith)
