-- The bytes from one place to another were moved to the front.
use Rattle.std.specs.Prelude.{◌≡◌, List, ◌++◌, ℕ, ◌-◌, take, drop}

pub record Keeps (s : List ℕ) (from to : ℕ) (s₂ : List ℕ) (n : ℕ) : Type 0 where
  pub count : n ≡ to - from
  pub moved : s₂ ≡ take n (drop from s) ++ drop n s
