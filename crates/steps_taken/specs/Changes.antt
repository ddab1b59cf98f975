-- In how many places two memories differ.
use Rattle.std.specs.Prelude.{ℕ, ◌+◌, cond, List, [], ◌∷◌, ◌==◌}

abbrev pub differ : ℕ → ℕ → ℕ
differ x y = cond (x == y) 0 1

abbrev pub changes : List ℕ → List ℕ → ℕ
changes [] b = 0
changes (x ∷ a) [] = 0
changes (x ∷ a) (y ∷ b) = differ x y + changes a b
