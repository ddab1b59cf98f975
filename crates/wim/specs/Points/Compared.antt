-- What is compared: a run of items and the lines that it should print.
use Rattle.std.specs.Prelude.{Bool, true, false, ◌&&◌, List, [], ◌∷◌, ◌++◌, ℕ, eqb}
use Prim.Native.String.{String}
use Rattle.csexp.specs.Text.{text}
use Rattle.wim.specs.Step.{empty_browser}
use Rattle.wim.specs.Run.{play, line}

pub record Run : Type 0 where
  pub items : List String
  pub lines : List String

-- the items one behind the other, the lines each with a line feed
abbrev pub input : List String → List ℕ
input [] = []
input (s ∷ ss) = text s ++ input ss

abbrev pub output : List String → List ℕ
output [] = []
output (s ∷ ss) = line (text s) ++ output ss

abbrev pub equal : List ℕ → List ℕ → Bool
equal [] [] = true
equal [] (y ∷ ys) = false
equal (x ∷ xs) [] = false
equal (x ∷ xs) (y ∷ ys) = eqb x y && equal xs ys

-- the definitions print these lines, from the empty open browser on
abbrev pub prints : Run → Bool
prints r = equal (play (input r.items) empty_browser) (output r.lines)

abbrev pub all_print : List Run → Bool
all_print [] = true
all_print (r ∷ rs) = prints r && all_print rs
