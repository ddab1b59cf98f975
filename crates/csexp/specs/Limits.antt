-- The limits of a text: how many bytes it has at most, and how many lists stand inside one another.
use Rattle.std.specs.Prelude.{Bool, false, cond, List, [], ◌∷◌, ℕ, ◌-◌, length, leb, Option, None as none, Some as some, option_and_then}
use Rattle.csexp.specs.Term.{Term, levels, levels_in}
use Rattle.csexp.specs.Read.{Got, no, got, read}
use Rattle.csexp.specs.At.{behind}
use Rattle.csexp.specs.Decode.{Decoder, Fields}
use Rattle.csexp.specs.Answers.{value_at}

-- where a term ends, or that there is none within the limits
abbrev pub Ending : Type 0
Ending = Option ℕ

-- 01 "Numbers, names, sizes": one item of text has at most 16,384 bytes and 16 levels of lists
abbrev pub item_bytes : ℕ
item_bytes = 16384

abbrev pub item_levels : ℕ
item_levels = 16

-- any term of at most n levels
unfoldable pub shallow : ℕ → Decoder (Unit {0})
shallow n t = cond (leb (levels t) n) (some tt) none

unfoldable pub shallows : ℕ → Fields (Unit {0})
shallows n ts = cond (leb (levels_in ts) n) (some tt) none

-- the first term from `at` on, if it has at most so many bytes and levels
abbrev pub ending : ℕ → ℕ → Option ℕ → Ending
ending bytes at m = option_and_then (λ p. cond (leb (p - at) bytes) (some p) none) m

unfoldable pub ending_of : ℕ → ℕ → List ℕ → ℕ → Ending
ending_of bytes n s at = ending bytes at (behind (value_at (shallow n) s at))

-- the text is one term of at most n levels, and nothing is left
abbrev pub all_of : ℕ → Got Term → Bool
all_of n no = false
all_of n (got t []) = leb (levels t) n
all_of n (got t (b ∷ r)) = false

unfoldable pub whole_of : ℕ → ℕ → List ℕ → Bool
whole_of bytes n s = cond (leb (length s) bytes) (all_of n (read s)) false
