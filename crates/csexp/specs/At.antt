-- What stands at a position of a text: a value and the position behind it, or nothing.
use Rattle.std.specs.Prelude.{List, ℕ, ◌-◌, length, drop, Option, None as none, Some as some, option_map}
use Rattle.csexp.specs.Term.{Term, Terms}
use Rattle.csexp.specs.Read.{Got, no, got, mark, number, string, read, reads}
use Rattle.csexp.specs.declared.At.{At}

-- the value a, which ends at p
abbrev pub ends : {A : Type 0} → A → ℕ → At A
ends a p = record { value = a; next = p }

-- what is read in the text s, with the position behind it for the text that is left
abbrev pub place : {A : Type 0} → List ℕ → Got A → Option (At A)
place s no = none
place s (got a r) = some (ends a (length s - length r))

unfoldable pub term_at : List ℕ → ℕ → Option (At Term)
term_at s at = place s (read (drop at s))

-- the terms up to a ')', and the position behind that
unfoldable pub terms_at : List ℕ → ℕ → Option (At Terms)
terms_at s at = place s (reads (drop at s))

unfoldable pub string_at : List ℕ → ℕ → Option (At (List ℕ))
string_at s at = place s (string (drop at s))

unfoldable pub number_at : List ℕ → ℕ → Option (At ℕ)
number_at s at = place s (number (drop at s))

-- the position alone
abbrev pub behind : {A : Type 0} → Option (At A) → Option ℕ
behind m = option_map (λ a. a.next) m

unfoldable pub mark_at : ℕ → List ℕ → ℕ → Option ℕ
mark_at b s at = behind (place s (mark b (drop at s)))
