-- What the readers of the code answer: what was found, a value and the position behind it, or nothing. Each answer is what a definition
-- says of the text, so a position that was found lies within it.
use Rattle.std.specs.Prelude.{◌≡◌, cond, List, ℕ, ◌-◌, ◌≤◌, leb, Option, None as none, Some as some, option_map, option_and_then, slice_get, IfSome}
use denote.Ref.{Bor}
use Rattle.csexp.specs.Read.{digit}
use Rattle.csexp.specs.At.{ends, behind, term_at, terms_at, mark_at, number_at, string_at}
use Rattle.csexp.specs.Decode.{Decoder, Fields}
use Rattle.csexp.specs.declared.At.{At}

-- a decoder of what stands at a position
abbrev pub found : {A : Type 0} → Option A → ℕ → Option (At A)
found m p = option_map (λ a. ends a p) m

abbrev pub decode : {T A : Type 0} → (T → Option A) → Option (At T) → Option (At A)
decode d m = option_and_then (λ t. found (d t.value) t.next) m

-- what the decoder d finds at the position `at` of the text s
unfoldable pub value_at : {A : Type 0} → Decoder A → List ℕ → ℕ → Option (At A)
value_at d s at = decode d (term_at s at)

-- the same of the fields from a position inside a list on, up to its ')'
unfoldable pub fields_at : {A : Type 0} → Fields A → List ℕ → ℕ → Option (At A)
fields_at f s at = decode f (terms_at s at)

-- The answer r is what the decoder d finds; what these fields are; and, where a reader tells only where it ends, the position behind either.
pub record Reads {A : Type 0} (d : Decoder A) (s : List ℕ) (at : ℕ) (r : Option (At A)) : Type 0 where
  pub exactly : r ≡ value_at d s at

pub record Rest {A : Type 0} (f : Fields A) (s : List ℕ) (at : ℕ) (r : Option (At A)) : Type 0 where
  pub exactly : r ≡ fields_at f s at

pub record Passes {A : Type 0} (d : Decoder A) (s : List ℕ) (at : ℕ) (r : Option ℕ) : Type 0 where
  pub exactly : r ≡ behind (value_at d s at)

pub record Leaves {A : Type 0} (f : Fields A) (s : List ℕ) (at : ℕ) (r : Option ℕ) : Type 0 where
  pub exactly : r ≡ behind (fields_at f s at)

-- the same of the one byte b
pub record Marks (b : ℕ) (s : List ℕ) (at : ℕ) (r : Option ℕ) : Type 0 where
  pub exactly : r ≡ mark_at b s at

-- the same of a term that may be absent: what d finds, or b and the position itself
abbrev pub tried_at : {A B : Type 0} → B → (A → B) → ℕ → Option (At A) → At B
tried_at b f at none = ends b at
tried_at b f at (some a) = ends (f a.value) a.next

pub record Tries {A B : Type 0} (b : B) (f : A → B) (d : Decoder A) (s : List ℕ) (at : ℕ) (r : At B) : Type 0 where
  pub exactly : r ≡ tried_at b f at (value_at d s at)

-- the value of the digit at a position
abbrev pub digit_of : ℕ → Option ℕ
digit_of b = cond (digit b) (some (b - 48)) none

unfoldable pub digit_at : List ℕ → ℕ → Option ℕ
digit_at s i = option_and_then digit_of (slice_get s i)

-- a decimal number of at most cap
abbrev pub at_most : ℕ → ℕ → Option ℕ
at_most cap n = cond (leb n cap) (some n) none

pub record Counts (cap : ℕ) (s : List ℕ) (at : ℕ) (r : Option (At ℕ)) : Type 0 where
  pub exactly : r ≡ decode (at_most cap) (number_at s at)
  pub small : IfSome r (λ n. n.value ≤ cap)

-- an atom: the part of the text that its bytes are
abbrev pub bytes_in : Option (At (Bor (List ℕ))) → Option (At (List ℕ))
bytes_in r = option_map (λ a. ends a.value.now a.next) r

pub record Strings (s : List ℕ) (at : ℕ) (r : Option (At (Bor (List ℕ)))) : Type 0 where
  pub exactly : bytes_in r ≡ string_at s at
