-- Lines, and how they are added to a buffer.
use Rattle.std.specs.Prelude.{◌≡◌, cond, List, [], ◌∷◌, ◌++◌, ℕ, ◌+◌, ◌≤◌, eqb, length, take, drop}
use Rattle.csexp.specs.Term.{decimal}
use Rattle.types.specs.declared.refusals.Refusal.TheVariants.{BadText}
use Rattle.wim.specs.Step.{refusal_number}
use Rattle.wim.specs.Run.{line}
use Rattle.playing.specs.declared.looking.Halt.{Halt}
use Rattle.playing.specs.declared.looking.Halt.TheVariants.{Over, Stopped, Hungry, Crowded}

-- where no event was written: "() for none, or the refusal number alone"; the numbers of refusals have one digit
abbrev pub unwritten : ℕ → List ℕ
unwritten n = cond (eqb n 0) (40 ∷ (41 ∷ [])) ((48 + n) ∷ [])

-- the longest line: "An outgoing event has at most 4,096 bytes", and the line break
abbrev pub line_bytes : ℕ
line_bytes = 4097

-- the line behind the last item
abbrev pub last_line : Halt → List ℕ
last_line Over = []
last_line Stopped = line (decimal (refusal_number BadText))
last_line Hungry = []
last_line Crowded = []

-- The bytes l were added to s at the place `at`: s₂ is left, and p is the place behind them.
pub record Adds (l s : List ℕ) (at : ℕ) (s₂ : List ℕ) (p : ℕ) : Type 0 where
  pub place : p ≡ at + length l
  pub before : take p s₂ ≡ take at s ++ l
  pub behind : drop p s₂ ≡ drop p s

-- The answer of an item stands in s₂, p is the place behind it: behind the bytes of an event, which stand in s already, nothing is added.
pub record Answered (count n : ℕ) (s : List ℕ) (at : ℕ) (s₂ : List ℕ) (p : ℕ) : Type 0 where
  pub none : count ≡ 0 → Adds (unwritten n) s at s₂ p
  pub some : (count ≡ 0 → ⊥) → (s₂ ≡ s) × (p ≡ at + count)
  pub short : p ≤ at + 4096
