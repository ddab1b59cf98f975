-- The loop that reads a method: what the rows from one on say.
use Rattle.std.proofs.Common.{◌≡◌, refl, ℕ, ◌+◌, ◌<◌, List, [], ◌∷◌, length, get_or, drop, Option, None as none, Some as some, add-one, drop-cons}
use Rattle.std.specs.Option.{option_or}
use denote.Ref.{Bor}
use Rattle.csexp.specs.Term.{Term}
use Rattle.csexp.specs.declared.At.{At}
use Rattle.csexp.specs.At.{term_at}
use Rattle.csexp.specs.Decode.{means}
use Rattle.csexp.specs.Answers.{decode, value_at}
use Rattle.csexp.proofs.Steps.{chosen}
use Rattle.shapes.specs.Nouns.{Method}

abbrev pub first_found : List ℕ → ℕ → List (Method × Bor (List ℕ)) → Option (At Method)
first_found s at [] = none
first_found s at (row ∷ rows) = option_or (value_at (means row.1.now row.0) s at) (first_found s at rows)

pub found_next : (s : List ℕ) (at : ℕ) (rows : List (Method × Bor (List ℕ))) (i : ℕ) (d : Method × Bor (List ℕ)) → i < length rows
    → first_found s at (drop i rows) ≡ (let row = get_or rows i d in option_or (value_at (means row.1.now row.0) s at) (first_found s at (drop (i + 1) rows)))
found_next s at rows i d h = rw (add-one, drop-cons rows i d h) refl

pub nothing : (s : List ℕ) (at : ℕ) → value_at {A = Method} (λ _. none) s at ≡ none
unfolding value_at
nothing s at = go (term_at s at)
  where
    go : (m : Option (At Term)) → decode {T = Term} {A = Method} (λ _. none) m ≡ none
    go none = refl
    go (some t) = refl

pub ruleset rows = (chosen, nothing, found_next)
