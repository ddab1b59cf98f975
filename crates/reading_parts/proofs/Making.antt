-- What is made of a word and a window's number, by what they are.
use mathlib.Core.Path.{◌≡◌}
use mathlib.Core.List.{List}
use Rattle.std.specs.Prelude.{option_map}
use Prim.Native.Nat.{ℕ}
use Rattle.std.proofs.Common.{arith}
use Rattle.csexp.specs.At.{ends}
use Rattle.csexp.specs.Answers.{value_at}
use Rattle.csexp.proofs.Steps.{readers, chosen, opened, passed, closed}
use Rattle.shapes.specs.Nouns.{WindowNumber, Command}
use Rattle.shapes.specs.Items.{naming_of}
use Rattle.reading_parts.specs.Named.{named_of}

pub named : (s : List ℕ) (at : ℕ) (w : List ℕ) (c : WindowNumber → Command)
    → value_at (naming_of w c) s at ≡ option_map (λ n. ends (c n.value) n.next) (value_at (named_of w) s at)
named s at w c = grind (arith, readers)

pub ruleset choices = (chosen, named)
