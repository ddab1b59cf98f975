-- The choices of a TRIGGER, by what they are: a word with a window's number, or a longer list.
use mathlib.Core.Path.{◌≡◌}
use mathlib.Core.List.{List}
use Rattle.std.specs.Prelude.{option_map}
use Prim.Native.Nat.{ℕ}
use Rattle.std.proofs.Common.{arith}
use Rattle.csexp.specs.At.{ends}
use Rattle.csexp.specs.Answers.{value_at}
use Rattle.csexp.proofs.Steps.{readers, chosen}
use Rattle.shapes.specs.Nouns.{WindowNumber, Event}
use Rattle.shapes.specs.Items.{quietly, trigger_of}
use Rattle.reading_parts.specs.Named.{named_of}

pub triggered : (s : List ℕ) (at : ℕ) (w : List ℕ) (e : WindowNumber → Event)
    → value_at (trigger_of w e) s at ≡ option_map (λ n. ends (quietly (e n.value)) n.next) (value_at (named_of w) s at)
triggered s at w e = grind (arith, readers)

pub ruleset choices = (chosen, triggered)
