-- A list of a word and a window's number, of which a command or a choice is made.
use Rattle.std.specs.Prelude.{List, ℕ}
use Rattle.csexp.specs.Decode.{Decoder, inside, one, end, word}
use Rattle.shapes.specs.Nouns.{WindowNumber}
use Rattle.shapes.specs.Items.{window_of}

abbrev pub named_of : List ℕ → Decoder WindowNumber
named_of w = inside (one (word w) λ _. one window_of λ window. end window)
