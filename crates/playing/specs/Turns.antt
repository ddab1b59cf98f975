-- One item was played: the browser is the one behind it, and its line was added.
use Rattle.std.specs.Prelude.{◌≡◌, List, ℕ}
use Rattle.wim.specs.Step.{Browser, Result}
use Rattle.wim.specs.Run.{line_of, after}
use Rattle.playing.specs.Lines.{Adds}

pub record Turns (o : Result) (b : Browser) (s : List ℕ) (at : ℕ) (s₂ : List ℕ) (c : Browser) (p : ℕ) : Type 0 where
  pub stands : c ≡ after b o
  pub adds : Adds (line_of o) s at s₂ p
