-- A step in place: what its program says, then 5, then 6.
use Rattle.std.specs.Prelude.{List, ℕ}
use Rattle.types.specs.declared.Fresh.{Fresh}
use Rattle.wim.specs.Program.{Program, run}
use Rattle.wim.specs.Step.{fresh_labels, admit}
use Rattle.browser.specs.View.{view}
use Rattle.stepping.specs.Gives.{Performed, Answers}

pub record Performs (p : Program) (f : Fresh) (m n : List ℕ) (r : Performed) : Type 0 where
  pub answers : Answers m (admit (fresh_labels f) (view m) (run p (view m) (fresh_labels f))) n r
