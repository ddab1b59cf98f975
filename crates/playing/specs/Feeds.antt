-- What the beginning of a run from an input leaves, and what a turn of it leaves: a window with bytes that are held, and a memory.
use Rattle.std.specs.Prelude.{◌≡◌, List, ℕ, ◌≤◌, length}
use Rattle.wim.specs.Step.{empty_browser}
use Rattle.wim.specs.Made.{RunsTo}
use Rattle.browser.specs.View.{browser}

pub record Begins (m : List ℕ) (held : ℕ) : Type 0 where
  pub empty : browser m ≡ empty_browser
  pub nothing : held ≡ 0

pub record Feeds (m window k : List ℕ) (held : ℕ) : Type 0 where
  -- what is held lies within the window
  pub within : held ≤ length window
  -- a run comes from the browser before to the one behind
  pub comes : RunsTo (browser m) (browser k)
