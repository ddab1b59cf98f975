-- The browsers that accepted steps have made: of any items, and of items that were read.
use Rattle.std.specs.Prelude.{◌≡◌, List, ℕ}
use Rattle.std.specs.Prelude.{Option}
use Rattle.shapes.specs.Events.{Message}
use Rattle.shapes.specs.Texts.{item, item_in}
use Rattle.wim.specs.Nouns.{Item}
use Rattle.wim.specs.Step.{Browser, empty_browser, accepted, step}

-- "Demand 3 speaks of browsers that accepted steps have made from the empty open one."
pub data Made : Browser → Type 0 where
  empty : Made empty_browser
  next : {b c : Browser} (i : Item) (m : Option Message) → Made b → step i b ≡ accepted c m → Made c

-- A run from the browser b comes to another one: each text that is read as an item, and whose step is accepted, brings it further.
pub data RunsTo (b : Browser) : Browser → Type 0 where
  begun : RunsTo b b
  further : {c d : Browser} (s : List ℕ) (i : Item) (m : Option Message) → RunsTo b c → item_in s ≡ item i → step i c ≡ accepted d m → RunsTo b d
