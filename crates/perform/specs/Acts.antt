-- The step of an item in place, of a browser that is open: what the definitions say; and at a refusal but 6 the memory is the very one that it was.
use Rattle.std.specs.Prelude.{◌≡◌, true, List, ℕ, Ok, Err}
use Rattle.types.specs.declared.items.Item.{Item}
use Rattle.wim.specs.Step.{Result, declined, accepted, closes, concluded, step_tables}
use Rattle.browser.specs.View.{view, browser}
use Rattle.stepping.specs.Gives.{Performed, keeps}

-- what the item does to the browser that the memory holds, taken to be open
abbrev pub happening : Item → List ℕ → Result
happening i m = concluded (closes i.event) (step_tables i (view m))

abbrev pub Ended : List ℕ → Result → List ℕ → Performed → Type 0
Ended m (declined why) n r = (r ≡ Err why) × (keeps why ≡ true → n ≡ m)
Ended m (accepted c x) n r = (r ≡ Ok x) × (browser n ≡ c)

pub record Acts (i : Item) (m n : List ℕ) (r : Performed) : Type 0 where
  pub is : Ended m (happening i m) n r
