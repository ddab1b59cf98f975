-- What a step in place gives: what the definitions say; and at a refusal but 6 the memory is the very one that it was.
use Rattle.std.specs.Prelude.{◌≡◌, Bool, true, false, cond, List, ℕ, Option, Result, Ok, Err}
use Rattle.types.specs.declared.refusals.Refusal.{Refusal}
use Rattle.types.specs.declared.refusals.Refusal.TheVariants.{BadText, BadShape, Lacking, Stopped, NotFresh, Full, NoRoom, Closed}
use Rattle.shapes.specs.Events.{Message}
use Rattle.wim.specs.Program.{Outcome, refused, made}
use Rattle.browser.specs.View.{view}

-- what goes out, or why the step is refused
abbrev pub Performed : Type 0
Performed = Result (Option Message) Refusal

-- of 6 nothing is said: rehearsal::step takes such a step on a copy, which it throws away
abbrev pub keeps : Refusal → Bool
keeps BadText = true
keeps BadShape = true
keeps (Lacking m) = true
keeps Stopped = true
keeps NotFresh = true
keeps Full = false
keeps NoRoom = true
keeps Closed = true

abbrev pub Settled : List ℕ → Outcome → List ℕ → Performed → Type 0
Settled m (refused why) n r = (r ≡ Err why) × (keeps why ≡ true → n ≡ m)
Settled m (made c x) n r = (r ≡ Ok x) × (view n ≡ c)

pub record Answers (m : List ℕ) (o : Outcome) (n : List ℕ) (r : Performed) : Type 0 where
  pub is : Settled m o n r

-- accepted with this message, or 6
abbrev pub concluded : Bool → Option Message → Performed
concluded room x = cond room (Ok x) (Err Full)
