-- What is told of a step that was performed, with the event in the buffer.
use Rattle.std.specs.Prelude.{◌≡◌, List, ℕ, Option, Ok, Err}
use Rattle.csexp.specs.Sent.{Written}
use Rattle.std.specs.Prelude.{Some as Bytes, None as Crowded}
use Rattle.types.specs.declared.refusals.Refusal.TheVariants.{NoRoom}
use Rattle.shapes.specs.Events.{Message}
use Rattle.writing.specs.Wrote.{Wrote}
use Rattle.stepping.specs.Gives.{Performed}
use Rattle.rehearsal.specs.Rehearses.{Rehearsed}

-- the event was written, or there was none; else it is 7
abbrev pub answered : Written → Rehearsed
answered (Bytes n) = Ok n
answered Crowded = Err NoRoom

-- the event of a step that was accepted
pub record Tells (x : Option Message) (out : List ℕ) (place : ℕ) (r : Rehearsed) (out₂ : List ℕ) : Type 0 where
  pub written : Written
  pub wrote : Wrote x out place out₂ written
  pub says : r ≡ answered written

-- of a step that was refused nothing is written
abbrev pub Writes : Performed → List ℕ → ℕ → Rehearsed → List ℕ → Type 0
Writes (Err why) out place r out₂ = (r ≡ Err why) × (out₂ ≡ out)
Writes (Ok x) out place r out₂ = Tells x out place r out₂
