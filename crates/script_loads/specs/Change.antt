-- What a program does that comes behind what every script step stores: a change of its own, which a closure makes to the memory, and then the rest.
use Rattle.std.specs.Prelude.{◌≡◌, Bool, true, List, [], ◌∷◌, ℕ, None as none}
use denote.Ref.{MutBor}
use Rattle.types.specs.declared.Fresh.{Fresh}
use Rattle.types.specs.declared.Sending.{Sending}
use Rattle.tables.specs.Tables.{Table, cookies, local_storage, session_storage, Tables}
use Rattle.tables.specs.Labels.{Label}
use Rattle.wim.specs.Program.{Program, Outcome, made, run}
use Rattle.wim.specs.Sending.{send}
use Rattle.stepping.specs.Brings.{Brings}
use Rattle.stepping.specs.Holds.{apart, Carries}
use Rattle.stepping.specs.Wanted.{kinds, picked, wants_send}

-- The program brings these numbers and changes the tables by `does`, as each call of the closure carries the memory on; what it takes rows from is
-- nothing that the store puts rows into.
pub record Does {F : Type 0} (post : F → MutBor (List ℕ) → Bool → MutBor (List ℕ) → Type 0) (change : F) (ls : List Label) (rest : Tables → Outcome) (p : Program) : Type 0 where
  pub does : Tables → Tables
  pub puts : List Table
  pub drops : List Table
  pub brings : Brings (kinds ls) p
  pub ran : (b : Tables) → run p b ls ≡ rest (does b)
  pub clear : apart drops (session_storage ∷ local_storage ∷ cookies ∷ []) ≡ true
  pub carries : (k l : MutBor (List ℕ)) (room : Bool) → post change k room l → Carries does puts drops k.now l.now room

-- the rest: HTTP_SEND, or nothing
abbrev pub sends : Sending → Fresh → Tables → Outcome
sends o f b = run (send o) b (picked wants_send f)

abbrev pub silence : Tables → Outcome
silence b = made b none
