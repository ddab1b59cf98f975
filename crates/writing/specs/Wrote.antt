-- What the writer of events leaves in the buffer that it is given, and what it answers. 01: "the event is written from the given place onward
-- and bytes before and after it stay", "A step without a message writes none", "An outgoing event has at most 4,096 bytes".
use Rattle.std.specs.Prelude.{◌≡◌, List, ℕ, ◌≤◌, length}
use Rattle.std.specs.Prelude.{Option, None as none, Some as some}
use Rattle.csexp.specs.Term.{write}
use Rattle.csexp.specs.Sent.{Written}
use Rattle.std.specs.Prelude.{Some as Bytes}
use Rattle.csexp.specs.Sent.{answer, left}
use Rattle.shapes.specs.Events.{Message, event_of, event_text}

-- a step without a message is answered wherever the place lies
abbrev pub answer_of : Option Message → List ℕ → ℕ → Written
answer_of none s place = Bytes 0
answer_of (some m) s place = answer (write (event_of m)) s place

abbrev pub left_of : Option Message → List ℕ → ℕ → List ℕ
left_of none s place = s
left_of (some m) s place = left (write (event_of m)) s place

-- the length of an event, and its bound
pub record Long (m : Option Message) (n : ℕ) : Type 0 where
  pub is : n ≡ length (event_text m)
  pub short : n ≤ 4096

-- The message was written into s at `place`: s₂ is left, and r is the answer.
pub record Wrote (m : Option Message) (s : List ℕ) (place : ℕ) (s₂ : List ℕ) (r : Written) : Type 0 where
  pub says : r ≡ answer_of m s place
  pub leaves : s₂ ≡ left_of m s place
  pub short : length (event_text m) ≤ 4096
