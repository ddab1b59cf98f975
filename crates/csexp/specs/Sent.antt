-- What a writer of a whole text leaves in the buffer that it is given, and what it answers. 01: "the event is written from the given place
-- onward and bytes before and after it stay", and where it has no room the buffer is as it was.
use Rattle.std.specs.Prelude.{◌≡◌, cond, List, ◌++◌, ℕ, ◌+◌, length, take, drop, leb}
use Rattle.std.specs.Prelude.{Option, Some as Bytes, None as NoRoom}

-- how many bytes a writer of a whole text wrote; where they have no room between the place that it was given and the end, it wrote none
abbrev pub Written : Type 0
Written = Option ℕ

-- the bytes bs have room in s from `place` on: where the place lies past the end they have none, since every text has at least one byte
abbrev pub answer : List ℕ → List ℕ → ℕ → Written
answer bs s place = cond (leb (place + length bs) (length s)) (Bytes (length bs)) NoRoom

abbrev pub left : List ℕ → List ℕ → ℕ → List ℕ
left bs s place = cond (leb (place + length bs) (length s)) (take place s ++ (bs ++ drop (place + length bs) s)) s

pub record Sent (bs s : List ℕ) (place : ℕ) (s₂ : List ℕ) (r : Written) : Type 0 where
  pub says : r ≡ answer bs s place
  pub leaves : s₂ ≡ left bs s place
