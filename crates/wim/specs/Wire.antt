-- The step on text: an item's text, a browser, a buffer and a place in it give a refusal, or the browser, a count of bytes and the buffer.
use Rattle.std.specs.Prelude.{cond, List, ◌++◌, ℕ, ◌+◌, leb, length, take, drop}
use Rattle.std.specs.Prelude.{Option, None as none, Some as some}
use Rattle.csexp.specs.Term.{write}
use Rattle.shapes.specs.Texts.{Taken, unread, item, item_in}
use Rattle.shapes.specs.Events.{Message, event_of}
use Rattle.wim.specs.Nouns.{Refusal, NoRoom}
use Rattle.wim.specs.Step.{Verdict, Accepted, Refused, Browser, Result, declined, accepted, step}

-- What a step on text gives.
pub record Returned : Type 0 where
  pub verdict : Verdict
  pub browser : Browser
  pub count : ℕ
  pub buffer : List ℕ

-- "A refusal returns its number, browser and buffer unchanged."
abbrev pub refusing : Refusal → Browser → List ℕ → Returned
refusing r b out = record { verdict = Refused r; browser = b; count = 0; buffer = out }

-- "the event is written from the given place onward and bytes before and after it stay"
abbrev pub put_into : List ℕ → ℕ → List ℕ → List ℕ
put_into out place bs = take place out ++ (bs ++ drop (place + length bs) out)

-- 7: "its event doesn't fit between the given place in the buffer and its end, or the place lies past the end"; a step without a message writes none
abbrev pub sending : Option Message → Browser → Browser → List ℕ → ℕ → Returned
sending none b c out place = record { verdict = Accepted; browser = c; count = 0; buffer = out }
sending (some m) b c out place =
    let bs = write (event_of m) in
    cond (leb (place + length bs) (length out))
    (record { verdict = Accepted; browser = c; count = length bs; buffer = put_into out place bs })
    (refusing NoRoom b out)

abbrev pub returning : Result → Browser → List ℕ → ℕ → Returned
returning (declined r) b out place = refusing r b out
returning (accepted c m) b out place = sending m b c out place

abbrev pub rehearsing : Taken → Browser → List ℕ → ℕ → Returned
rehearsing (unread r) b out place = refusing r b out
rehearsing (item i) b out place = returning (step i b) b out place

-- "Order: 1, 2, 8, 3, 4, 5, 6, 7"
unfoldable pub rehearse : List ℕ → Browser → List ℕ → ℕ → Returned
rehearse s b out place = rehearsing (item_in s) b out place
