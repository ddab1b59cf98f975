-- The player's run: items one behind the other, a line for each (01 "The player's run").
use Rattle.std.specs.Prelude.{List, [], ◌∷◌, ◌++◌, ℕ, zero, suc, length, take, drop}
use Rattle.std.specs.Prelude.{Option, None as none, Some as some}
use Rattle.csexp.specs.Text.{text}
use Rattle.csexp.specs.Term.{decimal, write}
use Rattle.std.specs.Prelude.{Some as Whole, None as Broken}
use Rattle.csexp.specs.Limits.{item_bytes, item_levels, ending_of}
use Rattle.shapes.specs.Texts.{Taken, unread, item, item_in}
use Rattle.shapes.specs.Events.{Message, event_of}
use Rattle.wim.specs.Nouns.{BadText}
use Rattle.wim.specs.Step.{refusal_number, Browser, Result, declined, accepted, step}

-- "the outgoing event, () for none, or the refusal number alone"
abbrev pub event_line : Option Message → List ℕ
event_line none = text "()"
event_line (some m) = write (event_of m)

abbrev pub line : List ℕ → List ℕ
line s = s ++ (10 ∷ [])

-- what an item's text does to the browser, in a run with room enough for every event
abbrev pub performed : Taken → Browser → Result
performed (unread r) b = declined r
performed (item i) b = step i b

abbrev pub line_of : Result → List ℕ
line_of (declined r) = line (decimal (refusal_number r))
line_of (accepted c m) = line (event_line m)

abbrev pub after : Browser → Result → Browser
after b (declined r) = b
after b (accepted c m) = c

-- "After refusal 1 it stops. An input that is empty or ends after an item ends the run without a line". The first argument bounds how many items there are.
unfoldable pub play_from : ℕ → List ℕ → Browser → List ℕ
play_from zero s b = []
play_from (suc n) [] b = []
play_from (suc n) (x ∷ s) b =
    elim (ending_of item_bytes item_levels (x ∷ s) 0) as (λ _. List ℕ) [
      | Whole p ↦ (let r = performed (item_in (take p (x ∷ s))) b in line_of r ++ play_from n (drop p (x ∷ s)) (after b r))
      | Broken ↦ line (decimal (refusal_number BadText))
    ]

unfoldable pub play : List ℕ → Browser → List ℕ
play s b = play_from (length s) s b
