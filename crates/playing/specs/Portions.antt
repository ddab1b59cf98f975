-- A run is played portion by portion. A portion is played as far as its items are whole, and as long as there is room for the longest line.
use Rattle.std.specs.Prelude.{Bool, cond, List, [], ◌∷◌, ◌++◌, ℕ, zero, suc, ◌+◌, ◌-◌, leb, ltb, length, take, drop}
use Rattle.std.specs.Prelude.{Result, Ok as Item, Err as Nothing}
use Rattle.csexp.specs.Limits.{Ending}
use Rattle.std.specs.Prelude.{Some as Whole, None as Broken}
use Rattle.csexp.specs.Limits.{item_bytes, item_levels, ending_of}
use Rattle.shapes.specs.Texts.{item_in}
use Rattle.wim.specs.Step.{Browser}
use Rattle.wim.specs.Run.{performed, line_of, after}
use Rattle.playing.specs.declared.looking.Halt.{Halt}
use Rattle.playing.specs.declared.looking.Halt.TheVariants.{Over, Stopped, Hungry, Crowded}
use Rattle.playing.specs.Lines.{line_bytes, last_line}

-- an item of so many bytes, or none
abbrev pub Next : Type 0
Next = Result ℕ Halt

-- no item stands first: refusal 1 is certain where nothing follows, and where no item is so long
abbrev pub unended : List ℕ → Bool → Halt
unended [] last = cond last Over Hungry
unended (x ∷ s) last = cond last Stopped (cond (leb item_bytes (length (x ∷ s))) Stopped Hungry)

abbrev pub first_of : List ℕ → Bool → Ending → Next
first_of s last (Whole n) = Item n
first_of s last Broken = Nothing (unended s last)

-- what comes next in what is left of a portion; `last`: nothing follows it
unfoldable pub next_in : List ℕ → Bool → ℕ → Next
next_in s last room = cond (ltb room line_bytes) (Nothing Crowded) (first_of s last (ending_of item_bytes item_levels s 0))

-- What a portion comes to: how many bytes were played, their lines, the browser behind them, and why no more were played.
pub record Portion : Type 0 where
  pub read : ℕ
  pub lines : List ℕ
  pub browser : Browser
  pub halt : Halt

abbrev pub halted : Halt → Browser → Portion
halted h b = record { read = 0; lines = last_line h; browser = b; halt = h }

-- an item of n bytes and its line, and then the others
abbrev pub joined : ℕ → List ℕ → Portion → Portion
joined n l p = record { read = n + p.read; lines = l ++ p.lines; browser = p.browser; halt = p.halt }

-- The first argument bounds how many items there are.
unfoldable pub portion_from : ℕ → List ℕ → Bool → ℕ → Browser → Portion
portion_from zero s last room b = halted Crowded b
portion_from (suc k) s last room b =
    elim (next_in s last room) as (λ _. Portion) [
      | Item n ↦ (let r = performed (item_in (take n s)) b in joined n (line_of r) (portion_from k (drop n s) last (room - length (line_of r)) (after b r)))
      | Nothing h ↦ halted h b
    ]

unfoldable pub portion_of : List ℕ → Bool → ℕ → Browser → Portion
portion_of s last room b = portion_from (suc (length s)) s last room b
