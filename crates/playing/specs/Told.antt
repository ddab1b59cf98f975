-- What a run from an input tells, where it is known which bytes the input has left and which bytes were written: lines behind lines, all of them the definitions' run.
use Rattle.std.specs.Prelude.{◌≡◌, Bool, true, false, cond, List, [], ◌++◌, ℕ, ◌+◌, ◌*◌, ◌^◌, ◌<◌, ◌≤◌, ⊤, Option, None, Some, length, take}
use Rattle.std.specs.Io.KnownBytes.{Appends}
use Rattle.csexp.specs.Limits.{item_bytes}
use Rattle.wim.specs.Step.{empty_browser}
use Rattle.wim.specs.Run.{play}
use Rattle.browser.specs.View.{browser}
use Rattle.playing.specs.declared.window.Run.{Run}
use Rattle.playing.specs.Lines.{line_bytes}

-- lines are written where they are to be told, and else none
abbrev pub spoken : Bool → List ℕ → List ℕ
spoken loud lines = cond loud lines []

-- the run that is left: of what is held and of what the input has left, unless it is over
abbrev pub left : Run → List ℕ → List ℕ → List ℕ → List ℕ
left run window rest m = cond run.over [] (play (take run.held window ++ rest) (browser m))

-- an input that has ended has nothing left
abbrev pub Ended : Run → List ℕ → Type 0
Ended run rest = run.last ≡ true → rest ≡ []

-- how many turns a run has before it at most: a turn plays some of what is held, or reads on, or finds that the input has ended
abbrev pub ahead : Run → List ℕ → ℕ
ahead run rest = run.held + 2 * length rest + cond run.last 0 1

-- What a turn tells, and what it leaves of the run.
pub record Tells (loud : Bool) (old new : Option (List ℕ)) (run : Run) (window m rest : List ℕ) (run₂ : Run) (window₂ k rest₂ : List ℕ) : Type 0 where
  pub lines : List ℕ
  pub written : Appends old new (spoken loud lines)
  pub goes_on : play (take run.held window ++ rest) (browser m) ≡ lines ++ left run₂ window₂ rest₂ k
  pub ended : Ended run₂ rest₂
  pub nearer : run₂.over ≡ false → ahead run₂ rest₂ < ahead run rest

-- a turn: of an input that has known bytes left, with a window that an item does not fill, and with room for a line
abbrev pub Turned : Bool → ℕ → Option (List ℕ) → Option (List ℕ) → Run → List ℕ → List ℕ → Option (List ℕ) → Run → List ℕ → List ℕ → Option (List ℕ) → Type 0
Turned loud room old new run window m None run₂ window₂ k after = ⊤
Turned loud room old new run window m (Some rest) run₂ window₂ k after =
    Ended run rest → item_bytes ≤ length window → line_bytes ≤ room → (rest₂ : List ℕ) × ((after ≡ Some rest₂) × Tells loud old new run window m rest run₂ window₂ k rest₂)

-- the whole run: of an input that has known bytes left, fewer than 2^63
abbrev pub Told : Bool → Option (List ℕ) → Option (List ℕ) → Option (List ℕ) → Type 0
Told loud None old new = ⊤
Told loud (Some text) old new = length text < 2 ^ 63 → Appends old new (spoken loud (play text empty_browser))
