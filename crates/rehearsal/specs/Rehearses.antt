-- What the step on text gives: what the definitions say of verdict, browser, count and every byte of the buffer, and at a refusal the very memory that it
-- was lent, number for number.
use Rattle.std.specs.Prelude.{◌≡◌, List, ℕ, ◌≤◌, length, Result as Given, Ok, Err}
use Rattle.types.specs.declared.refusals.Refusal.{Refusal}
use Rattle.shapes.specs.Events.{event_text}
use Rattle.shapes.specs.Texts.{item_in}
use Rattle.wim.specs.Run.{performed}
use Rattle.wim.specs.Step.{Verdict, Accepted, Refused, Result, declined, accepted}
use Rattle.wim.specs.Wire.{Returned, returning, rehearse}
use Rattle.browser.specs.View.{browser}

-- how many bytes of the buffer were written, or why the step is refused
abbrev pub Rehearsed : Type 0
Rehearsed = Given ℕ Refusal

-- its verdict, and its count: 0 at a refusal
abbrev pub verdict_of : Rehearsed → Verdict
verdict_of (Ok count) = Accepted
verdict_of (Err why) = Refused why

abbrev pub count_of : Rehearsed → ℕ
count_of (Ok count) = count
count_of (Err why) = 0

-- what a result says, with the memory and the buffer as they are left
abbrev pub saying : Rehearsed → List ℕ → List ℕ → Returned
saying r n out = record { verdict = verdict_of r; browser = browser n; count = count_of r; buffer = out }

-- "An outgoing event has at most 4,096 bytes"
abbrev pub Short : Result → Type 0
Short (declined why) = Unit {0}
Short (accepted c x) = length (event_text x) ≤ 4096

-- The step was asked of the memory m with the buffer out and a place in it: r is given, and the memory n and the buffer out₂ are left.
pub record Rehearses (text m out : List ℕ) (place : ℕ) (r : Rehearsed) (n out₂ : List ℕ) : Type 0 where
  pub tells : saying r n out₂ ≡ rehearse text (browser m) out place
  pub same : (why : Refusal) → r ≡ Err why → n ≡ m
  pub short : Short (performed (item_in text) (browser m))

-- the same of what an item does
pub record Returns (o : Result) (m out : List ℕ) (place : ℕ) (r : Rehearsed) (n out₂ : List ℕ) : Type 0 where
  pub tells : saying r n out₂ ≡ returning o (browser m) out place
  pub same : (why : Refusal) → r ≡ Err why → n ≡ m
  pub short : Short o
