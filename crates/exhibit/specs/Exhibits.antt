-- What showing gives: a verdict, a count of bytes and the buffer, as the step on text does (wim's Wire), with the refusals of a step of that script.
use Rattle.std.specs.Prelude.{◌≡◌, cond, List, ℕ, ◌+◌, leb, length, Result, Ok, Err}
use Rattle.csexp.specs.Term.{write}
use Rattle.browser.specs.View.{browser}
use Rattle.wim.specs.Nouns.{WindowNumber, Refusal, NoRoom}
use Rattle.wim.specs.Step.{Verdict, Accepted, Refused}
use Rattle.wim.specs.Step.{Browser}
use Rattle.wim.specs.Wire.{put_into}
use Rattle.wim.specs.Shown.{Shown, hidden, shown, what_is_shown}

pub record Exhibit : Type 0 where
  pub verdict : Verdict
  pub count : ℕ
  pub buffer : List ℕ

-- 01 "Refusal numbers": "A refusal returns its number, browser and buffer unchanged."
abbrev pub withheld : Refusal → List ℕ → Exhibit
withheld why out = record { verdict = Refused why; count = 0; buffer = out }

-- 7: it "doesn't fit between the given place in the buffer and its end, or the place lies past the end"; a term has at least one byte
abbrev pub exhibited : Shown → List ℕ → ℕ → Exhibit
exhibited (hidden why) out place = withheld why out
exhibited (shown t) out place =
    let bs = write t in
    cond (leb (place + length bs) (length out))
    (record { verdict = Accepted; count = length bs; buffer = put_into out place bs })
    (withheld NoRoom out)

-- 8, then 3, by what is shown; then 7
unfoldable pub exhibit : Browser → WindowNumber → List ℕ → ℕ → Exhibit
exhibit b w out place = exhibited (what_is_shown b w) out place

-- how many bytes of the buffer were written, or why nothing is shown
abbrev pub Showing : Type 0
Showing = Result ℕ Refusal

-- what a result says, with the buffer as it is left
abbrev pub saying : Showing → List ℕ → Exhibit
saying (Ok count) out = record { verdict = Accepted; count = count; buffer = out }
saying (Err why) out = record { verdict = Refused why; count = 0; buffer = out }

-- What the script of the window w is shown was asked of the memory m, with the buffer out and a place in it: r is given, and out₂ is left.
pub record Shows (m : List ℕ) (w : WindowNumber) (out : List ℕ) (place : ℕ) (r : Showing) (out₂ : List ℕ) : Type 0 where
  pub tells : saying r out₂ ≡ exhibit (browser m) w out place
