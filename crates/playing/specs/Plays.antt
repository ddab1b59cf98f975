-- What playing a portion gives.
use Rattle.std.specs.Prelude.{◌≡◌, Bool, true, List, [], ◌++◌, ℕ, length, take, drop}
use Rattle.wim.specs.Step.{Browser}
use Rattle.wim.specs.Run.{play}
use Rattle.browser.specs.View.{browser}
use Rattle.playing.specs.declared.looking.Halt.{Halt}
use Rattle.playing.specs.declared.looking.Halt.TheVariants.{Over, Stopped, Hungry, Crowded}
use Rattle.playing.specs.declared.portions.Played.{Played}
use Rattle.playing.specs.Portions.{Portion, portion_of}

-- what a result says, with the memory and the buffer as they are left
abbrev pub saying : Played → List ℕ → List ℕ → Portion
saying r k out = record { read = r.read; lines = take r.written out; browser = browser k; halt = r.halt }

-- how the run goes on behind a portion, with what is left of it and what follows: not at all, or as the definitions say
abbrev pub going_on : Halt → List ℕ → Browser → List ℕ
going_on Over s b = []
going_on Stopped s b = []
going_on Hungry s b = play s b
going_on Crowded s b = play s b

-- The text was played over the memory m: r is given, the memory k is left, and out₂ of the buffer out.
pub record Plays (text : List ℕ) (last : Bool) (m out : List ℕ) (r : Played) (k out₂ : List ℕ) : Type 0 where
  -- what was played, and why no more
  pub tells : saying r k out₂ ≡ portion_of text last (length out) (browser m)
  -- the lines stand at the front of the buffer, and every byte behind them is as it was
  pub counted : r.written ≡ length (take r.written out₂)
  pub behind : drop r.written out₂ ≡ drop r.written out
  -- the lines are those of the definitions' run, whatever follows the text
  pub run : (more : List ℕ) → (last ≡ true → more ≡ []) → play (text ++ more) (browser m) ≡ take r.written out₂ ++ going_on r.halt (drop r.read text ++ more) (browser k)
