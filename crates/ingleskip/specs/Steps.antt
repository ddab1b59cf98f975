-- What the step under its name for C gives: what the step on text promises, with the verdict as its number.
use Rattle.std.specs.Prelude.{◌≡◌, List, ℕ}
use Rattle.wim.specs.Step.{verdict_number}
use Rattle.rehearsal.specs.Rehearses.{Rehearsed, verdict_of, count_of, Rehearses}

pub record Steps (text m out : List ℕ) (place number count : ℕ) (n out₂ : List ℕ) : Type 0 where
  pub told : Rehearsed
  pub rehearses : Rehearses text m out place told n out₂
  pub numbered : number ≡ verdict_number (verdict_of told)
  pub counted : count ≡ count_of told
