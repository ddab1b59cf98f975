-- What the reader of a single byte goes by.
use mathlib.Core.Path.{◌≡◌, refl, ap, ◌∙◌}
use mathlib.Core.Bool.{Bool, true, false, cond}
use mathlib.Core.List.{List}
use Rattle.std.specs.Prelude.{None as none, Some as some}
use Prim.Native.Nat.{ℕ, suc, ◌+◌, ◌-◌, ◌≤◌, ◌<◌}
use native.Mathlib.Omega.{arith}
use lib.ListN.{length, get_or, drop, drop_of_length-le, length-drop}
use lib.Seq.{drop-cons}
use lib.Dec.{ltb, eqb}
use borrow.Author.Tests.{ltb-true, ltb-false}
use Rattle.csexp.specs.Read.{no, got, mark}
use Rattle.csexp.specs.At.{place, behind, mark_at}

pub mark_is : (b : ℕ) (s : List ℕ) (at : ℕ) → mark_at b s at ≡ cond (ltb at (length s)) (cond (eqb (get_or s at 0) b) (some (at + 1)) none) none
unfolding mark_at mark
mark_is b s at = go (ltb at (length s)) refl
  where
    here : (c : Bool) → at < length s → behind (place s (cond c (got (tt {0}) (drop (suc at) s)) no)) ≡ cond c (some (at + 1)) none
    here true h = ap some (let l : length (drop (suc at) s) ≡ length s - suc at = length-drop (suc at) s in omega arith)
    here false h = refl

    go : (c : Bool) → ltb at (length s) ≡ c → behind (place s (mark b (drop at s))) ≡ cond c (cond (eqb (get_or s at 0) b) (some (at + 1)) none) none
    go true e =
        let h : at < length s = ltb-true at (length s) e in
        ap (λ (l : List ℕ). behind (place s (mark b l))) (drop-cons s at 0 h) ∙ here (eqb (get_or s at 0) b) h
    go false e =
        let h : length s ≤ at = ltb-false at (length s) e in
        ap (λ (l : List ℕ). behind (place s (mark b l))) (drop_of_length-le s h)
