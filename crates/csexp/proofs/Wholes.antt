-- Texts within limits: what `whole` goes by.
use mathlib.Core.Path.{◌≡◌, refl, sym, ap, ◌∙◌}
use mathlib.Core.Bool.{Bool, true, false, cond}
use mathlib.Core.List.{List, [], ◌∷◌}
use Rattle.std.specs.Prelude.{Option, None as none, Some as some}
use Prim.Native.Nat.{ℕ, ◌-◌, ◌<◌}
use native.Mathlib.Nat.{sub-zero}
use native.Mathlib.Omega.{arith}
use lib.ListN.{length, length-append}
use lib.Dec.{leb, eqb}
use borrow.Author.Tests.{eq-eqb, ne_eqb}
use Rattle.csexp.specs.Term.{Term, levels, write}
use Rattle.csexp.specs.Read.{Got, no, got, read}
use Rattle.csexp.specs.At.{place, behind, term_at}
use Rattle.csexp.specs.Answers.{found, decode, value_at}
use Rattle.csexp.specs.Limits.{shallow, all_of, whole_of}
use Rattle.csexp.proofs.Terms.{read_sound}

-- the term that was found, if there is one, ends where the text does
abbrev pub to_end : List ℕ → Option ℕ → Bool
to_end s none = false
to_end s (some p) = eqb p (length s)

pub whole_is : (bytes n : ℕ) (s : List ℕ) → whole_of bytes n s ≡ cond (leb (length s) bytes) (to_end s (behind (value_at (shallow n) s 0))) false
unfolding value_at term_at shallow whole_of
whole_is bytes n s = ap (λ (c : Bool). cond (leb (length s) bytes) c false) (go (read s) refl)
  where
    ended : (p : ℕ) (c : Bool) → p ≡ length s → c ≡ to_end s (behind (found (cond c (some (tt {0})) none) p))
    ended p true e = sym (eq-eqb p (length s) e)
    ended p false e = refl

    more : (p : ℕ) (c : Bool) → p < length s → false ≡ to_end s (behind (found (cond c (some (tt {0})) none) p))
    more p true h = sym (ne_eqb p (length s) (λ e. omega arith))
    more p false h = refl

    go : (m : Got Term) → read s ≡ m → all_of n m ≡ to_end s (behind (decode (shallow n) (place s m)))
    go no e = refl
    go (got t []) e = ended (length s - 0) (leb (levels t) n) (sub-zero (length s))
    go (got t (b ∷ r)) e =
        let l = ap length (read_sound s e) ∙ length-append (write t) (b ∷ r) in
        more (length s - length (b ∷ r)) (leb (levels t) n) (omega arith)
