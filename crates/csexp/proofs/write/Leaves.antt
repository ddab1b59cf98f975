-- What the writers of digits go by.
use mathlib.Core.Path.{◌≡◌, refl, ap, ◌∙◌}
use mathlib.Core.Bool.{Bool, true, false, cond}
use mathlib.Core.List.{List, [], ◌∷◌, ◌++◌}
use Prim.Native.Nat.{ℕ, ◌+◌, ◌*◌, ◌/◌, ◌%◌}
use native.Mathlib.Omega.{arith}
use lib.ListN.{length, length-append}
use lib.Dec.{ltb}
use borrow.Author.Tests.{ltb-true, ltb-false}
use Rattle.csexp.specs.Term.{decimal}
use Rattle.csexp.specs.Puts.{put}
use Rattle.csexp.proofs.Numbers.{decimal-small, decimal-more}
use Rattle.csexp.proofs.write.Over.{put_append}

-- the digits of a number of one digit, and of a longer one
decimal_is : (n : ℕ) → decimal n ≡ cond (ltb n 10) ((48 + n) ∷ []) (decimal (n / 10) ++ ((48 + n % 10) ∷ []))
decimal_is n = go (ltb n 10) refl
  where
    go : (c : Bool) → ltb n 10 ≡ c → decimal n ≡ cond c ((48 + n) ∷ []) (decimal (n / 10) ++ ((48 + n % 10) ∷ []))
    go true e = decimal-small n (ltb-true n 10 e)
    go false e =
        let h = ltb-false n 10 e in
        let back : n ≡ n / 10 * 10 + n % 10 = omega arith in
        ap decimal back ∙ decimal-more (n / 10) (n % 10) (omega arith) (omega arith)

pub put_decimal : (n : ℕ) (x : List ℕ × ℕ) → put (decimal n) x ≡ cond (ltb n 10) (put ((48 + n) ∷ []) x) (put ((48 + n % 10) ∷ []) (put (decimal (n / 10)) x))
put_decimal n x = ap (λ (l : List ℕ). put l x) (decimal_is n) ∙ go (ltb n 10)
  where
    go : (c : Bool)
        → put (cond c ((48 + n) ∷ []) (decimal (n / 10) ++ ((48 + n % 10) ∷ []))) x ≡ cond c (put ((48 + n) ∷ []) x) (put ((48 + n % 10) ∷ []) (put (decimal (n / 10)) x))
    go true = refl
    go false = put_append (decimal (n / 10)) ((48 + n % 10) ∷ []) x

pub decimal_length : (n : ℕ) → length (decimal n) ≡ cond (ltb n 10) 1 (length (decimal (n / 10)) + 1)
decimal_length n = ap length (decimal_is n) ∙ go (ltb n 10)
  where
    go : (c : Bool) → length (cond c ((48 + n) ∷ []) (decimal (n / 10) ++ ((48 + n % 10) ∷ []))) ≡ cond c 1 (length (decimal (n / 10)) + 1)
    go true = refl
    go false = length-append (decimal (n / 10)) ((48 + n % 10) ∷ [])
