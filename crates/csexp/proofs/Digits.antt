-- Digits at positions: what a loop over them goes by.
use mathlib.Core.Path.{◌≡◌, refl, sym, ap, ◌∙◌}
use mathlib.Core.Bool.{Bool, true, false, cond}
use mathlib.Core.List.{List, [], ◌∷◌}
use Rattle.std.specs.Prelude.{Option, None as none, Some as some, option_and_then, IfSome}
use Rattle.std.proofs.lemmas.Option.{slice_get-get_or, slice_get_past}
use Prim.Native.Nat.{ℕ, suc, ◌+◌, ◌-◌, ◌*◌, ◌≤◌, ◌<◌}
use native.Mathlib.Numerals.{add-one}
use native.Mathlib.Omega.{arith}
use lib.ListN.{length, get_or, drop, drop_of_length-le, length-drop}
use lib.Seq.{drop-cons}
use lib.Dec.{ltb, leb, eqb}
use borrow.Author.Tests.{ltb-true, ltb-false, leb-true, leb-false, le-leb, lt-leb, eqb-true, eqb-false, ne_eqb}
use Rattle.csexp.specs.Read.{no, got, digit, run, number}
use Rattle.csexp.specs.declared.At.{At}
use Rattle.csexp.specs.At.{ends, place, number_at}
use Rattle.csexp.specs.Answers.{decode, at_most, digit_of, digit_at}
use Rattle.csexp.proofs.Basic.{is_digit}
use Rattle.csexp.proofs.Numbers.{run-digit}

-- no digit stands there, or d does
data Digit (s : List ℕ) (i : ℕ) : Type 0 where
  missing : digit_at s i ≡ none → ((v : ℕ) → run v (drop i s) ≡ got v (drop i s)) → number (drop i s) ≡ no → Digit s i
  present : (d : ℕ) → digit_at s i ≡ some d → d < 10 → i < length s → drop i s ≡ (48 + d) ∷ drop (i + 1) s → Digit s i

digit-is : (s : List ℕ) (i : ℕ) → Digit s i
unfolding digit_at run number
digit-is s i = go (ltb i (length s)) refl
  where
    b : ℕ
    b = get_or s i 0

    next : i < length s → drop i s ≡ b ∷ drop (suc i) s
    next h = drop-cons s i 0 h

    here : i < length s → digit_at s i ≡ digit_of b
    here h = ap (option_and_then digit_of) (slice_get-get_or s i 0 h)

    no_digit : i < length s → digit b ≡ false → eqb b 48 ≡ false → Digit s i
    no_digit h d z = missing (here h ∙ simp d) (λ w. rw (next h) (simp d)) (rw (next h) (simp (d, z)))

    go₂ : i < length s → 48 ≤ b → (c : Bool) → leb b 57 ≡ c → Digit s i
    go₂ h lo true e =
        let hi : b ≤ 57 = leb-true b 57 e in
        let back : b ≡ 48 + (b - 48) = omega arith in
        present (b - 48) (here h ∙ simp (is_digit b lo hi)) (omega arith) h
        (next h ∙ ap (λ (x : ℕ). x ∷ drop (suc i) s) back ∙ ap (λ (k : ℕ). (48 + (b - 48)) ∷ drop k s) (sym (add-one i)))
    go₂ h lo false e =
        let hi : 57 < b = leb-false b 57 e in
        no_digit h (simp (le-leb 48 b lo, lt-leb b 57 hi)) (ne_eqb b 48 (λ q. omega arith))

    go₁ : i < length s → (c : Bool) → leb 48 b ≡ c → Digit s i
    go₁ h true e = go₂ h (leb-true 48 b e) (leb b 57) refl
    go₁ h false e =
        let lo : b < 48 = leb-false 48 b e in
        no_digit h (simp (lt-leb 48 b lo)) (ne_eqb b 48 (λ q. omega arith))

    go : (c : Bool) → ltb i (length s) ≡ c → Digit s i
    go true e = go₁ (ltb-true i (length s) e) (leb 48 b) refl
    go false e =
        let h : length s ≤ i = ltb-false i (length s) e in
        let nil : drop i s ≡ [] = drop_of_length-le s h in
        missing (ap (option_and_then digit_of) (slice_get_past s i h)) (λ v. rw nil refl) (rw nil refl)

-- v, with the digits from i on behind it
unfoldable pub run_at : ℕ → List ℕ → ℕ → Option (At ℕ)
run_at v s i = place s (run v (drop i s))

-- the digit d, or none, was found at i behind v
abbrev pub run_on : ℕ → List ℕ → ℕ → Option ℕ → Option (At ℕ)
run_on v s i none = some (ends v i)
run_on v s i (some d) = run_at (v * 10 + d) s (i + 1)

pub run_next : (v : ℕ) (s : List ℕ) (i : ℕ) → i ≤ length s → run_at v s i ≡ run_on v s i (digit_at s i)
unfolding run_at
run_next v s i le = go (digit-is s i)
  where
    go : Digit s i → place s (run v (drop i s)) ≡ run_on v s i (digit_at s i)
    go (missing e r n) =
        ap (place s) (r v) ∙ ap (λ (p : ℕ). some (ends v p)) (let l : length (drop i s) ≡ length s - i = length-drop i s in omega arith)
        ∙ ap (run_on v s i) (sym e)
    go (present d e w h r) =
        ap (λ (l : List ℕ). place s (run v l)) r ∙ ap (place s) (run-digit v d (drop (i + 1) s) w) ∙ ap (run_on v s i) (sym e)

-- a number begins with the digit d: it is 0, or has more digits
abbrev pub number_on : List ℕ → ℕ → ℕ → Option (At ℕ)
number_on s i d = cond (eqb d 0) (some (ends 0 (i + 1))) (run_at d s (i + 1))

pub number_next : (s : List ℕ) (i : ℕ) → number_at s i ≡ option_and_then (number_on s i) (digit_at s i)
unfolding number_at run_at number
number_next s i = go (digit-is s i)
  where
    here : (d : ℕ) (c : Bool) → eqb d 0 ≡ c → d < 10 → i < length s → place s (number ((48 + d) ∷ drop (i + 1) s)) ≡ cond c (some (ends 0 (i + 1))) (run_at d s (i + 1))
    here d true e w h =
        let z : d ≡ 0 = eqb-true d 0 e in
        ap (λ (d : ℕ). place s (number ((48 + d) ∷ drop (i + 1) s))) z
        ∙ ap (λ (p : ℕ). some (ends 0 p)) (let l : length (drop (i + 1) s) ≡ length s - (i + 1) = length-drop (i + 1) s in omega arith)
    here d false e w h =
        simp (ne_eqb (48 + d) 48 (λ q. eqb-false d 0 e (omega arith)), is_digit (48 + d) (omega arith) (omega arith))
        (ap (λ (k : ℕ). place s (run k (drop (i + 1) s))) (omega arith))

    go : Digit s i → place s (number (drop i s)) ≡ option_and_then (number_on s i) (digit_at s i)
    go (missing e r n) = ap (place s) n ∙ ap (option_and_then (number_on s i)) (sym e)
    go (present d e w h r) = ap (λ (l : List ℕ). place s (number l)) r ∙ here d (eqb d 0) refl w h ∙ ap (option_and_then (number_on s i)) (sym e)

pub digit-there : (s : List ℕ) (i : ℕ) → (digit_at s i ≡ digit_at s i) × IfSome (digit_at s i) (λ d. (i < length s) × (d < 10))
digit-there s i = (refl, go (digit-is s i))
  where
    there : (m : Option ℕ) → digit_at s i ≡ m → IfSome m (λ d. (i < length s) × (d < 10)) → IfSome (digit_at s i) (λ d. (i < length s) × (d < 10))
    there m e p = rw e p

    go : Digit s i → IfSome (digit_at s i) (λ d. (i < length s) × (d < 10))
    go (missing e r n) = there none e tt
    go (present d e w h r) = there (some d) e (h, w)

-- a number that is too large already stays so
pub run-over : (cap v : ℕ) (s : List ℕ) (i : ℕ) → cap < v → decode (at_most cap) (run_at v s i) ≡ none
unfolding run_at run
run-over cap v s i h = go v (drop i s) h
  where
    go : (v : ℕ) (x : List ℕ) → cap < v → decode (at_most cap) (place s (run v x)) ≡ none
    go v [] h = simp (lt-leb v cap h)
    go v (b ∷ x) h = by (digit b) (go (v * 10 + (b - 48)) x (omega arith))
      where
        by : (c : Bool) → decode (at_most cap) (place s (run (v * 10 + (b - 48)) x)) ≡ none
            → decode (at_most cap) (place s (cond c (run (v * 10 + (b - 48)) x) (got v (b ∷ x)))) ≡ none
        by true ih = ih
        by false ih = simp (lt-leb v cap h)

pub ruleset digits = (number_next, run_next, digit-there, run-over)
