-- Atoms at positions, and what is read off their bytes.
use mathlib.Core.Path.{◌≡◌, refl, sym, ap, ◌∙◌}
use mathlib.Core.Bool.{Bool, true, false, cond, ◌&&◌}
use mathlib.Core.List.{List, [], ◌∷◌, ◌++◌}
use Rattle.std.specs.Prelude.{Option, None as none, Some as some, option_and_then}
use Prim.Native.Nat.{ℕ, suc, ◌+◌, ◌-◌, ◌/◌, ◌%◌, ◌≤◌, ◌<◌}
use native.Mathlib.Nat.{sub-zero}
use native.Mathlib.Omega.{arith}
use lib.ListN.{length, take, drop, length-drop, length-append}
use lib.Dec.{ltb, leb, eqb}
use lib.Pointwise.{pointwise}
use borrow.Author.Tests.{leb-true, leb-false, lt-leb, eq-eqb, ne_eqb}
use Rattle.csexp.specs.Term.{digits, decimal}
use Rattle.csexp.specs.Read.{Got, no, got, then, number, mark, bytes, string}
use Rattle.csexp.specs.declared.At.{At}
use Rattle.csexp.specs.At.{ends, place, behind, mark_at, number_at, string_at}
use Rattle.csexp.specs.Decode.{and_then, atom_of, same, all_read, between}
use Rattle.csexp.specs.Answers.{found, decode, value_at, at_most}
use Rattle.csexp.proofs.Numbers.{number_sound}
use Rattle.csexp.proofs.Terms.{mark_sound}
use Rattle.csexp.proofs.Places.{left, at-atom}
use Rattle.csexp.proofs.Leaves.{mark_is}

decimal-long : (n : ℕ) → 0 < length (decimal n)
unfolding decimal digits
decimal-long n = go (ltb n 10)
  where
    go : (c : Bool) → 0 < length (cond c ((48 + n) ∷ []) (digits n (n / 10) ++ ((48 + n % 10) ∷ [])))
    go true = omega arith
    go false = omega (arith, length-append (digits n (n / 10)) ((48 + n % 10) ∷ []))

-- the n bytes from q on
abbrev pub bytes_at : List ℕ → ℕ → ℕ → Option (At (List ℕ))
bytes_at s n q = cond (leb n (length s - q)) (some (ends (take n (drop q s)) (q + n))) none

-- a length n, ':' and as many bytes
abbrev pub bytes_behind : List ℕ → At ℕ → Option (At (List ℕ))
bytes_behind s n = option_and_then (bytes_at s n.value) (mark_at 58 s n.next)

module _ (s : List ℕ) where
  bytes-at : (n q : ℕ) → q ≤ length s → place s (bytes n (drop q s)) ≡ bytes_at s n q
  unfolding bytes
  bytes-at n q h =
      ap (λ (k : ℕ). place s (cond (leb n k) (got (take n (drop q s)) (drop n (drop q s))) no)) (length-drop q s) ∙ go (leb n (length s - q)) refl
    where
      go : (c : Bool) → leb n (length s - q) ≡ c
          → place s (cond c (got (take n (drop q s)) (drop n (drop q s))) no) ≡ cond c (some (ends (take n (drop q s)) (q + n))) none
      go true e =
          let fit : n ≤ length s - q = leb-true n (length s - q) e in
          ap (λ (p : ℕ). some (ends (take n (drop q s)) p)) (let a = length-drop n (drop q s) in let b = length-drop q s in omega arith)
      go false e = refl

  string-at : (at : ℕ) → string_at s at ≡ option_and_then (bytes_behind s) (number_at s at)
  unfolding string_at string number_at mark_at
  string-at at = go (number (drop at s)) refl
    where
      marks : (n : ℕ) (r : List ℕ) (m : Got (Unit {0})) → mark 58 r ≡ m → length r ≤ length s → drop (length s - length r) s ≡ r
          → place s (then m (λ _ r₂. bytes n r₂)) ≡ option_and_then (bytes_at s n) (behind (place s m))
      marks n r no e l d = refl
      marks n r (got x r₂) e l d =
          let here : r ≡ 58 ∷ r₂ = mark_sound 58 r e in
          let less : length r ≡ suc (length r₂) = ap length here in
          let there : drop (length s - length r₂) s ≡ r₂ = left s (length s - length r) (58 ∷ []) r₂ (d ∙ here) (omega arith) in
          ap (λ (l : List ℕ). place s (bytes n l)) (sym there) ∙ bytes-at n (length s - length r₂) (omega arith)

      go : (m : Got ℕ) → number (drop at s) ≡ m
          → place s (then m (λ n r. then (mark 58 r) (λ _ r₂. bytes n r₂))) ≡ option_and_then (bytes_behind s) (place s m)
      go no e = refl
      go (got n r) e =
          let there : drop (length s - length r) s ≡ r = left s at (decimal n) r (number_sound (drop at s) e) (decimal-long n) in
          let less : length (drop at s) ≡ length (decimal n) + length r = ap length (number_sound (drop at s) e) ∙ length-append (decimal n) r in
          let less₂ : length (drop at s) ≡ length s - at = length-drop at s in
          marks n r (mark 58 r) refl (omega arith) there ∙ ap (λ (l : List ℕ). option_and_then (bytes_at s n) (behind (place s (mark 58 l)))) (sym there)

  -- a length that is larger than the text is no length
  pub string_next : (at : ℕ) → string_at s at ≡ option_and_then (bytes_behind s) (decode (at_most (length s)) (number_at s at))
  string_next at = string-at at ∙ go (number_at s at)
    where
      too_long : (n : ℕ) → length s < n → (m : Option ℕ) → option_and_then (bytes_at s n) m ≡ none
      too_long n h none = refl
      too_long n h (some q) = simp (lt-leb n (length s - q) (omega arith))

      by : (c : Bool) (n p : ℕ) → leb n (length s) ≡ c → bytes_behind s (ends n p) ≡ option_and_then (bytes_behind s) (found (cond c (some n) none) p)
      by true n p e = refl
      by false n p e = too_long n (leb-false n (length s) e) (mark_at 58 s p)

      go : (m : Option (At ℕ)) → option_and_then (bytes_behind s) m ≡ option_and_then (bytes_behind s) (decode (at_most (length s)) m)
      go none = refl
      go (some a) = by (leb a.value (length s)) a.value a.next refl

  pub atom_read : {A : Type 0} (at : ℕ) (f : List ℕ → Option A) → value_at (atom_of f) s at ≡ option_and_then (λ a. found (f a.value) a.next) (string_at s at)
  unfolding value_at
  atom_read at f = at-atom s at f

-- the bytes behind a length and ':', where `atom` reads them
pub ruleset strings = (string_next, mark_is)

-- what `==` of slices says
pub same_is : (w bs : List ℕ) → pointwise eqb w bs ≡ same w bs
unfolding same
same_is [] [] = refl
same_is [] (b ∷ bs) = refl
same_is (a ∷ w) [] = refl
same_is (a ∷ w) (b ∷ bs) = go (eqb a b) (same_is w bs)
  where
    go : (c : Bool) → pointwise eqb w bs ≡ same w bs → c && pointwise eqb w bs ≡ cond c (same w bs) false
    go true e = e
    go false e = refl

-- the number that is read off all the bytes, if it is from lo to hi
pub numeral_is : (lo hi : ℕ) (bs : List ℕ)
    → and_then (all_read (number bs)) (between lo hi)
    ≡ option_and_then (λ n. cond (eqb n.next (length bs)) (cond (leb lo n.value) (some n.value) none) none) (decode (at_most hi) (number_at bs 0))
unfolding number_at
numeral_is lo hi bs = go (number bs) refl
  where
    to_end : ℕ → ℕ → Option ℕ
    to_end n p = cond (eqb p (length bs)) (cond (leb lo n) (some n) none) none

    read_to : ℕ → Option ℕ → Option ℕ
    read_to p m = option_and_then (λ n. to_end n.value n.next) (found m p)

    ended : (n p : ℕ) → p ≡ length bs → (a b : Bool) → leb lo n ≡ a → cond a (cond b (some n) none) none ≡ read_to p (cond b (some n) none)
    ended n p e true true f = sym (simp (eq-eqb p (length bs) e, f))
    ended n p e false true f = sym (simp (eq-eqb p (length bs) e, f))
    ended n p e true false f = refl
    ended n p e false false f = refl

    more : (n p : ℕ) → p < length bs → (b : Bool) → none ≡ read_to p (cond b (some n) none)
    more n p h true = sym (simp (ne_eqb p (length bs) (λ e. omega arith)))
    more n p h false = refl

    go : (m : Got ℕ) → number bs ≡ m → and_then (all_read m) (between lo hi) ≡ option_and_then (λ n. to_end n.value n.next) (decode (at_most hi) (place bs m))
    go no e = refl
    go (got n []) e = ended n (length bs - 0) (sub-zero (length bs)) (leb lo n) (leb n hi) refl
    go (got n (b ∷ r)) e =
        let l = ap length (number_sound bs e) ∙ length-append (decimal n) (b ∷ r) in
        let k = decimal-long n in
        more n (length bs - length (b ∷ r)) (omega arith) (leb n hi)

pub ruleset words = (atom_read, same_is)

pub ruleset numerals = (atom_read, numeral_is)
