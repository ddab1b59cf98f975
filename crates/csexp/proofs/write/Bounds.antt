-- How long a text is at most: a law for each part of an encoder. The bounds of the parts add up to the whole's by computing.
--     short-list · short-nil · short-cons · short-joins · short-each · short-word · short-number · short_optional · short-labelled
--     short-less · shorts_less
use mathlib.Core.Path.{◌≡◌, refl, ap}
use mathlib.Core.Bool.{Bool, true, false, cond}
use mathlib.Core.List.{List, [], ◌∷◌}
use Prim.Native.Nat.{ℕ, zero, suc, ◌+◌, ◌*◌, ◌/◌, ◌≤◌, ◌<◌}
use native.Mathlib.Nat.{suc-mul}
use native.Mathlib.Omega.{arith}
use lib.ListN.{length, length-append}
use lib.Dec.{T, leb, ltb, eqb, lit≤}
use borrow.Author.Tests.{ltb-false}
use Rattle.sorted.specs.Table.{All}
use Rattle.csexp.specs.Term.{Term, atom, list, Terms, nil, cons, decimal, write, writes}
use Rattle.csexp.proofs.Numbers.{decimal-small}
use Rattle.csexp.specs.Encode.{number_term, optional_term, each, labelled, joins}
use Rattle.csexp.proofs.write.Leaves.{decimal_length}

-- the text of t, and that of the terms ts, has at most k bytes
pub record Short (t : Term) (k : ℕ) : Type 0 where
  pub is : length (write t) ≤ k

pub record Shorts (ts : Terms) (k : ℕ) : Type 0 where
  pub is : length (writes ts) ≤ k

pub short-list : {ts : Terms} {k : ℕ} → Shorts ts k → Short (list ts) (k + 2)
unfolding write
short-list {ts} {k} h = record { is = let a = h.is in let l = length-append (writes ts) (41 ∷ []) in omega arith }

pub short-nil : Shorts nil 0
unfolding write
short-nil = record { is = omega arith }

pub short-cons : {t : Term} {ts : Terms} {j k : ℕ} → Short t j → Shorts ts k → Shorts (cons t ts) (j + k)
unfolding write
short-cons {t} {ts} h g = record { is = let a = h.is in let b = g.is in let l = length-append (write t) (writes ts) in omega arith }

pub short-joins : (ts us : Terms) {j k : ℕ} → Shorts ts j → Shorts us k → Shorts (joins ts us) (j + k)
unfolding write joins
short-joins nil us h g = record { is = let a = h.is in let b = g.is in omega arith }
short-joins (cons t ts) us {j} {k} h g = record {
  is =
      let a = h.is in
      let l = length-append (write t) (writes ts) in
      let m = length-append (write t) (writes (joins ts us)) in
      let r = (short-joins ts us {j = length (writes ts)} (record { is = omega arith }) g).is in
      omega arith;
}

-- a bound that is larger
pub short-less : {t : Term} {j : ℕ} (k : ℕ) → Short t j → T (leb j k) → Short t k
short-less {t} {j} k h l = record { is = let a = h.is in let b : j ≤ k = lit≤ l in omega arith }

pub shorts_less : {ts : Terms} {j : ℕ} (k : ℕ) → Shorts ts j → j ≤ k → Shorts ts k
shorts_less {ts} {j} k h l = record { is = let a = h.is in omega arith }

-- a word that is written out: antt computes its length
pub short-word : (w : List ℕ) → Short (atom w) (length (write (atom w)))
short-word w = record { is = omega arith }

-- numbers below ten, a hundred, ..
abbrev pub ten : ℕ → ℕ
ten zero = 1
ten (suc k) = 10 * ten k

decimal-short : (k n : ℕ) → n < ten (suc k) → length (decimal n) ≤ suc k
decimal-short zero n h = let e = ap length (decimal-small n (omega arith)) in omega arith
decimal-short (suc k) n h = go (ltb n 10) refl (decimal_length n) (λ l. decimal-short k (n / 10) l)
  where
    go : (c : Bool) → ltb n 10 ≡ c → length (decimal n) ≡ cond c 1 (length (decimal (n / 10)) + 1)
        → (n / 10 < ten (suc k) → length (decimal (n / 10)) ≤ suc k) → length (decimal n) ≤ suc (suc k)
    go true e d less = omega arith
    go false e d less = let l : 10 ≤ n = ltb-false n 10 e in let r = less (omega arith) in omega arith

pub short-number : {n : ℕ} → n ≤ 4294967295 → Short (number_term n) 13
unfolding number_term write
short-number {n} h = record {
  is =
      let d : length (decimal n) ≤ 10 = decimal-short 9 n (omega arith) in
      let w = decimal-short 1 (length (decimal n)) (omega arith) in
      let l = length-append (decimal (length (decimal n))) (58 ∷ decimal n) in
      omega arith;
}

pub short_optional : {n : ℕ} → n ≤ 4294967295 → Short (optional_term n) 13
unfolding optional_term
short_optional {n} h = go (eqb n 0)
  where
    go : (c : Bool) → Short (cond c (list nil) (number_term n)) 13
    go true = short-less 13 (short-list short-nil) tt
    go false = short-number h

pub short-labelled : {j n : ℕ} {w : List ℕ} → Short (atom w) j → n ≤ 4294967295 → Short (labelled w n) (j + 15)
unfolding labelled
short-labelled {j} h l = record { is = let a = (short-list (short-cons h (short-cons (short-number l) short-nil))).is in omega arith }

pub short-each : {A : Type 0} {P : A → Type 0} (f : A → Term) (k : ℕ) → ((a : A) → P a → Short (f a) k)
    → (xs : List A) → All P xs → Shorts (each f xs) (length xs * k)
unfolding each
short-each f k g [] ps = record { is = let a = short-nil.is in omega arith }
short-each f k g (a ∷ xs) ps =
    shorts_less (suc (length xs) * k) (short-cons (g a ps.0) (short-each f k g xs ps.1)) (step (length xs) k)
  where
    step : (n k : ℕ) → k + n * k ≤ suc n * k
    step n k = omega (arith, suc-mul n k)
