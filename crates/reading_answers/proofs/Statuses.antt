-- A number atom that is a status, by what `status_kind` says of the number.
use mathlib.Core.Path.{◌≡◌, refl, sym, ap, ◌∙◌}
use mathlib.Core.Bool.{Bool, true, false, cond}
use mathlib.Core.List.{List}
use Rattle.std.specs.Prelude.{Option, None as none, Some as some, option_map, option_and_then}
use Prim.Native.Nat.{ℕ}
use lib.Dec.{leb}
use borrow.Author.Tests.{leb-true, le-leb}
use native.Mathlib.Omega.{arith}
use Rattle.csexp.specs.Term.{Term, atom, list}
use Rattle.csexp.specs.Read.{number}
use Rattle.csexp.specs.declared.At.{At}
use Rattle.csexp.specs.At.{ends, term_at}
use Rattle.csexp.specs.Decode.{numeral, atom_of, and_then, all_read, between}
use Rattle.csexp.specs.Answers.{found, decode, value_at}
use Rattle.shapes.specs.Words.{redirects}
use Rattle.words.specs.declared.statuses.StatusKind.TheVariants.{Redirects, Other}
use Rattle.words.specs.Status.{status_kind}

abbrev a_status : At ℕ → Option (At ℕ)
a_status n = option_map (λ k. n) (status_kind n.value)

pub status_read : (s : List ℕ) (at : ℕ) → value_at (numeral 100 505) s at ≡ option_and_then a_status (value_at (numeral 0 65535) s at)
unfolding value_at numeral atom_of
status_read s at = go (term_at s at)
  where
    out : (n p : ℕ) (y z : Bool) → status_kind n ≡ none → none ≡ option_and_then a_status (found (cond y (cond z (some n) none) none) p)
    out n p true true e = ap (option_map (λ k. ends n p)) (sym e)
    out n p true false e = refl
    out n p false z e = refl

    one_number : (n p : ℕ) (x y : Bool) → leb 100 n ≡ x → leb n 505 ≡ y → found (between 100 505 n) p ≡ option_and_then a_status (found (between 0 65535 n) p)
    one_number n p true true e f =
        let g : leb n 65535 ≡ true = le-leb n 65535 (let h = leb-true n 505 f in omega arith) in
        let z : leb 0 n ≡ true = le-leb 0 n (omega arith) in
        let a : between 100 505 n ≡ some n = simp (e, f) refl in
        let b : between 0 65535 n ≡ some n = simp (z, g) refl in
        let k : status_kind n ≡ some (cond (redirects n) Redirects Other) = simp (e, f) refl in
        ap (λ (x : Option ℕ). found x p) a ∙ sym (ap (λ (x : Option ℕ). option_and_then a_status (found x p)) b ∙ ap (option_map (λ k. ends n p)) k)
    one_number n p true false e f =
        let a : between 100 505 n ≡ none = simp (e, f) refl in
        let k : status_kind n ≡ none = simp (e, f) refl in
        ap (λ (x : Option ℕ). found x p) a ∙ out n p (leb 0 n) (leb n 65535) k
    one_number n p false y e f =
        let a : between 100 505 n ≡ none = simp e refl in
        let k : status_kind n ≡ none = simp e refl in
        ap (λ (x : Option ℕ). found x p) a ∙ out n p (leb 0 n) (leb n 65535) k

    read : (o : Option ℕ) (p : ℕ) → found (and_then o (between 100 505)) p ≡ option_and_then a_status (found (and_then o (between 0 65535)) p)
    read none p = refl
    read (some n) p = one_number n p (leb 100 n) (leb n 505) refl refl

    go : (m : Option (At Term)) → decode (numeral 100 505) m ≡ option_and_then a_status (decode (numeral 0 65535) m)
    go none = refl
    go (some t) = at_term t.value t.next
      where
        at_term : (t : Term) (p : ℕ) → found (numeral 100 505 t) p ≡ option_and_then a_status (found (numeral 0 65535 t) p)
        at_term (atom bs) p = read (all_read (number bs)) p
        at_term (list ts) p = refl

pub ruleset statuses = (status_read)
