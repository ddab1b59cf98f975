-- The first term of a text, and of the text with more behind it.
--     first-term      a term that is whole stands at the front of the text, and has at least one byte
--     whole_grows     it is whole whatever follows
--     broken_stays    where there is none, and the text is as long as a term may be, there is none whatever follows
use mathlib.Core.Path.{◌≡◌, refl, sym, ap, ◌∙◌}
use mathlib.Core.List.{List, ◌++◌, append_assoc}
use Prim.Native.Nat.{ℕ, ◌+◌, ◌-◌, ◌≤◌, ◌<◌}
use native.Mathlib.Omega.{arith}
use lib.ListN.{length, take, drop, length-append, length-drop, take-append-drop}
use lib.Seq.{take-append-le, take_at}
use Rattle.csexp.specs.Limits.{Ending}
use Rattle.std.specs.Prelude.{Some as Whole, None as Broken}
use Rattle.csexp.specs.Term.{Term, levels, write}
use Rattle.csexp.specs.Limits.{ending_of}
use Rattle.csexp.proofs.Meaning.{ending-is-written, written-is-ending}
use Rattle.csexp.proofs.Terms.{write-long}
use Rattle.sorted.proofs.Never.{never}

-- the first p bytes of s are a term within the limits
pub record First (bytes n : ℕ) (s : List ℕ) (p : ℕ) : Type 0 where
  pub term : Term
  pub stands : s ≡ write term ++ drop p s
  pub long : p ≡ length (write term)
  pub fits : p ≤ bytes
  pub flat : levels term ≤ n
  pub within : p ≤ length s
  pub positive : 0 < p

same_end : {p q : ℕ} → Whole p ≡ Whole q → p ≡ q
same_end e = cc

no_end : {A : Type 0} {p : ℕ} → Whole p ≡ Broken → A
no_end e = never (cc)

module _ (bytes n : ℕ) where
  pub first-term : (s : List ℕ) (p : ℕ) → ending_of bytes n s 0 ≡ Whole p → First bytes n s p
  first-term s p e =
      let (t, stands, small, flat) = ending-is-written bytes n s 0 p e in
      let whole : length s ≡ length (write t) + length (drop p s) = ap length stands ∙ length-append (write t) (drop p s) in
      let left : length (drop p s) ≡ length s - p = length-drop p s in
      let end : p ≡ length s - length (drop p s) = same_end (sym e ∙ written-is-ending bytes n s 0 t (drop p s) stands (omega arith) flat) in
      let some_bytes = write-long t in
      record { term = t; stands = stands; long = omega arith; fits = omega arith; flat = flat; within = omega arith; positive = omega arith }

  pub whole_grows : (s more : List ℕ) (p : ℕ) → ending_of bytes n s 0 ≡ Whole p → ending_of bytes n (s ++ more) 0 ≡ Whole p
  whole_grows s more p e =
      let f = first-term s p e in
      let stands : s ++ more ≡ write f.term ++ (drop p s ++ more) = ap (λ (x : List ℕ). x ++ more) f.stands ∙ append_assoc (write f.term) (drop p s) more in
      let long = f.long in
      let fits = f.fits in
      let all = length-append s more in
      let left = length-append (drop p s) more in
      let rest = length-drop p s in
      let within = f.within in
      written-is-ending bytes n (s ++ more) 0 f.term (drop p s ++ more) stands (omega arith) f.flat ∙ ap Whole (let same : length (s ++ more) - length (drop p s ++ more) ≡ p = omega arith in same)

  pub broken_stays : (s more : List ℕ) → bytes ≤ length s → ending_of bytes n s 0 ≡ Broken → ending_of bytes n (s ++ more) 0 ≡ Broken
  broken_stays s more h e = go (ending_of bytes n (s ++ more) 0) refl
    where
      go : (x : Ending) → ending_of bytes n (s ++ more) 0 ≡ x → x ≡ Broken
      go Broken q = refl
      go (Whole p) q =
          let f = first-term (s ++ more) p q in
          let long = f.long in
          let fits = f.fits in
          let front : take p s ≡ write f.term = sym (take-append-le p s more (omega arith)) ∙ ap (take p) f.stands ∙ take_at (write f.term) (drop p (s ++ more)) p (sym long) in
          let stands : s ≡ write f.term ++ drop p s = sym (take-append-drop p s) ∙ ap (λ (x : List ℕ). x ++ drop p s) front in
          no_end (sym (written-is-ending bytes n s 0 f.term (drop p s) stands (omega arith) f.flat) ∙ e)
