-- What reading, the contracts and the limits say in terms of writing alone.
--     read_complete · read_sound                a text is read exactly where it begins with a term as it is written
--     read-written · write_injective            what was written is read; no two terms are written alike
--     written-is-found · found-is-written       the same of a decoder at a position: what `Reads` says
--     reads_agree                               any two answers that `Reads` allows are the same
--     written-is-whole · whole-is-written       the same of a whole text within limits: what `whole` says
--     written-is-ending · ending-is-written     the same of a first term within limits: what `ends_at` says
use mathlib.Core.Path.{◌≡◌, refl, sym, ap, ◌∙◌}
use mathlib.Core.Bool.{Bool, true, false, cond}
use mathlib.Core.List.{List, [], ◌∷◌, ◌++◌, append-nil}
use Rattle.std.specs.Prelude.{Option, None as none, Some as some}
use Prim.Native.Nat.{ℕ, ◌+◌, ◌-◌, ◌≤◌}
use native.Mathlib.Omega.{arith}
use lib.ListN.{length, drop, length-drop, length-append}
use lib.Dec.{leb}
use borrow.Author.Tests.{leb-true, le-leb}
use Rattle.sorted.proofs.Never.{never}
use Rattle.csexp.specs.Term.{Term, write, levels}
use Rattle.csexp.specs.Read.{Got, no, got, read}
use Rattle.csexp.specs.declared.At.{At}
use Rattle.csexp.specs.At.{ends, behind, place, term_at}
use Rattle.csexp.specs.Decode.{Decoder}
use Rattle.csexp.specs.Answers.{found, decode, value_at, Reads}
use Rattle.csexp.specs.Limits.{shallow, ending, ending_of, all_of, whole_of}
use Rattle.csexp.proofs.Basic.{false_true}
use Rattle.csexp.proofs.Terms as terms
use Rattle.csexp.proofs.Places.{read_left}

pub read_complete : (t : Term) (r : List ℕ) → read (write t ++ r) ≡ got t r
read_complete t r = terms.read_complete t r

pub read_sound : (s : List ℕ) {t : Term} {r : List ℕ} → read s ≡ got t r → s ≡ write t ++ r
read_sound s e = terms.read_sound s e

pub read-written : (t : Term) → read (write t) ≡ got t []
read-written t = ap read (sym (append-nil (write t))) ∙ read_complete t []

pub write_injective : (t u : Term) → write t ≡ write u → t ≡ u
write_injective t u e =
    let same : got t [] ≡ got u [] = sym (read-written t) ∙ ap read e ∙ read-written u in
    cc

module _ {A : Type 0} (d : Decoder A) (s : List ℕ) (at : ℕ) (v : A) where
  pub found-is-written : (p : ℕ) → value_at d s at ≡ some (ends v p) → (t : Term) × (drop at s ≡ write t ++ drop p s) × (d t ≡ some v)
  unfolding value_at term_at
  found-is-written p e = go (read (drop at s)) refl e
    where
      by : (t : Term) (r : List ℕ) (m : Option A) → d t ≡ m → read (drop at s) ≡ got t r → found m (length s - length r) ≡ some (ends v p)
          → (t : Term) × (drop at s ≡ write t ++ drop p s) × (d t ≡ some v)
      by t r none h q e = never (cc)
      by t r (some a) h q e =
          let same : ends a (length s - length r) ≡ ends v p = cc in
          let same-p : length s - length r ≡ p = ap (λ (x : At A). x.next) same in
          let same_v : a ≡ v = ap (λ (x : At A). x.value) same in
          let left : r ≡ drop p s = sym (read_left s at q) ∙ ap (λ (n : ℕ). drop n s) same-p in
          (t, read_sound (drop at s) q ∙ ap (λ (l : List ℕ). write t ++ l) left, h ∙ ap some same_v)

      go : (m : Got Term) → read (drop at s) ≡ m → decode d (place s m) ≡ some (ends v p) → (t : Term) × (drop at s ≡ write t ++ drop p s) × (d t ≡ some v)
      go no q e = never (cc)
      go (got t r) q e = by t r (d t) refl q e

  pub written-is-found : (t : Term) (r : List ℕ) → drop at s ≡ write t ++ r → d t ≡ some v → value_at d s at ≡ some (ends v (length s - length r))
  unfolding value_at term_at
  written-is-found t r e h =
      ap (λ (l : List ℕ). decode d (place s (read l))) e
      ∙ ap (λ (m : Got Term). decode d (place s m)) (read_complete t r)
      ∙ ap (λ (m : Option A). found m (length s - length r)) h

pub reads_agree : {A : Type 0} {d : Decoder A} {s : List ℕ} {at : ℕ} {r q : Option (At A)} → Reads d s at r → Reads d s at q → r ≡ q
reads_agree m n = m.exactly ∙ sym n.exactly

shallow_of : (n : ℕ) (t : Term) → shallow n t ≡ some tt → levels t ≤ n
unfolding shallow
shallow_of n t e = go (leb (levels t) n) refl e
  where
    go : (c : Bool) → leb (levels t) n ≡ c → cond c (some (tt {0})) none ≡ some tt → levels t ≤ n
    go true h e = leb-true (levels t) n h
    go false h e = never (cc)

of_shallow : (n : ℕ) (t : Term) → levels t ≤ n → shallow n t ≡ some tt
unfolding shallow
of_shallow n t h = ap (λ (c : Bool). cond c (some tt) none) (le-leb (levels t) n h)

module _ (bytes n : ℕ) where
  pub whole-is-written : (s : List ℕ) → whole_of bytes n s ≡ true → (t : Term) × (s ≡ write t) × (length s ≤ bytes) × (levels t ≤ n)
  unfolding whole_of
  whole-is-written s e = go (leb (length s) bytes) refl e
    where
      by : length s ≤ bytes → (m : Got Term) → read s ≡ m → all_of n m ≡ true → (t : Term) × (s ≡ write t) × (length s ≤ bytes) × (levels t ≤ n)
      by h no q e = false_true e
      by h (got t []) q e = (t, read_sound s q ∙ append-nil (write t), h, leb-true (levels t) n e)
      by h (got t (b ∷ r)) q e = false_true e

      go : (c : Bool) → leb (length s) bytes ≡ c → cond c (all_of n (read s)) false ≡ true → (t : Term) × (s ≡ write t) × (length s ≤ bytes) × (levels t ≤ n)
      go true h e = by (leb-true (length s) bytes h) (read s) refl e
      go false h e = false_true e

  pub written-is-whole : (t : Term) → length (write t) ≤ bytes → levels t ≤ n → whole_of bytes n (write t) ≡ true
  unfolding whole_of
  written-is-whole t h l =
      ap (λ (c : Bool). cond c (all_of n (read (write t))) false) (le-leb (length (write t)) bytes h)
      ∙ ap (all_of n) (read-written t) ∙ le-leb (levels t) n l

  pub ending-is-written : (s : List ℕ) (at p : ℕ) → ending_of bytes n s at ≡ some p → (t : Term) × (drop at s ≡ write t ++ drop p s) × (p - at ≤ bytes) × (levels t ≤ n)
  unfolding ending_of
  ending-is-written s at p e = go (value_at (shallow n) s at) refl e
    where
      by : (q : ℕ) (c : Bool) → leb (q - at) bytes ≡ c → value_at (shallow n) s at ≡ some (ends tt q) → cond c (some q) none ≡ some p
          → (t : Term) × (drop at s ≡ write t ++ drop p s) × (p - at ≤ bytes) × (levels t ≤ n)
      by q true h d e =
          let same-p : q ≡ p = cc in
          let w = found-is-written (shallow n) s at tt p (d ∙ ap (λ (q : ℕ). some (ends tt q)) same-p) in
          let fit : q - at ≤ bytes = leb-true (q - at) bytes h in
          (w.0, w.1, omega arith, shallow_of n w.0 w.2)
      by q false h d e = never (cc)

      go : (m : Option (At (Unit {0}))) → value_at (shallow n) s at ≡ m → ending bytes at (behind m) ≡ some p
          → (t : Term) × (drop at s ≡ write t ++ drop p s) × (p - at ≤ bytes) × (levels t ≤ n)
      go none q e = never (cc)
      go (some a) d e = by a.next (leb (a.next - at) bytes) refl d e

  pub written-is-ending : (s : List ℕ) (at : ℕ) (t : Term) (r : List ℕ) → drop at s ≡ write t ++ r → length (write t) ≤ bytes → levels t ≤ n
      → ending_of bytes n s at ≡ some (length s - length r)
  unfolding ending_of
  written-is-ending s at t r e h l =
      let long : length s - at ≡ length (write t) + length r = sym (length-drop at s) ∙ ap length e ∙ length-append (write t) r in
      ap (λ (m : Option (At (Unit {0}))). ending bytes at (behind m)) (written-is-found (shallow n) s at tt t r e (of_shallow n t l))
      ∙ ap (λ (c : Bool). cond c (some (length s - length r)) none) (le-leb ((length s - length r) - at) bytes (omega arith))
