-- The promise of showing leaves nothing free.
--     one-exhibit     any two results that it allows are the same: verdict and count, and buffer
--     untouched       at a refusal the buffer is as it was
--     written-within  what was written lies within the buffer
use mathlib.Core.Path.{◌≡◌, refl, sym, ap, ◌∙◌}
use mathlib.Core.Bool.{Bool, true, false, cond}
use mathlib.Core.List.{List, ◌++◌}
use Prim.Native.Nat.{ℕ, ◌+◌, ◌≤◌}
use native.Mathlib.Omega.{arith}
use lib.Dec.{leb}
use lib.ListN.{length, take, drop, length-append}
use Rattle.csexp.specs.Term.{write}
use Rattle.sorted.proofs.Never.{never}
use Rattle.wim.specs.Nouns.{WindowNumber, Refusal, NoRoom}
use Rattle.wim.specs.Step.{Accepted, Refused}
use Rattle.wim.specs.Step.{Browser}
use Rattle.browser.specs.View.{browser}
use Rattle.wim.specs.Wire.{put_into}
use Rattle.wim.specs.Shown.{Shown, hidden, shown, what_is_shown}
use Rattle.exhibit.specs.Exhibits.{Exhibit, withheld, exhibited, exhibit, Showing, saying, Shows}
use Rattle.std.specs.Prelude.{Ok, Err}

buffer_of : (r : Showing) (o : List ℕ) → o ≡ (saying r o).buffer
buffer_of (Ok n) o = refl
buffer_of (Err why) o = refl

-- the verdict says which it is, and why
apart : {A : Type 0} {why : Refusal} → Accepted ≡ Refused why → A
apart e = never (cc)

same_refusal : {why other : Refusal} → Refused why ≡ Refused other → why ≡ other
same_refusal e = cc

same_told : (r s : Showing) (o p : List ℕ) → saying r o ≡ saying s p → r ≡ s
same_told (Ok n) (Ok k) o p e = ap (λ (x : Exhibit). Ok x.count) e
same_told (Ok n) (Err why) o p e = apart (ap (λ (x : Exhibit). x.verdict) e)
same_told (Err why) (Ok k) o p e = apart (sym (ap (λ (x : Exhibit). x.verdict) e))
same_told (Err why) (Err other) o p e = ap Err (same_refusal (ap (λ (x : Exhibit). x.verdict) e))

-- "Two browsers with the same rows are equal"
pub one-exhibit : {m n : List ℕ} {w : WindowNumber} {out : List ℕ} {place : ℕ} {r s : Showing} {out₁ out₂ : List ℕ}
    → browser m ≡ browser n → Shows m w out place r out₁ → Shows n w out place s out₂ → (r ≡ s) × (out₁ ≡ out₂)
one-exhibit {m} {n} {w} {out} {place} {r} {s} {out₁} {out₂} e u v =
    let same : saying r out₁ ≡ saying s out₂ = u.tells ∙ ap (λ (x : Browser). exhibit x w out place) e ∙ sym v.tells in
    (same_told r s out₁ out₂ same, buffer_of r out₁ ∙ ap (λ (x : Exhibit). x.buffer) same ∙ sym (buffer_of s out₂))

module _ (out : List ℕ) (place : ℕ) where
  idle : (x : Shown) (why : Refusal) → (exhibited x out place).verdict ≡ Refused why → (exhibited x out place).buffer ≡ out
  idle (hidden r) why e = refl
  idle (shown t) why e = go (leb (place + length (write t)) (length out)) e
    where
      there : Exhibit
      there = record { verdict = Accepted; count = length (write t); buffer = put_into out place (write t) }

      go : (c : Bool) → (cond c there (withheld NoRoom out)).verdict ≡ Refused why → (cond c there (withheld NoRoom out)).buffer ≡ out
      go true e = never (cc)
      go false e = refl

  inside : (x : Shown) → (exhibited x out place).count ≤ length (exhibited x out place).buffer
  inside (hidden r) = omega arith
  inside (shown t) = go (leb (place + length (write t)) (length out))
    where
      go : (c : Bool) → (cond c (record { verdict = Accepted; count = length (write t); buffer = put_into out place (write t) }) (withheld NoRoom out)).count
          ≤ length (cond c (record { verdict = Accepted; count = length (write t); buffer = put_into out place (write t) }) (withheld NoRoom out)).buffer
      go true =
          let a = length-append (take place out) (write t ++ drop (place + length (write t)) out) in
          let b = length-append (write t) (drop (place + length (write t)) out) in
          omega arith
      go false = omega arith

module _ {m : List ℕ} {w : WindowNumber} {out : List ℕ} {place : ℕ} {out₂ : List ℕ} where
  pub untouched : (why : Refusal) → Shows m w out place (Err why) out₂ → out₂ ≡ out
  unfolding exhibit
  untouched why u =
      let i = idle out place (what_is_shown (browser m) w) why (sym (ap (λ (x : Exhibit). x.verdict) u.tells)) in
      ap (λ (x : Exhibit). x.buffer) u.tells ∙ i

  pub written-within : (count : ℕ) → Shows m w out place (Ok count) out₂ → count ≤ length out₂
  unfolding exhibit
  written-within count u =
      let i = inside out place (what_is_shown (browser m) w) in
      let n : count ≡ (exhibited (what_is_shown (browser m) w) out place).count = ap (λ (x : Exhibit). x.count) u.tells in
      let l : length out₂ ≡ length (exhibited (what_is_shown (browser m) w) out place).buffer = ap (λ (x : Exhibit). length x.buffer) u.tells in
      omega arith
