-- The laws of decimal numbers.
--     decimal-more      one more digit
--     number_sound      what is read is what the number is written as
--     number_complete   a number that is written, and no digit behind it, is read
use mathlib.Core.Path.{◌≡◌, refl, sym, ap, ap₂, ◌∙◌}
use mathlib.Core.Bool.{Bool, true, false, cond}
use mathlib.Core.List.{List, [], ◌∷◌, ◌++◌, append_assoc}
use Prim.Native.Nat.{ℕ, zero, suc, ◌+◌, ◌-◌, ◌*◌, ◌/◌, ◌%◌, ◌≤◌, ◌<◌}
use native.Mathlib.Omega.{arith}
use lib.Dec.{ltb, eqb}
use borrow.Author.Tests.{lt-ltb, le-ltb, ltb-true, ltb-false, eqb-true, eqb-false, ne_eqb}
use Rattle.csexp.specs.Term.{digits, decimal}
use Rattle.csexp.specs.Read.{no, got, digit, run, number}
use Rattle.csexp.proofs.Basic.{cond_cong, no-got, digit_low, digit-high, is_digit}

digits_same : (f g n : ℕ) → n < f → n < g → digits f n ≡ digits g n
unfolding digits
digits_same zero g n hf hg = absurd (omega arith)
digits_same (suc f) zero n hf hg = absurd (omega arith)
digits_same (suc f) (suc g) n hf hg =
    cond_cong (ltb n 10) _ _ _ (λ e. ap (λ (l : List ℕ). l ++ ((48 + n % 10) ∷ []))
    (let h : 10 ≤ n = ltb-false n 10 e in digits_same f g (n / 10) (omega arith) (omega arith)))

pub decimal-small : (n : ℕ) → n < 10 → decimal n ≡ (48 + n) ∷ []
unfolding decimal digits
decimal-small n h = simp (lt-ltb n 10 h)

pub decimal-more : (v d : ℕ) → 0 < v → d < 10 → decimal (v * 10 + d) ≡ decimal v ++ ((48 + d) ∷ [])
unfolding decimal digits
decimal-more v d hv hd =
    let n : ℕ = v * 10 + d in
    let quo : n / 10 ≡ v = omega arith in
    let rem : n % 10 ≡ d = omega arith in
    let big : 10 ≤ n = omega arith in
    let lead : digits n (n / 10) ≡ digits (suc v) v = ap (digits n) quo ∙ digits_same n (suc v) v (omega arith) (omega arith) in
    ap (λ (t : Bool). cond t ((48 + n) ∷ []) (digits n (n / 10) ++ ((48 + n % 10) ∷ []))) (le-ltb n 10 big)
    ∙ ap₂ (λ (l : List ℕ) (r : ℕ). l ++ ((48 + r) ∷ [])) lead rem

run_sound : (v : ℕ) (s : List ℕ) {n : ℕ} {r : List ℕ} → 0 < v → run v s ≡ got n r → decimal v ++ s ≡ decimal n ++ r
unfolding run
run_sound v [] h e = cc
run_sound v (b ∷ s) {n} {r} h e = go (digit b) refl (λ p q. run_sound (v * 10 + (b - 48)) s p q) e
  where
    go : (t : Bool) → digit b ≡ t
        → (0 < v * 10 + (b - 48) → run (v * 10 + (b - 48)) s ≡ got n r → decimal (v * 10 + (b - 48)) ++ s ≡ decimal n ++ r)
        → cond t (run (v * 10 + (b - 48)) s) (got v (b ∷ s)) ≡ got n r → decimal v ++ (b ∷ s) ≡ decimal n ++ r
    go true d ih e =
        let lo : 48 ≤ b = digit_low b d in
        let hi : b ≤ 57 = digit-high b d in
        let back : 48 + (b - 48) ≡ b = omega arith in
        ap (λ (x : ℕ). decimal v ++ (x ∷ s)) (sym back)
        ∙ sym (append_assoc (decimal v) ((48 + (b - 48)) ∷ []) s)
        ∙ ap (λ (l : List ℕ). l ++ s) (sym (decimal-more v (b - 48) h (omega arith)))
        ∙ ih (omega arith) e
    go false d ih e = cc

pub number_sound : (s : List ℕ) {n : ℕ} {r : List ℕ} → number s ≡ got n r → s ≡ decimal n ++ r
unfolding number
number_sound [] e = no-got e
number_sound (b ∷ s) {n} {r} e = go (eqb b 48) refl e
  where
    other : (t : Bool) → digit b ≡ t → (b ≡ 48 → ⊥) → cond t (run (b - 48) s) no ≡ got n r → b ∷ s ≡ decimal n ++ r
    other false d ne e = no-got e
    other true d ne e =
        let lo : 48 ≤ b = digit_low b d in
        let hi : b ≤ 57 = digit-high b d in
        let back : 48 + (b - 48) ≡ b = omega arith in
        ap (λ (x : ℕ). x ∷ s) (sym back)
        ∙ ap (λ (l : List ℕ). l ++ s) (sym (decimal-small (b - 48) (omega arith)))
        ∙ run_sound (b - 48) s (omega arith) e

    go : (t : Bool) → eqb b 48 ≡ t → cond t (got 0 s) (cond (digit b) (run (b - 48) s) no) ≡ got n r → b ∷ s ≡ decimal n ++ r
    go true h e =
        let is : b ≡ 48 = eqb-true b 48 h in
        let zero_is : 0 ≡ n = cc in
        let rest-is : s ≡ r = cc in
        ap₂ (λ (x : ℕ) (l : List ℕ). x ∷ l) is rest-is ∙ ap (λ (l : List ℕ). l ++ r) (sym (decimal-small 0 (omega arith))) ∙ ap (λ (k : ℕ). decimal k ++ r) zero_is
    go false h e = other (digit b) refl (eqb-false b 48 h) e

pub run-digit : (v d : ℕ) (s : List ℕ) → d < 10 → run v ((48 + d) ∷ s) ≡ run (v * 10 + d) s
unfolding run
run-digit v d s h =
    ap (λ (t : Bool). cond t (run (v * 10 + ((48 + d) - 48)) s) (got v ((48 + d) ∷ s))) (is_digit (48 + d) (omega arith) (omega arith))
    ∙ ap (λ (k : ℕ). run (v * 10 + k) s) (omega arith)

digits-run : (f n : ℕ) (s : List ℕ) → n < f → 0 < n → number (digits f n ++ s) ≡ run n s
unfolding digits number
digits-run zero n s hf h = absurd (omega arith)
digits-run (suc f) n s hf h = go (ltb n 10) refl (λ p q. digits-run f (n / 10) ((48 + n % 10) ∷ s) p q)
  where
    go : (t : Bool) → ltb n 10 ≡ t
        → (n / 10 < f → 0 < n / 10 → number (digits f (n / 10) ++ ((48 + n % 10) ∷ s)) ≡ run (n / 10) ((48 + n % 10) ∷ s))
        → number (cond t ((48 + n) ∷ []) (digits f (n / 10) ++ ((48 + n % 10) ∷ [])) ++ s) ≡ run n s
    go true e ih =
        let lt : n < 10 = ltb-true n 10 e in
        simp (ne_eqb (48 + n) 48 (λ q. omega arith), is_digit (48 + n) (omega arith) (omega arith)) (ap (λ (k : ℕ). run k s) (omega arith))
    go false e ih =
        let ge : 10 ≤ n = ltb-false n 10 e in
        ap number (append_assoc (digits f (n / 10)) ((48 + n % 10) ∷ []) s)
        ∙ ih (omega arith) (omega arith)
        ∙ run-digit (n / 10) (n % 10) s (omega arith)
        ∙ ap (λ (k : ℕ). run k s) (omega arith)

-- `stop`: no digit stands where the number ends
pub number_complete : (n : ℕ) (s : List ℕ) → ((v : ℕ) → run v s ≡ got v s) → number (decimal n ++ s) ≡ got n s
unfolding decimal number digits
number_complete zero s stop = refl
number_complete (suc n) s stop = digits-run (suc (suc n)) (suc n) s (omega arith) (omega arith) ∙ stop (suc n)
