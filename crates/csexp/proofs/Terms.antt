-- The laws of terms.
--     read_sound      a text that is read is the one its term is written as, and then what is left
--     read_complete   what was written is read back, with the rest untouched
--     read-..         how reading goes, with no count of calls
use mathlib.Core.Path.{◌≡◌, refl, sym, ap, ap₂, ◌∙◌}
use mathlib.Core.Bool.{Bool, true, false, cond}
use mathlib.Core.List.{List, [], ◌∷◌, ◌++◌, append_assoc}
use Prim.Native.Nat.{ℕ, zero, suc, ◌+◌, ◌*◌, ◌≤◌, ◌<◌}
use native.Mathlib.Omega.{arith}
use lib.ListN.{length, take, drop, take-append-drop, length-append}
use lib.Seq.{length-take-le, take-append_seam, drop-append_seam}
use lib.Dec.{leb, eqb}
use borrow.Author.Tests.{leb-true, le-leb, eqb-true}
use Rattle.csexp.specs.Term.{Term, atom, list, Terms, nil, cons, decimal, write, writes}
use Rattle.csexp.specs.Read.{Got, no, got, then, run, number, mark, bytes, string, term, terms, read, reads}
use Rattle.csexp.proofs.Basic.{no-got, then_inv, then_cong}
use Rattle.csexp.proofs.Numbers.{number_sound, number_complete}

-- Atoms

pub mark_sound : (b : ℕ) (s : List ℕ) {x : Unit {0}} {r : List ℕ} → mark b s ≡ got x r → s ≡ b ∷ r
unfolding mark
mark_sound b [] e = no-got e
mark_sound b (a ∷ s) {x} {r} e = go (eqb a b) refl e
  where
    go : (t : Bool) → eqb a b ≡ t → cond t (got tt s) no ≡ got x r → a ∷ s ≡ b ∷ r
    go false h e = no-got e
    go true h e = let q : a ≡ b = eqb-true a b h in let p : s ≡ r = cc in cc

pub bytes_sound : (n : ℕ) (s : List ℕ) {bs r : List ℕ} → bytes n s ≡ got bs r → (s ≡ bs ++ r) × (length bs ≡ n)
unfolding bytes
bytes_sound n s {bs} {r} e = go (leb n (length s)) refl e
  where
    go : (t : Bool) → leb n (length s) ≡ t → cond t (got (take n s) (drop n s)) no ≡ got bs r → (s ≡ bs ++ r) × (length bs ≡ n)
    go false h e = no-got e
    go true h e =
        let p : take n s ≡ bs = cc in
        let q : drop n s ≡ r = cc in
        (sym (take-append-drop n s) ∙ ap₂ (λ (a b : List ℕ). a ++ b) p q, ap length (sym p) ∙ length-take-le n s (leb-true n (length s) h))

pub string_sound : (s : List ℕ) {bs r : List ℕ} → string s ≡ got bs r → s ≡ write (atom bs) ++ r
unfolding string write
string_sound s {bs} {r} e =
    let (n, s₁, en, e₁) = then_inv (number s) e in
    let (x, s₂, em, e₂) = then_inv (mark 58 s₁) e₁ in
    let b = bytes_sound n s₂ e₂ in
    number_sound s en
    ∙ ap (λ (l : List ℕ). decimal n ++ l) (mark_sound 58 s₁ em ∙ ap (λ (l : List ℕ). 58 ∷ l) b.0)
    ∙ ap (λ (k : ℕ). decimal k ++ (58 ∷ (bs ++ r))) (sym b.1)
    ∙ sym (append_assoc (decimal (length bs)) (58 ∷ bs) r)

pub string_complete : (bs r : List ℕ) → string (write (atom bs) ++ r) ≡ got bs r
unfolding string write mark bytes run
string_complete bs r =
    ap string (append_assoc (decimal (length bs)) (58 ∷ bs) r)
    ∙ ap (λ (m : Got ℕ). then m (λ n r₁. then (mark 58 r₁) (λ _ r₂. bytes n r₂))) (number_complete (length bs) (58 ∷ (bs ++ r)) (λ v. refl))
    ∙ simp (le-leb (length bs) (length (bs ++ r)) (omega (arith, length-append bs r)), take-append_seam, drop-append_seam)

-- Soundness

writes_one : (t : Term) (ts : Terms) (r : List ℕ) → write t ++ (writes ts ++ (41 ∷ r)) ≡ writes (cons t ts) ++ (41 ∷ r)
unfolding write
writes_one t ts r = sym (append_assoc (write t) (writes ts) (41 ∷ r))

list-whole : (ts : Terms) (r : List ℕ) → 40 ∷ (writes ts ++ (41 ∷ r)) ≡ write (list ts) ++ r
unfolding write
list-whole ts r = ap (λ (l : List ℕ). 40 ∷ l) (sym (append_assoc (writes ts) (41 ∷ []) r))

mutual
  unfolding term write

  pub term_sound : (f : ℕ) (s : List ℕ) {t : Term} {r : List ℕ} → term f s ≡ got t r → s ≡ write t ++ r
  term_sound zero s e = no-got e
  term_sound (suc f) [] e = no-got e
  term_sound (suc f) (b ∷ s) {t} {r} e = go (eqb b 40) refl (λ us l p. terms_sound f s p) e
    where
      go : (c : Bool) → eqb b 40 ≡ c → ((ts : Terms) (r₁ : List ℕ) → terms f s ≡ got ts r₁ → s ≡ writes ts ++ (41 ∷ r₁))
          → cond c (then (terms f s) (λ ts r₁. got (list ts) r₁)) (then (string (b ∷ s)) (λ bs r₁. got (atom bs) r₁)) ≡ got t r → b ∷ s ≡ write t ++ r
      go true h ih e =
          let (ts, r₁, p, q) = then_inv (terms f s) e in
          let is : b ≡ 40 = eqb-true b 40 h in
          let same : list ts ≡ t = cc in
          let left : r₁ ≡ r = cc in
          ap₂ (λ (x : ℕ) (l : List ℕ). x ∷ l) is (ih ts r₁ p) ∙ list-whole ts r₁ ∙ ap₂ (λ (x : Term) (l : List ℕ). write x ++ l) same left
      go false h ih e =
          let (bs, r₁, p, q) = then_inv (string (b ∷ s)) e in
          let same : atom bs ≡ t = cc in
          let left : r₁ ≡ r = cc in
          string_sound (b ∷ s) p ∙ ap₂ (λ (x : Term) (l : List ℕ). write x ++ l) same left

  pub terms_sound : (f : ℕ) (s : List ℕ) {ts : Terms} {r : List ℕ} → terms f s ≡ got ts r → s ≡ writes ts ++ (41 ∷ r)
  terms_sound zero s e = no-got e
  terms_sound (suc f) [] e = no-got e
  terms_sound (suc f) (b ∷ s) {ts} {r} e = go (eqb b 41) refl (λ u l p. term_sound f (b ∷ s) p) (λ l us l₁ p. terms_sound f l p) e
    where
      go : (c : Bool) → eqb b 41 ≡ c
          → ((t : Term) (r₁ : List ℕ) → term f (b ∷ s) ≡ got t r₁ → b ∷ s ≡ write t ++ r₁)
          → ((l : List ℕ) (us : Terms) (r₁ : List ℕ) → terms f l ≡ got us r₁ → l ≡ writes us ++ (41 ∷ r₁))
          → cond c (got nil s) (then (term f (b ∷ s)) (λ t r₁. then (terms f r₁) (λ us r₂. got (cons t us) r₂))) ≡ got ts r
          → b ∷ s ≡ writes ts ++ (41 ∷ r)
      go true h one more e =
          let is : b ≡ 41 = eqb-true b 41 h in
          let same : nil ≡ ts = cc in
          let left : s ≡ r = cc in
          ap₂ (λ (x : ℕ) (l : List ℕ). x ∷ l) is left ∙ ap (λ (us : Terms). writes us ++ (41 ∷ r)) same
      go false h one more e =
          let (t, r₁, p, q) = then_inv (term f (b ∷ s)) e in
          let (us, r₂, p₂, q₂) = then_inv (terms f r₁) q in
          let same : cons t us ≡ ts = cc in
          let left : r₂ ≡ r = cc in
          one t r₁ p ∙ ap (λ (l : List ℕ). write t ++ l) (more r₁ us r₂ p₂) ∙ writes_one t us r₂ ∙ ap₂ (λ (x : Terms) (l : List ℕ). writes x ++ (41 ∷ l)) same left

pub read_sound : (s : List ℕ) {t : Term} {r : List ℕ} → read s ≡ got t r → s ≡ write t ++ r
unfolding read
read_sound s e = term_sound (2 * length s) s e

-- What is left is shorter

pub write-long : (t : Term) → 0 < length (write t)
unfolding write
write-long (atom bs) = omega (arith, length-append (decimal (length bs)) (58 ∷ bs))
write-long (list ts) = omega arith

pub term-short : (f : ℕ) (s : List ℕ) {t : Term} {r : List ℕ} → term f s ≡ got t r → length r < length s
term-short f s {t} {r} e = omega (arith, ap length (term_sound f s e), length-append (write t) r, write-long t)

-- The count of calls does not matter where it is large enough

mutual
  unfolding term

  term-same : (f g : ℕ) (s : List ℕ) → 2 * length s ≤ f → 2 * length s ≤ g → term f s ≡ term g s
  term-same zero zero s hf hg = refl
  term-same zero (suc g) [] hf hg = refl
  term-same zero (suc g) (b ∷ s) hf hg = absurd (omega arith)
  term-same (suc f) zero [] hf hg = refl
  term-same (suc f) zero (b ∷ s) hf hg = absurd (omega arith)
  term-same (suc f) (suc g) [] hf hg = refl
  term-same (suc f) (suc g) (b ∷ s) hf hg =
      ap (λ (m : Got Terms). cond (eqb b 40) (then m (λ ts r. got (list ts) r)) (then (string (b ∷ s)) (λ bs r. got (atom bs) r)))
      (terms-same f g s (omega arith) (omega arith))

  terms-same : (f g : ℕ) (s : List ℕ) → 2 * length s + 1 ≤ f → 2 * length s + 1 ≤ g → terms f s ≡ terms g s
  terms-same zero g s hf hg = absurd (omega arith)
  terms-same (suc f) zero s hf hg = absurd (omega arith)
  terms-same (suc f) (suc g) [] hf hg = refl
  terms-same (suc f) (suc g) (b ∷ s) hf hg =
      ap (λ (m : Got Term). cond (eqb b 41) (got nil s) (then m (λ t r. then (terms f r) (λ us r₂. got (cons t us) r₂))))
      (term-same f g (b ∷ s) (omega arith) (omega arith))
      ∙ ap (λ (m : Got Terms). cond (eqb b 41) (got nil s) m)
      (then_cong (term g (b ∷ s)) (λ t r e.
      ap (λ (m : Got Terms). then m (λ us r₂. got (cons t us) r₂))
      (let h : length r < length (b ∷ s) = term-short g (b ∷ s) e in terms-same f g r (omega arith) (omega arith))))

-- How reading goes

pub read_step : (b : ℕ) (s : List ℕ)
    → read (b ∷ s) ≡ cond (eqb b 40) (then (reads s) (λ ts r. got (list ts) r)) (then (string (b ∷ s)) (λ bs r. got (atom bs) r))
unfolding read reads term
read_step b s =
    term-same (2 * length (b ∷ s)) (suc (2 * length s + 1)) (b ∷ s) (omega arith) (omega arith)

pub reads-step : (b : ℕ) (s : List ℕ)
    → reads (b ∷ s) ≡ cond (eqb b 41) (got nil s) (then (read (b ∷ s)) (λ t r. then (reads r) (λ us r₂. got (cons t us) r₂)))
unfolding read reads term
reads-step b s =
    terms-same (2 * length (b ∷ s) + 1) (suc (2 * length (b ∷ s))) (b ∷ s) (omega arith) (omega arith)
    ∙ ap (λ (m : Got Terms). cond (eqb b 41) (got nil s) m)
    (then_cong (read (b ∷ s)) (λ t r e.
    ap (λ (m : Got Terms). then m (λ us r₂. got (cons t us) r₂))
    (let h : length r < length (b ∷ s) = term-short (2 * length (b ∷ s)) (b ∷ s) e in
    terms-same (2 * length (b ∷ s)) (2 * length r + 1) r (omega arith) (omega arith))))

pub read-string : (s : List ℕ) {bs r : List ℕ} → string s ≡ got bs r → read s ≡ got (atom bs) r
unfolding string number
read-string [] e = no-got e
read-string (b ∷ s) {bs} {r} e = read_step b s ∙ go (eqb b 40) refl
  where
    go : (c : Bool) → eqb b 40 ≡ c → cond c (then (reads s) (λ ts r₁. got (list ts) r₁)) (then (string (b ∷ s)) (λ cs r₁. got (atom cs) r₁)) ≡ got (atom bs) r
    go true h = no-got (ap (λ (x : ℕ). string (x ∷ s)) (sym (eqb-true b 40 h)) ∙ e)
    go false h = ap (λ (m : Got (List ℕ)). then m (λ cs r₁. got (atom cs) r₁)) e

pub reads-one : (s : List ℕ) {t : Term} {r : List ℕ} → read s ≡ got t r → reads s ≡ then (reads r) (λ us r₂. got (cons t us) r₂)
unfolding read term string number
reads-one [] e = no-got e
reads-one (b ∷ s) {t} {r} e = reads-step b s ∙ go (eqb b 41) refl
  where
    go : (c : Bool) → eqb b 41 ≡ c
        → cond c (got nil s) (then (read (b ∷ s)) (λ t r. then (reads r) (λ us r₂. got (cons t us) r₂))) ≡ then (reads r) (λ us r₂. got (cons t us) r₂)
    go true h = no-got (sym (read_step 41 s) ∙ ap (λ (x : ℕ). read (x ∷ s)) (sym (eqb-true b 41 h)) ∙ e)
    go false h = ap (λ (m : Got Term). then m (λ t r. then (reads r) (λ us r₂. got (cons t us) r₂))) e

-- Completeness

reads-nil : (r : List ℕ) → reads (writes nil ++ (41 ∷ r)) ≡ got nil r
unfolding write
reads-nil r = reads-step 41 r

mutual
  pub read_complete : (t : Term) (r : List ℕ) → read (write t ++ r) ≡ got t r
  read_complete (atom bs) r = read-string (write (atom bs) ++ r) (string_complete bs r)
  read_complete (list ts) r =
      ap read (sym (list-whole ts r)) ∙ read_step 40 (writes ts ++ (41 ∷ r))
      ∙ ap (λ (m : Got Terms). then m (λ us r₁. got (list us) r₁)) (reads_complete ts r)

  pub reads_complete : (ts : Terms) (r : List ℕ) → reads (writes ts ++ (41 ∷ r)) ≡ got ts r
  reads_complete nil r = reads-nil r
  reads_complete (cons t ts) r =
      ap reads (sym (writes_one t ts r)) ∙ reads-one (write t ++ (writes ts ++ (41 ∷ r))) (read_complete t (writes ts ++ (41 ∷ r)))
      ∙ ap (λ (m : Got Terms). then m (λ us r₂. got (cons t us) r₂)) (reads_complete ts r)
