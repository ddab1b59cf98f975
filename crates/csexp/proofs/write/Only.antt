-- A decoder finds only what was encoded: a law for each of its parts, the converse of those in Backs. To show P of every term and value that
-- a decoder gives, it is enough to show P of what the encoder makes of each value.
--     gives_so · holds_so · only_any                             what follows from P; where nothing is asked
--     only_inside · only_one · only_end · only_up_to             a list and its fields
--     only_perhaps                                               a field that may be absent
--     only_nothing · only_either · only_maps · only_optionally   nothing, one of two, a value made of a value, () or a value
--     only_word · only_means · only_numeral · only_optional · only_labelled
use mathlib.Core.Path.{◌≡◌, refl, sym, ap, ap₂, subst, ◌∙◌}
use mathlib.Core.Bool.{Bool, true, false, cond}
use mathlib.Core.List.{List, [], ◌∷◌, append-nil}
use Rattle.std.specs.Prelude.{Option, None as none, Some as some}
use Prim.Native.Nat.{ℕ, zero, suc, ◌≤◌}
use native.Mathlib.Omega.{arith}
use lib.Dec.{eqb, leb}
use borrow.Author.Tests.{leb-true, eqb-true, ne_eqb}
use Rattle.sorted.proofs.Never.{never}
use Rattle.csexp.specs.Term.{Term, atom, list, Terms, nil, cons, decimal}
use Rattle.csexp.specs.Read.{Got, no, got, number}
use Rattle.csexp.specs.Decode.{Decoder, Fields, and_then, or_else, inside, one, end, up_to, atom_of, either, first, maps, same, word, means, perhaps, optionally, optional_of, labelled_of, all_read, between, numeral}
use Rattle.csexp.specs.Encode.{number_term, optional_term, labelled}
use Rattle.csexp.proofs.Basic.{false_true}
use Rattle.csexp.proofs.Numbers.{number_sound}

-- wherever the decoder d gives v for t, P t v; wherever the fields f hold v in ts, P ts v
pub record GivesOnly {A : Type 0} (d : Decoder A) (P : Term → A → Type 0) : Type 0 where
  pub is : (t : Term) (v : A) → d t ≡ some v → P t v

pub record HoldsOnly {A : Type 0} (f : Fields A) (P : Terms → A → Type 0) : Type 0 where
  pub is : (ts : Terms) (v : A) → f ts ≡ some v → P ts v

none-some : {A B : Type 0} {a : A} → none ≡ some a → B
none-some e = never (cc)

module _ {A : Type 0} where
  pub gives_so : {d : Decoder A} {P Q : Term → A → Type 0} → GivesOnly d Q → ((t : Term) (v : A) → Q t v → P t v) → GivesOnly d P
  gives_so g h = record { is = λ t v e. h t v (g.is t v e) }

  pub holds_so : {f : Fields A} {P Q : Terms → A → Type 0} → HoldsOnly f Q → ((ts : Terms) (v : A) → Q ts v → P ts v) → HoldsOnly f P
  holds_so g h = record { is = λ ts v e. h ts v (g.is ts v e) }

  -- where nothing is asked of what is read
  pub only_any : {d : Decoder A} {P : Term → A → Type 0} → ((t : Term) (v : A) → P t v) → GivesOnly d P
  only_any h = record { is = λ t v e. h t v }

  pub only_nothing : {P : Term → A → Type 0} → GivesOnly (λ _. none) P
  only_nothing = record { is = λ t v e. none-some e }

  pub only_inside : {f : Fields A} {P : Term → A → Type 0} → HoldsOnly f (λ ts v. P (list ts) v) → GivesOnly (inside f) P
  unfolding inside
  only_inside {f} {P} h = record { is = go }
    where
      go : (t : Term) (v : A) → inside f t ≡ some v → P t v
      go (atom bs) v e = none-some e
      go (list ts) v e = h.is ts v e

  pub only_end : {P : Terms → A → Type 0} (v : A) → P nil v → HoldsOnly (end v) P
  unfolding end
  only_end {P} v p = record { is = go }
    where
      go : (ts : Terms) (w : A) → end v ts ≡ some w → P ts w
      go nil w e = let q : v ≡ w = cc in subst (P nil) q p
      go (cons t ts) w e = none-some e

  pub only_either : {d e : Decoder A} {P : Term → A → Type 0} → GivesOnly d P → GivesOnly e P → GivesOnly (either d e) P
  unfolding either
  only_either {d} {e} {P} g h = record { is = λ t v q. go t v (d t) refl q }
    where
      go : (t : Term) (v : A) (m : Option A) → d t ≡ m → first m (e t) ≡ some v → P t v
      go t v none f q = h.is t v q
      go t v (some a) f q = g.is t v (f ∙ q)

module _ {A B : Type 0} where
  pub only_one : {d : Decoder A} {P : Terms → B → Type 0} (k : A → Fields B)
      → GivesOnly d (λ t a. HoldsOnly (k a) (λ ts v. P (cons t ts) v)) → HoldsOnly (one d k) P
  unfolding one
  only_one {d} {P} k g = record { is = go }
    where
      by : (t : Term) (ts : Terms) (v : B) (m : Option A) → d t ≡ m → and_then m (λ a. k a ts) ≡ some v → P (cons t ts) v
      by t ts v none f e = none-some e
      by t ts v (some a) f e = (g.is t a f).is ts v e

      go : (ts : Terms) (v : B) → one d k ts ≡ some v → P ts v
      go nil v e = none-some e
      go (cons t ts) v e = by t ts v (d t) refl e

  pub only_maps : {d : Decoder A} {P : Term → B → Type 0} (f : A → B) → GivesOnly d (λ t a. P t (f a)) → GivesOnly (maps f d) P
  unfolding maps
  only_maps {d} {P} f g = record { is = λ t v e. go t v (d t) refl e }
    where
      go : (t : Term) (v : B) (m : Option A) → d t ≡ m → and_then m (λ a. some (f a)) ≡ some v → P t v
      go t v none q e = none-some e
      go t v (some a) q e = let z : f a ≡ v = cc in subst (P t) z (g.is t a q)

-- () for no value, or another term for one
pub only_optionally : {A B : Type 0} {d : Decoder A} {P : Term → B → Type 0} (b : B) (f : A → B) → P (list nil) b → GivesOnly d (λ t a. P t (f a))
    → GivesOnly (optionally b f d) P
unfolding optionally
only_optionally b f p g = only_either (only_maps (λ _. b) (only_inside (only_end tt p))) (only_maps f g)

-- a term that may be absent: it is there, or it is not
pub only_perhaps : {A B C : Type 0} {d : Decoder A} {P : Terms → C → Type 0} (b : B) (f : A → B) (k : B → Fields C)
    → GivesOnly d (λ t a. HoldsOnly (k (f a)) (λ ts v. P (cons t ts) v)) → HoldsOnly (k b) P → HoldsOnly (perhaps b f d k) P
unfolding perhaps
only_perhaps {A} {B} {C} {d} {P} b f k g h = record { is = go }
  where
    by : (t : Term) (ts : Terms) (v : C) (m : Option A) → d t ≡ m → or_else m (λ a. k (f a) ts) (k b (cons t ts)) ≡ some v → P (cons t ts) v
    by t ts v none q e = h.is (cons t ts) v e
    by t ts v (some a) q e = (g.is t a q).is ts v e

    go : (ts : Terms) (v : C) → perhaps b f d k ts ≡ some v → P ts v
    go nil v e = h.is nil v e
    go (cons t ts) v e = by t ts v (d t) refl e

same_true : (w u : List ℕ) → same w u ≡ true → w ≡ u
unfolding same
same_true [] [] e = refl
same_true [] (b ∷ u) e = false_true e
same_true (a ∷ w) [] e = false_true e
same_true (a ∷ w) (b ∷ u) e = go (eqb a b) refl (same_true w u) e
  where
    go : (c : Bool) → eqb a b ≡ c → (same w u ≡ true → w ≡ u) → cond c (same w u) false ≡ true → a ∷ w ≡ b ∷ u
    go true h ih e = ap₂ (λ (x : ℕ) (l : List ℕ). x ∷ l) (eqb-true a b h) (ih e)
    go false h ih e = false_true e

pub only_word : {P : Term → Unit {0} → Type 0} (w : List ℕ) → P (atom w) tt → GivesOnly (word w) P
unfolding word atom_of
only_word {P} w p = record { is = go }
  where
    by : (bs : List ℕ) (v : Unit {0}) (c : Bool) → same w bs ≡ c → cond c (some (tt {0})) none ≡ some v → P (atom bs) v
    by bs v true q e = subst (λ (u : List ℕ). P (atom u) v) (same_true w bs q) p
    by bs v false q e = none-some e

    go : (t : Term) (v : Unit {0}) → word w t ≡ some v → P t v
    go (atom bs) v e = by bs v (same w bs) refl e
    go (list ts) v e = none-some e

pub only_means : {A : Type 0} {P : Term → A → Type 0} (w : List ℕ) (v : A) → P (atom w) v → GivesOnly (means w v) P
unfolding means
only_means w v p = only_maps (λ _. v) (only_word w p)

in_between : (lo hi n m : ℕ) → between lo hi n ≡ some m → (n ≡ m) × (lo ≤ m) × (m ≤ hi)
in_between lo hi n m e = go (leb lo n) (leb n hi) refl refl e
  where
    go : (c d : Bool) → leb lo n ≡ c → leb n hi ≡ d → cond c (cond d (some n) none) none ≡ some m → (n ≡ m) × (lo ≤ m) × (m ≤ hi)
    go true true h k e =
        let is : n ≡ m = cc in
        let low : lo ≤ n = leb-true lo n h in
        let high : n ≤ hi = leb-true n hi k in
        (is, omega arith, omega arith)
    go true false h k e = none-some e
    go false d h k e = none-some e

-- a number is written in one way only
pub only_numeral : {P : Term → ℕ → Type 0} (lo hi : ℕ) → ((n : ℕ) → lo ≤ n → n ≤ hi → P (number_term n) n) → GivesOnly (numeral lo hi) P
unfolding numeral atom_of number_term
only_numeral {P} lo hi p = record { is = go }
  where
    by : (bs : List ℕ) (n : ℕ) (m : Got ℕ) → number bs ≡ m → and_then (all_read m) (between lo hi) ≡ some n → P (atom bs) n
    by bs n no q e = none-some e
    by bs n (got k []) q e =
        let b = in_between lo hi k n e in
        let is : bs ≡ decimal n = number_sound bs q ∙ append-nil (decimal k) ∙ ap decimal b.0 in
        subst (λ (u : List ℕ). P (atom u) n) (sym is) (p n b.1 b.2)
    by bs n (got k (c ∷ r)) q e = none-some e

    go : (t : Term) (n : ℕ) → numeral lo hi t ≡ some n → P t n
    go (atom bs) n e = by bs n (number bs) refl e
    go (list ts) n e = none-some e

pub only_optional : {P : Term → ℕ → Type 0} (hi : ℕ) → ((n : ℕ) → n ≤ hi → P (optional_term n) n) → GivesOnly (optional_of hi) P
unfolding optional_of optional_term
only_optional {P} hi p = only_optionally 0 (λ n. n) (p 0 (omega arith)) (only_numeral 1 hi λ n low high.
    subst (λ (c : Bool). P (cond c (list nil) (number_term n)) n) (ne_eqb n 0 (λ z. omega arith)) (p n high))

pub only_labelled : {P : Term → ℕ → Type 0} (w : List ℕ) (lo hi : ℕ) → ((n : ℕ) → lo ≤ n → n ≤ hi → P (labelled w n) n) → GivesOnly (labelled_of w lo hi) P
unfolding labelled labelled_of
only_labelled w lo hi p = only_inside (only_one _ (only_word w (only_one _ (only_numeral lo hi λ n low high. only_end n (p n low high)))))

-- at most n terms: P n holds of nothing, and P (n + 1) of one term more than P n holds of
pub only_up_to : {A : Type 0} {d : Decoder A} {P : ℕ → Terms → List A → Type 0} → ((n : ℕ) → P n nil [])
    → GivesOnly d (λ t a. (n : ℕ) (ts : Terms) (l : List A) → P n ts l → P (suc n) (cons t ts) (a ∷ l)) → (n : ℕ) → HoldsOnly (up_to n d) (P n)
unfolding up_to
only_up_to {A} {d} {P} p g n = record { is = go n }
  where
    go : (n : ℕ) (ts : Terms) (l : List A) → up_to n d ts ≡ some l → P n ts l
    go n nil l e = let z : [] ≡ l = cc in subst (P n nil) z (p n)
    go zero (cons t ts) l e = none-some e
    go (suc n) (cons t ts) l e = by (d t) (up_to n d ts) refl (go n ts) e
      where
        by : (m : Option A) (o : Option (List A)) → d t ≡ m → ((l : List A) → o ≡ some l → P n ts l)
            → and_then m (λ a. and_then o (λ more. some (a ∷ more))) ≡ some l → P (suc n) (cons t ts) l
        by none o q ih e = none-some e
        by (some a) none q ih e = none-some e
        by (some a) (some l₁) q ih e = let z : a ∷ l₁ ≡ l = cc in subst (P (suc n) (cons t ts)) z (g.is t a q n ts l₁ (ih l₁ refl))
