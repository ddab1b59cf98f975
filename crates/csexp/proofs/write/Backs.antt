-- Reading back what was encoded: a law for each pair of an encoder's and a decoder's parts.
--     in_list · then_one · at-end                                a list and its fields
--     is-there · is-other · is_last                              a field that may be absent
--     first_of · second_of · by-maps · is_vacant · is-filled     one of two, a value made of a value, () or a value
--     is_word · is-means · is_number · is-labelled · is_optional
--     no-list · no_word · no-means · no_begin · no_number · no-maps     what a decoder finds nothing in
--     all_back                                                   a list of at most n values
use mathlib.Core.Path.{◌≡◌, refl, sym, ap, subst, ◌∙◌}
use mathlib.Core.Bool.{Bool, true, false, cond}
use mathlib.Core.List.{List, [], ◌∷◌, append-nil}
use Rattle.std.specs.Prelude.{Option, None as none, Some as some}
use Prim.Native.Nat.{ℕ, zero, suc, ◌≤◌}
use native.Mathlib.Omega.{arith}
use lib.ListN.{length}
use lib.Dec.{eqb}
use borrow.Author.Tests.{le-leb, eq-eqb, eqb-true, eqb-false}
use Rattle.sorted.specs.Table.{All}
use Rattle.csexp.specs.Term.{Term, atom, list, Terms, nil, cons, decimal}
use Rattle.csexp.specs.Read.{Got, got, number, run}
use Rattle.csexp.specs.Decode.{Decoder, Fields, and_then, inside, one, end, up_to, atom_of, either, first, maps, same, word, means, perhaps, empty_list, optionally, optional_of, labelled_of, all_read, between, numeral}
use Rattle.csexp.proofs.Numbers.{number_complete}
use Rattle.csexp.specs.Encode.{number_term, optional_term, each, labelled}

-- the decoder d finds v in t; the fields f find v in the terms ts; d finds nothing in t
pub record Gives {A : Type 0} (d : Decoder A) (t : Term) (v : A) : Type 0 where
  pub is : d t ≡ some v

pub record Holds {A : Type 0} (f : Fields A) (ts : Terms) (v : A) : Type 0 where
  pub is : f ts ≡ some v

pub record Denies {A : Type 0} (d : Decoder A) (t : Term) : Type 0 where
  pub is : d t ≡ none

module _ {A : Type 0} where
  pub in_list : {f : Fields A} {ts : Terms} {v : A} → Holds f ts v → Gives (inside f) (list ts) v
  unfolding inside
  in_list h = record { is = h.is }

  pub at-end : {v : A} → Holds (end v) nil v
  unfolding end
  at-end = record { is = refl }

  pub first_of : {d : Decoder A} {t : Term} {v : A} (e : Decoder A) → Gives d t v → Gives (either d e) t v
  unfolding either
  first_of {d} {t} {v} e g = record { is = ap (λ (m : Option A). first m (e t)) g.is }

  pub second_of : {e : Decoder A} {t : Term} {v : A} (d : Decoder A) → Denies d t → Gives e t v → Gives (either d e) t v
  unfolding either
  second_of {e} {t} {v} d n g = record { is = ap (λ (m : Option A). first m (e t)) n.is ∙ g.is }

  pub no-list : (f : Fields A) (bs : List ℕ) → Denies (inside f) (atom bs)
  unfolding inside
  no-list f bs = record { is = refl }

module _ {A B : Type 0} where
  pub then_one : {d : Decoder A} {t : Term} {ts : Terms} {a : A} {v : B} (k : A → Fields B) → Gives d t a → Holds (k a) ts v → Holds (one d k) (cons t ts) v
  unfolding one
  then_one {d} {t} {ts} {a} {v} k g h = record { is = ap (λ (m : Option A). and_then m (λ a. k a ts)) g.is ∙ h.is }

  pub by-maps : {d : Decoder A} {t : Term} {a : A} (f : A → B) → Gives d t a → Gives (maps f d) t (f a)
  unfolding maps
  by-maps {d} {t} {a} f g = record { is = ap (λ (m : Option A). and_then m (λ a. some (f a))) g.is }

  pub no-maps : {d : Decoder A} {t : Term} (f : A → B) → Denies d t → Denies (maps f d) t
  unfolding maps
  no-maps {d} {t} f n = record { is = ap (λ (m : Option A). and_then m (λ a. some (f a))) n.is }

-- () for no value, and another term for one
module _ {A B : Type 0} where
  pub is_vacant : {b : B} (f : A → B) (d : Decoder A) → Gives (optionally b f d) (list nil) b
  unfolding optionally
  is_vacant {b} f d = first_of _ (by-maps (λ _. b) (in_list at-end))

  pub is-filled : {d : Decoder A} {t : Term} {a : A} (b : B) (f : A → B) → Denies empty_list t → Gives d t a → Gives (optionally b f d) t (f a)
  unfolding optionally
  is-filled b f n g = second_of _ (no-maps (λ _. b) n) (by-maps f g)

-- a term that may be absent: it is there; it is not, and the next is another; it is not, and there is no next
module _ {A B C : Type 0} where
  pub is-there : {d : Decoder A} {t : Term} {ts : Terms} {a : A} {v : C} (b : B) (f : A → B) (k : B → Fields C)
      → Gives d t a → Holds (k (f a)) ts v → Holds (perhaps b f d k) (cons t ts) v
  unfolding perhaps
  is-there b f k g h = record { is = rw g.is h.is }

  pub is-other : {d : Decoder A} {t : Term} {ts : Terms} {v : C} (b : B) (f : A → B) (k : B → Fields C)
      → Denies d t → Holds (k b) (cons t ts) v → Holds (perhaps b f d k) (cons t ts) v
  unfolding perhaps
  is-other b f k n h = record { is = rw n.is h.is }

  pub is_last : {v : C} (b : B) (f : A → B) (d : Decoder A) (k : B → Fields C) → Holds (k b) nil v → Holds (perhaps b f d k) nil v
  unfolding perhaps
  is_last b f d k h = record { is = h.is }

pub same_self : (w : List ℕ) → same w w ≡ true
unfolding same
same_self [] = refl
same_self (a ∷ w) = simp (eq-eqb a a refl) (same_self w)

pub is_word : (w : List ℕ) → Gives (word w) (atom w) tt
unfolding word atom_of
is_word w = record { is = simp (same_self w) }

pub is-means : {A : Type 0} (w : List ℕ) (v : A) → Gives (means w v) (atom w) v
unfolding means
is-means w v = by-maps (λ _. v) (is_word w)

pub no_word : (w u : List ℕ) → same w u ≡ false → Denies (word w) (atom u)
unfolding word atom_of
no_word w u e = record { is = simp e }

pub no-means : {A : Type 0} (w u : List ℕ) (v : A) → same w u ≡ false → Denies (means w v) (atom u)
unfolding means
no-means w u v e = no-maps (λ _. v) (no_word w u e)

-- a list does not begin with the word w
pub no_begin : {A : Type 0} (w u : List ℕ) (ts : Terms) (k : Unit {0} → Fields A) → same w u ≡ false → Denies (inside (one (word w) k)) (list (cons (atom u) ts))
unfolding inside one word atom_of
no_begin w u ts k e = record { is = simp e }

pub is_number : (lo hi n : ℕ) → lo ≤ n → n ≤ hi → Gives (numeral lo hi) (number_term n) n
unfolding numeral atom_of number_term run
is_number lo hi n l h =
    let read_all : number (decimal n) ≡ got n [] = ap number (sym (append-nil (decimal n))) ∙ number_complete n [] (λ v. refl) in
    record { is = ap (λ (m : Got ℕ). and_then (all_read m) (between lo hi)) read_all ∙ simp (le-leb lo n l, le-leb n hi h) }

pub no_number : (lo hi : ℕ) (ts : Terms) → Denies (numeral lo hi) (list ts)
unfolding numeral atom_of
no_number lo hi ts = record { is = refl }

pub is-labelled : (w : List ℕ) (lo hi n : ℕ) → lo ≤ n → n ≤ hi → Gives (labelled_of w lo hi) (labelled w n) n
unfolding labelled labelled_of
is-labelled w lo hi n l h = in_list (then_one _ (is_word w) (then_one _ (is_number lo hi n l h) at-end))

pub is_optional : (hi n : ℕ) → n ≤ hi → Gives (optional_of hi) (optional_term n) n
unfolding optional_of optional_term number_term
is_optional hi n h = go (eqb n 0) refl
  where
    of : Decoder ℕ
    of = optionally 0 (λ n. n) (numeral 1 hi)

    go : (c : Bool) → eqb n 0 ≡ c → Gives of (cond c (list nil) (number_term n)) n
    go true e = subst (λ (m : ℕ). Gives of (list nil) m) (sym (eqb-true n 0 e)) (is_vacant _ _)
    go false e = let ne : n ≡ 0 → ⊥ = eqb-false n 0 e in is-filled _ _ (no-list _ _) (is_number 1 hi n (omega arith) h)

-- each of the values is read back
pub all_back : {A : Type 0} {P : A → Type 0} (d : Decoder A) (f : A → Term) → ((a : A) → P a → Gives d (f a) a)
    → (n : ℕ) (xs : List A) → length xs ≤ n → All P xs → Holds (up_to n d) (each f xs) xs
unfolding up_to each
all_back d f g zero [] h ps = record { is = refl }
all_back d f g (suc n) [] h ps = record { is = refl }
all_back d f g zero (a ∷ xs) h ps = absurd (omega arith)
all_back d f g (suc n) (a ∷ xs) h ps = record { is = rw ((g a ps.0).is, (all_back d f g n xs (omega arith) ps.1).is) }
