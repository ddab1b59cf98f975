-- Terms within a number of levels, at positions: what the cycle of `one_term` and `more_terms` goes by.
use mathlib.Core.Path.{◌≡◌, refl, sym, ap, ap₂, ◌∙◌}
use mathlib.Core.Bool.{Bool, true, false, cond}
use mathlib.Core.List.{List}
use Rattle.std.specs.Prelude.{Option, None as none, Some as some, option_map, option_and_then}
use Rattle.std.specs.Option.{option_or}
use Prim.Native.Nat.{ℕ, zero, suc, ◌-◌, max}
use native.Mathlib.Omega.{arith}
use lib.ListN.{drop}
use lib.Dec.{leb, eqb, leb-zero, leb-suc-zero, leb-suc-suc}
use borrow.Author.Tests.{leb-true, leb-false, le-leb, lt-leb, ne_eqb}
use Rattle.sorted.proofs.Never.{never}
use Rattle.csexp.specs.Term.{Term, atom, list, Terms, nil, cons, levels, levels_in}
use Rattle.csexp.specs.Read.{Got, no, got, number, mark, string}
use Rattle.csexp.specs.declared.At.{At}
use Rattle.csexp.specs.At.{ends, place, behind, term_at, string_at, mark_at}
use Rattle.csexp.specs.Decode.{Decoder, and_then, inside, one, either, atom_of}
use Rattle.csexp.specs.Answers.{found, decode, value_at, fields_at}
use Rattle.csexp.specs.Limits.{shallow, shallows}
use Rattle.csexp.proofs.Terms.{mark_sound}
use Rattle.csexp.proofs.Places.{at_many}
use Rattle.csexp.proofs.Atoms.{atom_read}
use Rattle.csexp.proofs.Steps.{opened, passed, chosen, forward}
use Rattle.csexp.proofs.Leaves.{mark_is}

-- two decoders that say the same of every term
alike : {A : Type 0} (s : List ℕ) (at : ℕ) (d e : Decoder A) → ((t : Term) → d t ≡ e t) → value_at d s at ≡ value_at e s at
unfolding value_at
alike {A} s at d e h = go (term_at s at)
  where
    go : (m : Option (At Term)) → decode d m ≡ decode e m
    go none = refl
    go (some t) = ap (λ (x : Option A). found x t.next) (h t.value)

abbrev any : List ℕ → Option (Unit {0})
any bs = some tt

shallow-none : (t : Term) → shallow 0 t ≡ atom_of any t
unfolding atom_of shallow levels
shallow-none (atom bs) = refl
shallow-none (list ts) = ap (λ (b : Bool). cond b (some tt) none) (leb-suc-zero (levels_in ts))

shallow-more : (n : ℕ) (t : Term) → shallow (suc n) t ≡ either (atom_of any) (inside (shallows n)) t
unfolding atom_of shallow shallows levels either inside
shallow-more n (atom bs) = ap (λ (b : Bool). cond b (some tt) none) (leb-zero (suc n))
shallow-more n (list ts) = ap (λ (b : Bool). cond b (some tt) none) (leb-suc-suc (levels_in ts) n)

-- what stands at a position, where a '(' does or does not
abbrev opens : List ℕ → ℕ → ℕ → Option ℕ → Option ℕ
opens s at n none = behind (string_at s at)
opens s at n (some a) = cond (eqb n 0) none (behind (fields_at (shallows (n - 1)) s a))

module _ (s : List ℕ) (at : ℕ) where
  -- a '(' is no atom
  no-atom : (a : ℕ) → mark_at 40 s at ≡ some a → string_at s at ≡ none
  unfolding mark_at mark string_at string number
  no-atom a e = go (mark 40 (drop at s)) refl e
    where
      go : (x : Got (Unit {0})) → mark 40 (drop at s) ≡ x → behind (place s x) ≡ some a → place s (string (drop at s)) ≡ none
      go no e q = never (cc)
      go (got y r) e q = ap (λ (l : List ℕ). place s (string l)) (mark_sound 40 (drop at s) e)

  -- an atom, whatever its bytes are
  abbrev atoms : Option (At (List ℕ)) → Option (At (Unit {0}))
  atoms m = option_and_then (λ a. found (some tt) a.next) m

  atoms-end : (m : Option (At (List ℕ))) → behind (atoms m) ≡ behind m
  atoms-end none = refl
  atoms-end (some a) = refl

  pub term_is : (n : ℕ) → behind (value_at (shallow n) s at) ≡ opens s at n (mark_at 40 s at)
  term_is zero = ap behind (alike s at (shallow 0) (atom_of any) shallow-none ∙ atom_read s at any) ∙ atoms-end (string_at s at) ∙ go (mark_at 40 s at) refl
    where
      go : (m : Option ℕ) → mark_at 40 s at ≡ m → behind (string_at s at) ≡ opens s at 0 m
      go none e = refl
      go (some a) e = ap behind (no-atom a e)
  term_is (suc n) =
      ap behind
      (alike s at (shallow (suc n)) (either (atom_of any) (inside (shallows n))) (shallow-more n)
      ∙ chosen s at (atom_of any) (inside (shallows n))
      ∙ ap₂ option_or (atom_read s at any) (opened s at (shallows n)))
      ∙ go (mark_at 40 s at) refl
    where
      alone : (m : Option (At (List ℕ))) → behind (option_or (atoms m) none) ≡ behind m
      alone none = refl
      alone (some a) = refl

      go : (m : Option ℕ) → mark_at 40 s at ≡ m
          → behind (option_or (atoms (string_at s at)) (option_and_then (λ p. fields_at (shallows n) s p) m)) ≡ opens s at (suc n) m
      go none e = alone (string_at s at)
      go (some a) e =
          ap (λ (m : Option (At (List ℕ))). behind (option_or (atoms m) (fields_at (shallows n) s a))) (no-atom a e)
          ∙ sym (simp (ne_eqb (suc n) 0 (λ q. omega arith)) (ap (λ (k : ℕ). behind (fields_at (shallows k) s a)) (omega arith)))

  -- a turn of `more_terms`

  both : (n : ℕ) (t : Term) (ts : Terms) → shallows n (cons t ts) ≡ one (shallow n) (λ _. shallows n) (cons t ts)
  unfolding shallow shallows levels one
  both n t ts = go (leb (levels t) n) refl (leb (levels_in ts) n) refl
    where
      go : (a : Bool) → leb (levels t) n ≡ a → (b : Bool) → leb (levels_in ts) n ≡ b
          → cond (leb (max (levels t) (levels_in ts)) n) (some (tt {0})) none ≡ and_then (cond a (some (tt {0})) none) (λ (_ : Unit {0}). cond b (some (tt {0})) none)
      go true e true f =
          let x = leb-true (levels t) n e in let y = leb-true (levels_in ts) n f in
          ap (λ (c : Bool). cond c (some (tt {0})) none) (le-leb (max (levels t) (levels_in ts)) n (omega arith))
      go true e false f =
          let y = leb-false (levels_in ts) n f in
          ap (λ (c : Bool). cond c (some (tt {0})) none) (lt-leb (max (levels t) (levels_in ts)) n (omega arith))
      go false e b f =
          let y = leb-false (levels t) n e in
          ap (λ (c : Bool). cond c (some (tt {0})) none) (lt-leb (max (levels t) (levels_in ts)) n (omega arith))

  none-shallow : (n : ℕ) → shallows n nil ≡ some tt
  unfolding shallows levels
  none-shallow n = ap (λ (c : Bool). cond c (some tt) none) (leb-zero n)

  no_one : (n : ℕ) → one (shallow n) (λ _. shallows n) nil ≡ none
  unfolding one
  no_one n = refl

  -- a ')', or one term and the others
  turn : (n : ℕ)
      → fields_at (shallows n) s at
      ≡ option_or (option_map (λ p. ends (tt {0}) p) (mark_at 41 s at)) (fields_at (one (shallow n) (λ _. shallows n)) s at)
  unfolding fields_at
  turn n = at_many s at (shallows n) (one (shallow n) (λ _. shallows n)) tt (none-shallow n) (no_one n) (both n)

  pub terms_are : (n : ℕ)
      → behind (fields_at (shallows n) s at)
      ≡ option_or (mark_at 41 s at) (option_and_then (λ p. behind (fields_at (shallows n) s p)) (behind (value_at (shallow n) s at)))
  terms_are n = ap behind (turn n ∙ ap (option_or (option_map (λ p. ends (tt {0}) p) (mark_at 41 s at))) (passed s at (shallow n) (λ _. shallows n))) ∙ go (mark_at 41 s at) (value_at (shallow n) s at)
    where
      go : (e : Option ℕ) (m : Option (At (Unit {0})))
          → behind (option_or (option_map (λ p. ends (tt {0}) p) e) (option_and_then (λ a. fields_at (shallows n) s a.next) m))
          ≡ option_or e (option_and_then (λ p. behind (fields_at (shallows n) s p)) (behind m))
      go none none = refl
      go none (some a) = refl
      go (some p) none = refl
      go (some p) (some a) = refl

-- what `one_term` goes by, and what `more_terms` does
pub ruleset one_term = (term_is, mark_is)

pub ruleset more_terms = (terms_are, forward)
