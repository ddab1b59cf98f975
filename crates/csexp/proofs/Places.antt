-- How decoding goes at positions: a list is '(' and its fields, a field is a term and then the others, the end is ')'.
use mathlib.Core.Path.{◌≡◌, refl, sym, ap, ◌∙◌}
use mathlib.Core.Bool.{Bool, true, false, cond}
use mathlib.Core.List.{List, [], ◌∷◌, ◌++◌}
use Rattle.std.specs.Prelude.{Option, None as none, Some as some, option_map, option_and_then}
use Prim.Native.Nat.{ℕ, suc, ◌+◌, ◌-◌, ◌<◌}
use native.Mathlib.Omega.{arith}
use lib.ListN.{length, drop, length-append, length-drop}
use lib.Seq.{drop-drop, drop-append_seam}
use lib.Dec.{eqb}
use borrow.Author.Tests.{eqb-true}
use Rattle.csexp.specs.Term.{Term, atom, list, Terms, nil, cons, write}
use Rattle.csexp.specs.Read.{Got, no, got, then, number, mark, string, term, read, reads}
use Rattle.csexp.specs.declared.At.{At}
use Rattle.csexp.specs.At.{ends, place, behind, term_at, terms_at, string_at, mark_at}
use Rattle.csexp.specs.Decode.{Decoder, Fields, and_then, inside, one, end, up_to, or_else, perhaps, atom_of}
use Rattle.std.specs.Option.{option_or}
use Rattle.csexp.specs.Answers.{found, decode, tried_at}
use Rattle.csexp.proofs.Terms.{read_sound, write-long, read_step, reads-step}

-- What is left of the text stands behind the position.
pub left : (s : List ℕ) (at : ℕ) (w r : List ℕ) → drop at s ≡ w ++ r → 0 < length w → drop (length s - length r) s ≡ r
left s at w r e h =
    let counted : length s - at ≡ length w + length r = sym (length-drop at s) ∙ ap length e ∙ length-append w r in
    let there : length s - length r ≡ at + length w = omega arith in
    ap (λ (n : ℕ). drop n s) there ∙ sym (drop-drop (length w) at s) ∙ ap (drop (length w)) e ∙ drop-append_seam w r

pub read_left : (s : List ℕ) (at : ℕ) {t : Term} {r : List ℕ} → read (drop at s) ≡ got t r → drop (length s - length r) s ≡ r
read_left s at {t} {r} e = left s at (write t) r (read_sound (drop at s) e) (write-long t)

one_left : (s : List ℕ) (at b : ℕ) (r : List ℕ) → drop at s ≡ b ∷ r → drop (length s - length r) s ≡ r
one_left s at b r e = left s at (b ∷ []) r e (omega arith)

read-close : (r : List ℕ) → read (41 ∷ r) ≡ no
unfolding string number
read-close r = read_step 41 r

abbrev bind : {A B : Type 0} → Option (At A) → (A → ℕ → Option (At B)) → Option (At B)
bind m k = option_and_then (λ a. k a.value a.next) m

module _ {A : Type 0} (s : List ℕ) (at : ℕ) where
  pub at-inside : (f : Fields A) → decode (inside f) (term_at s at) ≡ option_and_then (λ p. decode f (terms_at s p)) (mark_at 40 s at)
  unfolding term_at terms_at mark_at mark read term inside
  at-inside f = go (drop at s) refl
    where
      lists : (m : Got Terms) → decode (inside f) (place s (then m (λ ts r. got (list ts) r))) ≡ decode f (place s m)
      lists no = refl
      lists (got ts r) = refl

      atoms : (m : Got (List ℕ)) → decode (inside f) (place s (then m (λ bs r. got (atom bs) r))) ≡ none
      atoms no = refl
      atoms (got bs r) = refl

      go : (x : List ℕ) → drop at s ≡ x → decode (inside f) (place s (read x)) ≡ option_and_then (λ p. decode f (place s (reads (drop p s)))) (behind (place s (mark 40 x)))
      go [] e = refl
      go (b ∷ r) e = ap (λ (m : Got Term). decode (inside f) (place s m)) (read_step b r) ∙ by (eqb b 40)
        where
          by : (c : Bool)
              → decode (inside f) (place s (cond c (then (reads r) (λ ts r₁. got (list ts) r₁)) (then (string (b ∷ r)) (λ bs r₁. got (atom bs) r₁))))
              ≡ option_and_then (λ p. decode f (place s (reads (drop p s)))) (behind (place s (cond c (got (tt {0}) r) no)))
          by true = lists (reads r) ∙ ap (λ (l : List ℕ). decode f (place s (reads l))) (sym (one_left s at b r e))
          by false = atoms (string (b ∷ r))

  pub at-end : (v : A) → decode (end v) (terms_at s at) ≡ option_map (λ p. ends v p) (mark_at 41 s at)
  unfolding terms_at mark_at mark reads term end
  at-end v = go (drop at s)
    where
      ones : (t : Term) (n : Got Terms) → decode (end v) (place s (then n (λ ts r. got (cons t ts) r))) ≡ none
      ones t no = refl
      ones t (got ts r) = refl

      more : (m : Got Term) → decode (end v) (place s (then m (λ t r. then (reads r) (λ us r₂. got (cons t us) r₂)))) ≡ none
      more no = refl
      more (got t r) = ones t (reads r)

      go : (x : List ℕ) → decode (end v) (place s (reads x)) ≡ option_map (λ p. ends v p) (behind (place s (mark 41 x)))
      go [] = refl
      go (b ∷ r) = ap (λ (m : Got Terms). decode (end v) (place s m)) (reads-step b r) ∙ by (eqb b 41)
        where
          by : (c : Bool)
              → decode (end v) (place s (cond c (got nil r) (then (read (b ∷ r)) (λ t r₁. then (reads r₁) (λ us r₂. got (cons t us) r₂)))))
              ≡ option_map (λ p. ends v p) (behind (place s (cond c (got (tt {0}) r) no)))
          by true = refl
          by false = more (read (b ∷ r))

  pub at-atom : (f : List ℕ → Option A) → decode (atom_of f) (term_at s at) ≡ decode f (string_at s at)
  unfolding term_at string_at read term atom_of string number
  at-atom f = go (drop at s)
    where
      lists : (m : Got Terms) → decode (atom_of f) (place s (then m (λ ts r. got (list ts) r))) ≡ none
      lists no = refl
      lists (got ts r) = refl

      atoms : (m : Got (List ℕ)) → decode (atom_of f) (place s (then m (λ bs r. got (atom bs) r))) ≡ decode f (place s m)
      atoms no = refl
      atoms (got bs r) = refl

      go : (x : List ℕ) → decode (atom_of f) (place s (read x)) ≡ decode f (place s (string x))
      go [] = refl
      go (b ∷ r) = ap (λ (m : Got Term). decode (atom_of f) (place s m)) (read_step b r) ∙ by (eqb b 40) refl
        where
          by : (c : Bool) → eqb b 40 ≡ c
              → decode (atom_of f) (place s (cond c (then (reads r) (λ ts r₁. got (list ts) r₁)) (then (string (b ∷ r)) (λ bs r₁. got (atom bs) r₁))))
              ≡ decode f (place s (string (b ∷ r)))
          by true h = lists (reads r) ∙ ap (λ (x : ℕ). decode f (place s (string (x ∷ r)))) (sym (eqb-true b 40 h))
          by false h = atoms (string (b ∷ r))

module _ {A B : Type 0} (s : List ℕ) (at : ℕ) where
  pub at_one : (d : Decoder A) (k : A → Fields B)
      → decode (one d k) (terms_at s at) ≡ bind (decode d (term_at s at)) (λ a p. decode (k a) (terms_at s p))
  unfolding term_at terms_at read reads term one
  at_one d k = go (drop at s) refl
    where
      rest : A → ℕ → Option (At B)
      rest a p = decode (k a) (place s (reads (drop p s)))

      -- the term t was read, and m says what stands behind it
      ones : (t : Term) (x : Option A) (m : Got Terms) → d t ≡ x → decode (one d k) (place s (then m (λ ts r. got (cons t ts) r))) ≡ bind (found x 0) (λ a _. decode (k a) (place s m))
      ones t none no e = refl
      ones t (some a) no e = refl
      ones t none (got ts r) e = ap (λ (y : Option A). found (and_then y (λ a. k a ts)) (length s - length r)) e
      ones t (some a) (got ts r) e = ap (λ (y : Option A). found (and_then y (λ a. k a ts)) (length s - length r)) e

      places : (x : Option A) (r : List ℕ) → drop (length s - length r) s ≡ r → bind (found x 0) (λ a _. decode (k a) (place s (reads r))) ≡ bind (found x (length s - length r)) rest
      places none r e = refl
      places (some a) r e = ap (λ (l : List ℕ). decode (k a) (place s (reads l))) (sym e)

      more : (m : Got Term) → ((t : Term) (r : List ℕ) → m ≡ got t r → drop (length s - length r) s ≡ r)
          → decode (one d k) (place s (then m (λ t r. then (reads r) (λ us r₂. got (cons t us) r₂)))) ≡ bind (decode d (place s m)) rest
      more no h = refl
      more (got t r) h = ones t (d t) (reads r) refl ∙ places (d t) r (h t r refl)

      go : (x : List ℕ) → drop at s ≡ x → decode (one d k) (place s (reads x)) ≡ bind (decode d (place s (read x))) rest
      go [] e = refl
      go (b ∷ r) e = ap (λ (m : Got Terms). decode (one d k) (place s m)) (reads-step b r) ∙ by (eqb b 41) refl
        where
          by : (c : Bool) → eqb b 41 ≡ c
              → decode (one d k) (place s (cond c (got nil r) (then (read (b ∷ r)) (λ t r₁. then (reads r₁) (λ us r₂. got (cons t us) r₂)))))
              ≡ bind (decode d (place s (read (b ∷ r)))) rest
          by true h = ap (λ (m : Got Term). bind (decode d (place s m)) rest) (sym (ap (λ (x : ℕ). read (x ∷ r)) (eqb-true b 41 h) ∙ read-close r))
          by false h = more (read (b ∷ r)) (λ t r₁ q. read_left s at (ap read e ∙ q))

module _ {A : Type 0} (s : List ℕ) (at : ℕ) where
  -- fields that may end, or go on as g says
  pub at_many : (f g : Fields A) (v : A) → f nil ≡ some v → g nil ≡ none → ((t : Term) (ts : Terms) → f (cons t ts) ≡ g (cons t ts))
      → decode f (terms_at s at) ≡ option_or (option_map (λ p. ends v p) (mark_at 41 s at)) (decode g (terms_at s at))
  unfolding terms_at mark_at mark reads term
  at_many f g v fn gn fc = go (drop at s)
    where
      ones : (t : Term) (m : Got Terms) → decode f (place s (then m (λ ts r. got (cons t ts) r))) ≡ decode g (place s (then m (λ ts r. got (cons t ts) r)))
      ones t no = refl
      ones t (got ts r) = ap (λ (x : Option A). found x (length s - length r)) (fc t ts)

      more : (m : Got Term) → decode f (place s (then m (λ t r. then (reads r) (λ us r₂. got (cons t us) r₂)))) ≡ decode g (place s (then m (λ t r. then (reads r) (λ us r₂. got (cons t us) r₂))))
      more no = refl
      more (got t r) = ones t (reads r)

      go : (x : List ℕ) → decode f (place s (reads x)) ≡ option_or (option_map (λ p. ends v p) (behind (place s (mark 41 x)))) (decode g (place s (reads x)))
      go [] = refl
      go (b ∷ r) = rw (reads-step b r) (by (eqb b 41))
        where
          by : (c : Bool)
              → decode f (place s (cond c (got nil r) (then (read (b ∷ r)) (λ t r₁. then (reads r₁) (λ us r₂. got (cons t us) r₂)))))
              ≡ option_or (option_map (λ p. ends v p) (behind (place s (cond c (got (tt {0}) r) no)))) (decode g (place s (cond c (got nil r) (then (read (b ∷ r)) (λ t r₁. then (reads r₁) (λ us r₂. got (cons t us) r₂))))))
          by true = ap (λ (x : Option A). found x (length s - length r)) fn
          by false = more (read (b ∷ r))

module _ {A : Type 0} (s : List ℕ) (at : ℕ) where
  pub at-up-to : (n : ℕ) (d : Decoder A)
      → decode (up_to (suc n) d) (terms_at s at)
      ≡ option_or (option_map (λ p. ends [] p) (mark_at 41 s at)) (decode (one d (λ a ts. and_then (up_to n d ts) (λ more. some (a ∷ more)))) (terms_at s at))
  unfolding up_to one
  at-up-to n d = at_many s at (up_to (suc n) d) (one d (λ a ts. and_then (up_to n d ts) (λ more. some (a ∷ more)))) [] refl refl (λ t ts. refl)

  pub at_none : (d : Decoder A) → decode (up_to 0 d) (terms_at s at) ≡ decode (end []) (terms_at s at)
  unfolding up_to end
  at_none d = go (terms_at s at)
    where
      by : (ts : Terms) (p : ℕ) → decode (up_to 0 d) (some (ends ts p)) ≡ decode (end []) (some (ends ts p))
      by nil p = refl
      by (cons t ts) p = refl

      go : (m : Option (At Terms)) → decode (up_to 0 d) m ≡ decode (end []) m
      go none = refl
      go (some a) = by a.value a.next

module _ {A B C : Type 0} (s : List ℕ) (at : ℕ) where
  pub at-perhaps : (b : B) (f : A → B) (d : Decoder A) (k : B → Fields C)
      → decode (perhaps b f d k) (terms_at s at) ≡ (let v = tried_at b f at (decode d (term_at s at)) in decode (k v.value) (terms_at s v.next))
  unfolding term_at terms_at read reads term perhaps
  at-perhaps b f d k = go (drop at s) refl
    where
      rest : At B → Option (At C)
      rest v = decode (k v.value) (place s (reads (drop v.next s)))

      more_of : Got Term → Got Terms
      more_of m = then m (λ t r. then (reads r) (λ us r₂. got (cons t us) r₂))

      -- the term t was read, and m says what stands behind it
      ones : (t : Term) (x : Option A) (m : Got Terms) → d t ≡ x
          → decode (perhaps b f d k) (place s (then m (λ ts r. got (cons t ts) r)))
          ≡ or_else x (λ a. decode (k (f a)) (place s m)) (decode (k b) (place s (then m (λ ts r. got (cons t ts) r))))
      ones t none no e = refl
      ones t (some a) no e = refl
      ones t none (got ts r) e = ap (λ (y : Option A). found (or_else y (λ a. k (f a) ts) (k b (cons t ts))) (length s - length r)) e
      ones t (some a) (got ts r) e = ap (λ (y : Option A). found (or_else y (λ a. k (f a) ts) (k b (cons t ts))) (length s - length r)) e

      places : (x : Option A) (r : List ℕ) (m : Option (At C)) → drop (length s - length r) s ≡ r → rest (ends b at) ≡ m
          → or_else x (λ a. decode (k (f a)) (place s (reads r))) m ≡ rest (tried_at b f at (found x (length s - length r)))
      places none r m e q = sym q
      places (some a) r m e q = ap (λ (l : List ℕ). decode (k (f a)) (place s (reads l))) (sym e)

      more : (m : Got Term) → ((t : Term) (r : List ℕ) → m ≡ got t r → drop (length s - length r) s ≡ r) → rest (ends b at) ≡ decode (k b) (place s (more_of m))
          → decode (perhaps b f d k) (place s (more_of m)) ≡ rest (tried_at b f at (decode d (place s m)))
      more no h q = sym q
      more (got t r) h q = ones t (d t) (reads r) refl ∙ places (d t) r _ (h t r refl) q

      go : (x : List ℕ) → drop at s ≡ x → decode (perhaps b f d k) (place s (reads x)) ≡ rest (tried_at b f at (decode d (place s (read x))))
      go [] e = sym (ap (λ (l : List ℕ). decode (k b) (place s (reads l))) e)
      go (c ∷ r) e = ap (λ (m : Got Terms). decode (perhaps b f d k) (place s m)) (reads-step c r) ∙ by (eqb c 41) refl
        where
          here : rest (ends b at) ≡ decode (k b) (place s (cond (eqb c 41) (got nil r) (more_of (read (c ∷ r)))))
          here = ap (λ (l : List ℕ). decode (k b) (place s (reads l))) e ∙ ap (λ (m : Got Terms). decode (k b) (place s m)) (reads-step c r)

          by : (t : Bool) → eqb c 41 ≡ t
              → decode (perhaps b f d k) (place s (cond t (got nil r) (more_of (read (c ∷ r)))))
              ≡ rest (tried_at b f at (decode d (place s (read (c ∷ r)))))
          by true h =
              sym (ap (λ (m : Got Term). rest (tried_at b f at (decode d (place s m)))) (ap (λ (x : ℕ). read (x ∷ r)) (eqb-true c 41 h) ∙ read-close r)
              ∙ here ∙ ap (λ (t : Bool). decode (k b) (place s (cond t (got nil r) (more_of (read (c ∷ r)))))) h)
          by false h =
              more (read (c ∷ r)) (λ t r₁ q. read_left s at (ap read e ∙ q))
              (here ∙ ap (λ (t : Bool). decode (k b) (place s (cond t (got nil r) (more_of (read (c ∷ r)))))) h)
