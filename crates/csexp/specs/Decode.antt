-- How a value is read off a term: a decoder is a function from terms to a value or nothing, put together from these.
--     inside · one · end · perhaps · up_to              a list and its fields
--     either · maps · optionally                       one of two, a value made of a value, () or a value
--     word · means · numeral · atom_of                  atoms
--     empty_list · optional_of · labelled_of              (), () or a number, (3:dns2:32)
use Rattle.std.specs.Prelude.{Bool, true, false, cond, List, [], ◌∷◌, ℕ, zero, suc, eqb, leb}
use Rattle.std.specs.Prelude.{Option, None as none, Some as some}
use Rattle.csexp.specs.Term.{Term, atom, list, Terms, nil, cons}
use Rattle.csexp.specs.Read.{Got, no, got, number}

abbrev pub Decoder : Type 0 → Type 0
Decoder A = Term → Option A

-- of the terms of a list, all of them
abbrev pub Fields : Type 0 → Type 0
Fields A = Terms → Option A

abbrev pub and_then : {A B : Type 0} → Option A → (A → Option B) → Option B
and_then none k = none
and_then (some a) k = k a

-- a list with these fields
unfoldable pub inside : {A : Type 0} → Fields A → Decoder A
inside f (atom bs) = none
inside f (list ts) = f ts

-- one term, and then the others
unfoldable pub one : {A B : Type 0} → Decoder A → (A → Fields B) → Fields B
one d k nil = none
one d k (cons t ts) = and_then (d t) (λ a. k a ts)

-- no more terms
unfoldable pub end : {A : Type 0} → A → Fields A
end a nil = some a
end a (cons t ts) = none

-- at most n terms, each read in the same way
unfoldable pub up_to : {A : Type 0} → ℕ → Decoder A → Fields (List A)
up_to n d nil = some []
up_to zero d (cons t ts) = none
up_to (suc n) d (cons t ts) = and_then (d t) (λ a. and_then (up_to n d ts) (λ more. some (a ∷ more)))

-- a term that may be absent, and then the others: b stands for its absence
abbrev pub or_else : {A B : Type 0} → Option A → (A → B) → B → B
or_else none f b = b
or_else (some a) f b = f a

unfoldable pub perhaps : {A B C : Type 0} → B → (A → B) → Decoder A → (B → Fields C) → Fields C
perhaps b f d k nil = k b nil
perhaps b f d k (cons t ts) = or_else (d t) (λ a. k (f a) ts) (k b (cons t ts))

-- an atom, whose bytes are read so
unfoldable pub atom_of : {A : Type 0} → (List ℕ → Option A) → Decoder A
atom_of f (atom bs) = f bs
atom_of f (list ts) = none

-- the first of the two that finds something
abbrev pub first : {A : Type 0} → Option A → Option A → Option A
first none m = m
first (some a) m = some a

unfoldable pub either : {A : Type 0} → Decoder A → Decoder A → Decoder A
either d e t = first (d t) (e t)

-- a value made of a value
unfoldable pub maps : {A B : Type 0} → (A → B) → Decoder A → Decoder B
maps f d t = and_then (d t) (λ a. some (f a))

-- the bytes are these
unfoldable pub same : List ℕ → List ℕ → Bool
same [] [] = true
same [] (b ∷ bs) = false
same (a ∷ u) [] = false
same (a ∷ u) (b ∷ bs) = cond (eqb a b) (same u bs) false

-- the atom whose bytes are w
unfoldable pub word : List ℕ → Decoder (Unit {0})
word w = atom_of (λ bs. cond (same w bs) (some tt) none)

-- the word w, which stands for the value v
unfoldable pub means : {A : Type 0} → List ℕ → A → Decoder A
means w v = maps (λ _. v) (word w)

-- the number that was read, if nothing is left
abbrev pub all_read : Got ℕ → Option ℕ
all_read no = none
all_read (got n []) = some n
all_read (got n (b ∷ bs)) = none

abbrev pub between : ℕ → ℕ → ℕ → Option ℕ
between lo hi n = cond (leb lo n) (cond (leb n hi) (some n) none) none

-- an atom whose bytes are a decimal number from lo to hi
unfoldable pub numeral : ℕ → ℕ → Decoder ℕ
numeral lo hi = atom_of (λ bs. and_then (all_read (number bs)) (between lo hi))

-- the list with nothing in it
abbrev pub empty_list : Decoder (Unit {0})
empty_list = inside (end tt)

-- () stands for the value b, and any other term is read by d
unfoldable pub optionally : {A B : Type 0} → B → (A → B) → Decoder A → Decoder B
optionally b f d = either (maps (λ _. b) empty_list) (maps f d)

-- () for 0, else a number from 1 to hi
unfoldable pub optional_of : ℕ → Decoder ℕ
optional_of hi = optionally 0 (λ n. n) (numeral 1 hi)

-- a labelled number, as (3:dns2:32)
unfoldable pub labelled_of : List ℕ → ℕ → ℕ → Decoder ℕ
labelled_of w lo hi = inside (one (word w) λ _. one (numeral lo hi) λ n. end n)
