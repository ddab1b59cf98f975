-- How a value is made a term: an encoder is a function from values to terms, put together from these. They mirror the decoders of csexp.
use Rattle.std.specs.Prelude.{cond, List, [], ◌∷◌, ℕ, eqb}
use Rattle.csexp.specs.Term.{Term, atom, list, Terms, nil, cons, decimal}

-- a decimal number
unfoldable pub number_term : ℕ → Term
number_term n = atom (decimal n)

-- () for 0, else the number
unfoldable pub optional_term : ℕ → Term
optional_term n = cond (eqb n 0) (list nil) (number_term n)

-- a term for each value
unfoldable pub each : {A : Type 0} → (A → Term) → List A → Terms
each f [] = nil
each f (a ∷ more) = cons (f a) (each f more)

-- a labelled number, as (3:dns2:32)
unfoldable pub labelled : List ℕ → ℕ → Term
labelled w n = list (cons (atom w) (cons (number_term n) nil))

-- the first terms, and then the second
unfoldable pub joins : Terms → Terms → Terms
joins nil us = us
joins (cons t ts) us = cons t (joins ts us)
