-- Reading: the first term of a text, and the text that is left.
use Rattle.std.specs.Prelude.{Bool, false, cond, List, [], ◌∷◌, ℕ, zero, suc, ◌+◌, ◌-◌, ◌*◌, length, take, drop, leb, eqb}
use Rattle.csexp.specs.Term.{Term, atom, list, Terms, nil, cons}

-- What reading finds: a value and the text left behind it, or nothing that is right.
pub data Got (A : Type 0) : Type 0 where
  no : Got A
  got : A → List ℕ → Got A

abbrev pub then : {A B : Type 0} → Got A → (A → List ℕ → Got B) → Got B
then no k = no
then (got a r) k = k a r

-- a digit: a byte from '0' to '9'
abbrev pub digit : ℕ → Bool
digit b = cond (leb 48 b) (leb b 57) false

-- v with the digits that the text begins with behind it
unfoldable pub run : ℕ → List ℕ → Got ℕ
run v [] = got v []
run v (b ∷ s) = let more = run (v * 10 + (b - 48)) s in cond (digit b) more (got v (b ∷ s))

-- a decimal number: 0, or digits that begin with no 0
unfoldable pub number : List ℕ → Got ℕ
number [] = no
number (b ∷ s) = cond (eqb b 48) (got 0 s) (cond (digit b) (run (b - 48) s) no)

-- what stands behind the byte b
unfoldable pub mark : ℕ → List ℕ → Got (Unit {0})
mark b [] = no
mark b (a ∷ s) = cond (eqb a b) (got tt s) no

-- the next n bytes
unfoldable pub bytes : ℕ → List ℕ → Got (List ℕ)
bytes n s = cond (leb n (length s)) (got (take n s) (drop n s)) no

-- an atom: its length, ':' and as many bytes
unfoldable pub string : List ℕ → Got (List ℕ)
string s = then (number s) (λ n r. then (mark 58 r) (λ _ r'. bytes n r'))

-- A term, and the terms up to a ')'. The first argument bounds how many calls there are, of which a text of k bytes has at most 2k.
unfoldable mutual
  pub term : ℕ → List ℕ → Got Term
  term zero s = no
  term (suc f) [] = no
  term (suc f) (b ∷ s) =
      let as-list = then (terms f s) (λ ts r. got (list ts) r) in
      let as-atom = then (string (b ∷ s)) (λ bs r. got (atom bs) r) in
      cond (eqb b 40) as-list as-atom

  pub terms : ℕ → List ℕ → Got Terms
  terms zero s = no
  terms (suc f) [] = no
  terms (suc f) (b ∷ s) =
      let more = then (term f (b ∷ s)) (λ t r. then (terms f r) (λ ts r'. got (cons t ts) r')) in
      cond (eqb b 41) (got nil s) more

unfoldable pub read : List ℕ → Got Term
read s = term (2 * length s) s

unfoldable pub reads : List ℕ → Got Terms
reads s = terms (2 * length s + 1) s
