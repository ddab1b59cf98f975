-- A list of fields read step by step, by what each reader said: for a reader at which the search stops at its limit.
use mathlib.Core.Path.{◌≡◌, refl, sym, ap, ◌∙◌}
use mathlib.Core.List.{List}
use Rattle.std.specs.Prelude.{Option, None as none, Some as some, option_map, option_and_then}
use Prim.Native.Nat.{ℕ}
use Rattle.sorted.proofs.Never.{never}
use Rattle.csexp.specs.declared.At.{At}
use Rattle.csexp.specs.At.{ends, behind}
use Rattle.csexp.specs.Decode.{Decoder, Fields, inside, one, end, perhaps, word}
use Rattle.csexp.specs.Answers.{value_at, fields_at, Reads, Passes, Marks, Tries}
use Rattle.csexp.proofs.Steps.{opened, passed, closed, tried}

module _ {A : Type 0} {s : List ℕ} where
  pub list-opened : (f : Fields A) {at p : ℕ} → Marks 40 s at (some p) → value_at (inside f) s at ≡ fields_at f s p
  list-opened f {at} m = opened s at f ∙ ap (option_and_then (λ p. fields_at f s p)) (sym m.exactly)

  pub field-passed : {B : Type 0} {d : Decoder B} (k : B → Fields A) {p : ℕ} {b : At B} → Reads d s p (some b) → fields_at (one d k) s p ≡ fields_at (k b.value) s b.next
  field-passed {d = d} k {p} r = passed s p d k ∙ ap (option_and_then (λ a. fields_at (k a.value) s a.next)) (sym r.exactly)

  pub field-missed : {B : Type 0} {d : Decoder B} (k : B → Fields A) {p : ℕ} → Reads d s p none → fields_at (one d k) s p ≡ none
  field-missed {d = d} k {p} r = passed s p d k ∙ ap (option_and_then (λ a. fields_at (k a.value) s a.next)) (sym r.exactly)

  pub word-passed : (w : List ℕ) (k : Unit {0} → Fields A) {p q : ℕ} → Passes (word w) s p (some q) → fields_at (one (word w) k) s p ≡ fields_at (k tt) s q
  word-passed w k {p} {q} r = passed s p (word w) k ∙ go (value_at (word w) s p) r.exactly
    where
      go : (m : Option (At (Unit {0}))) → some q ≡ behind m → option_and_then (λ a. fields_at (k a.value) s a.next) m ≡ fields_at (k tt) s q
      go none e = never (cc)
      go (some a) e = let h : q ≡ a.next = cc in ap (λ (n : ℕ). fields_at (k tt) s n) (sym h)

  pub word-missed : (w : List ℕ) (k : Unit {0} → Fields A) {p : ℕ} → Passes (word w) s p none → fields_at (one (word w) k) s p ≡ none
  word-missed w k {p} r = passed s p (word w) k ∙ go (value_at (word w) s p) r.exactly
    where
      go : (m : Option (At (Unit {0}))) → none ≡ behind m → option_and_then (λ a. fields_at (k a.value) s a.next) m ≡ none
      go none e = refl
      go (some a) e = never (cc)

  pub field-tried : {B C : Type 0} {b : C} {f : B → C} {d : Decoder B} (k : C → Fields A) {p : ℕ} {r : At C} → Tries b f d s p r → fields_at (perhaps b f d k) s p ≡ fields_at (k r.value) s r.next
  field-tried {b = b} {f} {d} k {p} t = tried s p b f d k ∙ ap (λ (v : At _). fields_at (k v.value) s v.next) (sym t.exactly)

  pub list-closed : {v : A} {p q : ℕ} → Marks 41 s p (some q) → fields_at (end v) s p ≡ some (ends v q)
  list-closed {v} {p} m = closed s p v ∙ ap (option_map (λ q. ends v q)) (sym m.exactly)

  pub list_open : (v : A) {p : ℕ} → Marks 41 s p none → fields_at (end v) s p ≡ none
  list_open v {p} m = closed s p v ∙ ap (option_map (λ q. ends v q)) (sym m.exactly)
