-- What goes out, as a whole: counted, and then written into the part of the buffer that it fills.
--     counted · counts                                           a run over a slice of no use gives the length, and the length is such a run
--     wrote_none · wrote-some                                    a step without a message, and one with
--     wrote-same                                                 any two results that are allowed are the same
--     never-refused                                              4,096 bytes are room for every event
use mathlib.Core.Path.{◌≡◌, refl, sym, ◌∙◌}
use mathlib.Core.Bool.{true}
use mathlib.Core.List.{List, []}
use Rattle.std.specs.Prelude.{Option, None as none, Some as some}
use Prim.Native.Nat.{ℕ, ◌+◌, ◌≤◌, ◌<◌}
use native.Mathlib.Omega.{arith}
use lib.ListN.{length}
use lib.Dec.{leb}
use borrow.Author.Tests.{le-leb}
use Rattle.csexp.specs.Term.{write}
use Rattle.csexp.specs.Sent.{Written}
use Rattle.std.specs.Prelude.{Some as Bytes}
use Rattle.csexp.specs.Puts.{Puts}
use Rattle.csexp.proofs.write.Over.{puts_next, puts_nowhere}
use Rattle.csexp.specs.Sent.{Sent}
use Rattle.shapes.specs.Events.{Message, resolve, unsealed, sealed, event_of, event_text}
use Rattle.writing.specs.Wrote.{Long, Wrote}

pub counted : {m : Option Message} {s s₂ : List ℕ} {n : ℕ} → length (event_text m) ≤ 4096 → Puts (event_text m) s 0 s₂ n → Long m n
counted h u = let e = puts_next u (omega arith) in record { is = omega arith; short = omega arith }

pub counts : {m : Option Message} {n : ℕ} → Long m n → Puts (event_text m) [] 0 [] n
counts l = puts_nowhere l.is (let b = l.short in omega arith)

-- an event has at least one byte
some_bytes : (m : Message) → 0 < length (write (event_of m))
unfolding write event_of
some_bytes (resolve h n) = omega arith
some_bytes (unsealed a q) = omega arith
some_bytes (sealed a k q) = omega arith

pub wrote_none : (m : Option Message) (s : List ℕ) (place : ℕ) {n : ℕ} → Long m n → n ≡ 0 → Wrote m s place s (Bytes 0)
wrote_none none s place l e = record { says = refl; leaves = refl; short = omega arith }
wrote_none (some m) s place l e = absurd (omega (arith, l.is, some_bytes m))

pub wrote-some : (m : Option Message) {s s₂ : List ℕ} {place n : ℕ} {r : Written} → Long m n → (n ≡ 0 → ⊥)
    → Sent (event_text m) s place s₂ r → Wrote m s place s₂ r
wrote-some none l e w = absurd (e l.is)
wrote-some (some m) l e w = record { says = w.says; leaves = w.leaves; short = let a = l.is in let b = l.short in omega arith }

pub wrote-same : {m : Option Message} {s s₂ s₃ : List ℕ} {place : ℕ} {r q : Written} → Wrote m s place s₂ r → Wrote m s place s₃ q → (r ≡ q) × (s₂ ≡ s₃)
wrote-same u v = (u.says ∙ sym v.says, u.leaves ∙ sym v.leaves)

pub never-refused : (m : Option Message) {s s₂ : List ℕ} {place : ℕ} {r : Written} → Wrote m s place s₂ r → place + 4096 ≤ length s → r ≡ Bytes (length (event_text m))
never-refused none w h = w.says
never-refused (some m) {s} {s₂} {place} w h =
    let b = w.short in
    let fits : leb (place + length (write (event_of m))) (length s) ≡ true = le-leb (place + length (write (event_of m))) (length s) (omega arith) in
    w.says ∙ simp fits
