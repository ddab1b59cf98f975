-- The line of an item, by what its step told.
--     told-count · count-short        the bytes of an event, which have room
--     turned                          the browser behind the item, and its line
use mathlib.Core.Path.{◌≡◌, refl, sym, ap, subst, ◌∙◌}
use mathlib.Core.Bool.{Bool, cond}
use mathlib.Core.List.{List, [], ◌∷◌}
use Rattle.std.specs.Prelude.{None as none, Some as some, Ok, Err}
use Rattle.std.specs.Result.{result_unwrap_or}
use Prim.Native.Nat.{ℕ, ◌+◌, ◌≤◌, ◌<◌}
use native.Mathlib.Omega.{arith}
use borrow.Author.Tests.{le-leb, eq-eqb, ne_eqb}
use lib.ListN.{length}
use Rattle.csexp.specs.Term.{decimal, write}
use Rattle.csexp.proofs.Numbers.{decimal-small}
use Rattle.csexp.proofs.Terms.{write-long}
use Rattle.types.specs.declared.refusals.Missing.{Missing}
use Rattle.types.specs.declared.refusals.Missing.TheVariants.{NoWindow, NoDocument, NoQuestion, NoRequest, Mismatch}
use Rattle.types.specs.declared.refusals.Refusal.{Refusal}
use Rattle.types.specs.declared.refusals.Refusal.TheVariants.{BadText, BadShape, Lacking, Stopped as Forbidden, NotFresh, Full, NoRoom, Closed}
use Rattle.wim.specs.Step.{Verdict}
use Rattle.wim.specs.Step.{Accepted, Refused}
use Rattle.shapes.specs.Events.{Message, event_of}
use Rattle.shapes.specs.Texts.{Taken, unread, item, item_in}
use Rattle.wim.specs.Step.{missing_number, refusal_number, verdict_number, Browser, Result, declined, accepted}
use Rattle.wim.specs.Run.{event_line, line, line_of, performed, after}
use Rattle.wim.specs.Wire.{Returned, refusing, put_into, returning, rehearsing, rehearse}
use Rattle.browser.specs.View.{browser}
use Rattle.rehearsal.specs.Rehearses.{Rehearsed, verdict_of, count_of, saying, Short, Rehearses}
use Rattle.playing.specs.declared.looking.Halt.TheVariants.{Stopped}
use Rattle.playing.specs.Lines.{unwritten, line_bytes, last_line, Adds, Answered}
use Rattle.playing.specs.Turns.{Turns}
use Rattle.playing.proofs.Adding.{adds-into, adds_as, adds_then}

-- the numbers of refusals have one digit, and none is 0
record Digit (n : ℕ) : Type 0 where
  pub positive : 0 < n
  pub small : n ≤ 8

missing-digit : (m : Missing) → Digit (missing_number m)
missing-digit NoWindow = record { positive = omega arith; small = omega arith }
missing-digit NoDocument = record { positive = omega arith; small = omega arith }
missing-digit NoQuestion = record { positive = omega arith; small = omega arith }
missing-digit NoRequest = record { positive = omega arith; small = omega arith }
missing-digit Mismatch = record { positive = omega arith; small = omega arith }

refusal-digit : (why : Refusal) → Digit (refusal_number why)
refusal-digit BadText = record { positive = omega arith; small = omega arith }
refusal-digit BadShape = record { positive = omega arith; small = omega arith }
refusal-digit (Lacking m) = missing-digit m
refusal-digit Forbidden = record { positive = omega arith; small = omega arith }
refusal-digit NotFresh = record { positive = omega arith; small = omega arith }
refusal-digit Full = record { positive = omega arith; small = omega arith }
refusal-digit NoRoom = record { positive = omega arith; small = omega arith }
refusal-digit Closed = record { positive = omega arith; small = omega arith }

-- what a step tells to C and to the player: 0 bytes at a refusal
pub told-count : (r : Rehearsed) → result_unwrap_or r 0 ≡ count_of r
told-count (Ok n) = refl
told-count (Err why) = refl

-- where a refusal's number is written, that is its line
refused-line : (why : Refusal) (n : ℕ) → n ≡ refusal_number why → unwritten n ≡ decimal (refusal_number why)
refused-line why n e =
    let d = refusal-digit why in
    let Some-number = d.positive in
    let small = d.small in
    ap (λ (c : Bool). cond c (40 ∷ (41 ∷ [])) ((48 + n) ∷ [])) (ne_eqb n 0 (λ z. absurd (omega arith)))
    ∙ sym (ap decimal (sym e) ∙ decimal-small n (omega arith))

silent_line : (n : ℕ) → n ≡ 0 → unwritten n ≡ event_line none
silent_line n e = ap (λ (c : Bool). cond c (40 ∷ (41 ∷ [])) ((48 + n) ∷ [])) (eq-eqb n 0 e)

-- WHAT A STEP RETURNS, with room for the longest event.
abbrev wrote : Browser → Message → List ℕ → ℕ → Returned
wrote c y out at = record { verdict = Accepted; browser = c; count = length (write (event_of y)); buffer = put_into out at (write (event_of y)) }

with_room : (b c : Browser) (y : Message) (out : List ℕ) (at : ℕ) → at + 4096 ≤ length out → length (write (event_of y)) ≤ 4096 → returning (accepted c (some y)) b out at ≡ wrote c y out at
with_room b c y out at h s = ap (λ (t : Bool). cond t (wrote c y out at) (refusing NoRoom b out)) (le-leb (at + length (write (event_of y))) (length out) (omega arith))

module _ (b : Browser) (out : List ℕ) (at : ℕ) (h : at + 4096 ≤ length out) where
  few_bytes : (o : Result) → Short o → (returning o b out at).count ≤ 4096
  few_bytes (declined why) s = omega arith
  few_bytes (accepted c none) s = omega arith
  few_bytes (accepted c (some y)) s = let e = ap (λ (x : Returned). x.count) (with_room b c y out at h s) in omega arith

  -- the browser behind the item, and its answer
  pub record Line (o : Result) (c : Browser) (out₂ : List ℕ) (p : ℕ) : Type 0 where
    pub stands : c ≡ after b o
    pub text : List ℕ
    pub adds : Adds text out at out₂ p
    pub is : line text ≡ line_of o

  lined : (o : Result) → Short o → {x : Returned} → x ≡ returning o b out at → {k : ℕ} → k ≡ verdict_number x.verdict → {out₂ : List ℕ} {p : ℕ} → Answered x.count k x.buffer at out₂ p → Line o x.browser out₂ p
  lined (declined why) s {x} e {k} n {out₂} {p} a = record {
    stands = ap (λ (y : Returned). y.browser) e;
    text = unwritten k;
    adds = subst (λ (l : List ℕ). Adds (unwritten k) l at out₂ p) (ap (λ (y : Returned). y.buffer) e) (a.none (ap (λ (y : Returned). y.count) e));
    is = ap line (refused-line why k (n ∙ ap (λ (y : Returned). verdict_number y.verdict) e));
  }
  lined (accepted c none) s {x} e {k} n {out₂} {p} a = record {
    stands = ap (λ (y : Returned). y.browser) e;
    text = unwritten k;
    adds = subst (λ (l : List ℕ). Adds (unwritten k) l at out₂ p) (ap (λ (y : Returned). y.buffer) e) (a.none (ap (λ (y : Returned). y.count) e));
    is = ap line (silent_line k (n ∙ ap (λ (y : Returned). verdict_number y.verdict) e));
  }
  lined (accepted c (some y)) s {x} e {k} n {out₂} {p} a =
      let f : x ≡ wrote c y out at = e ∙ with_room b c y out at h s in
      let many = write-long (event_of y) in
      let count : x.count ≡ length (write (event_of y)) = ap (λ (z : Returned). z.count) f in
      let there = a.some (λ z. absurd (omega arith)) in
      record {
        stands = ap (λ (z : Returned). z.browser) f;
        text = write (event_of y);
        adds = subst (λ (l : List ℕ). Adds (write (event_of y)) out at l p) (sym (there.0 ∙ ap (λ (z : Returned). z.buffer) f))
            (subst (λ (q : ℕ). Adds (write (event_of y)) out at (put_into out at (write (event_of y))) q) (sym (there.1 ∙ ap (λ (z : ℕ). at + z) count)) (adds-into (write (event_of y)) out at (omega arith)));
        is = refl;
      }

returning_is : (t : Taken) (b : Browser) (out : List ℕ) (at : ℕ) → rehearsing t b out at ≡ returning (performed t b) b out at
returning_is (unread why) b out at = refl
returning_is (item i) b out at = refl

module _ (text m out : List ℕ) (at : ℕ) (r : Rehearsed) (n out₁ : List ℕ) (u : Rehearses text m out at r n out₁) (h : at + line_bytes ≤ length out) where
  told : saying r n out₁ ≡ returning (performed (item_in text) (browser m)) (browser m) out at
  unfolding rehearse
  told = u.tells ∙ returning_is (item_in text) (browser m) out at

  pub count-short : count_of r ≤ 4096
  count-short = let few = few_bytes (browser m) out at (omega arith) (performed (item_in text) (browser m)) u.short in let e = ap (λ (x : Returned). x.count) told in omega arith

  pub turned : {k : ℕ} → k ≡ verdict_number (verdict_of r) → {out₂ : List ℕ} {p : ℕ} → Answered (count_of r) k out₁ at out₂ p → {out₃ : List ℕ} {q : ℕ} → Adds (10 ∷ []) out₂ p out₃ q
      → Turns (performed (item_in text) (browser m)) (browser m) out at out₃ (browser n) q
  turned e a v =
      let l = lined (browser m) out at (omega arith) (performed (item_in text) (browser m)) u.short told e a in
      record { stands = l.stands; adds = adds_as l.is (adds_then l.adds v) }

pub one_line : {s s₁ s₂ : List ℕ} {at p q : ℕ} → Adds (49 ∷ []) s at s₁ p → Adds (10 ∷ []) s₁ p s₂ q → Adds (last_line Stopped) s at s₂ q
one_line u v = adds_then (adds_as (sym (decimal-small 1 (omega arith))) u) v
