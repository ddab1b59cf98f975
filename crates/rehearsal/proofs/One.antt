-- The promise of the step on text leaves nothing free.
--     one_result     any two results that it allows are the same: verdict and count, browser and buffer
--     untouched      at a refusal the memory is the very one that was lent, and the buffer is as it was
use Rattle.std.specs.Prelude.{◌≡◌, Bool, true, false, cond, List, ℕ, ◌+◌, leb, length, None as none, Some as some, Ok, Err}
use Rattle.std.proofs.Common.{refl, sym, ap, ◌∙◌}
use Rattle.csexp.specs.Term.{write}
use Rattle.types.specs.declared.refusals.Refusal.{Refusal}
use Rattle.types.specs.declared.refusals.Refusal.TheVariants.{NoRoom}
use Rattle.sorted.proofs.Never.{never}
use Rattle.shapes.specs.Events.{event_of}
use Rattle.shapes.specs.Texts.{Taken, unread, item, item_in}
use Rattle.wim.specs.Step.{Verdict, Accepted, Refused, Browser, Result, declined, accepted, step}
use Rattle.wim.specs.Wire.{Returned, refusing, put_into, returning, rehearsing, rehearse}
use Rattle.browser.specs.View.{browser}
use Rattle.rehearsal.specs.Rehearses.{Rehearsed, verdict_of, count_of, saying, Rehearses}

same_told : (r s : Rehearsed) → verdict_of r ≡ verdict_of s → count_of r ≡ count_of s → r ≡ s
same_told (Ok n) (Ok k) v e = ap Ok e
same_told (Ok n) (Err why) v e = never (cc)
same_told (Err why) (Ok k) v e = never (cc)
same_told (Err why) (Err other) v e = cc

-- "Two browsers with the same rows are equal", also as what a step begins with
pub one_result : {text m k out : List ℕ} {place : ℕ} {r s : Rehearsed} {n l out₁ out₂ : List ℕ}
    → browser m ≡ browser k → Rehearses text m out place r n out₁ → Rehearses text k out place s l out₂
    → (r ≡ s) × (browser n ≡ browser l) × (out₁ ≡ out₂)
one_result {text} {m} {k} {out} {place} {r} {s} {n} {l} {out₁} {out₂} e u v =
    let same : saying r n out₁ ≡ saying s l out₂ = u.tells ∙ ap (λ (x : Browser). rehearse text x out place) e ∙ sym v.tells in
    (same_told r s (ap (λ (x : Returned). x.verdict) same) (ap (λ (x : Returned). x.count) same), ap (λ (x : Returned). x.browser) same, ap (λ (x : Returned). x.buffer) same)

-- what a refusal leaves of a buffer
module _ (out : List ℕ) (place : ℕ) (b : Browser) (why : Refusal) where
  returning_idle : (o : Result) → (returning o b out place).verdict ≡ Refused why → (returning o b out place).buffer ≡ out
  returning_idle (declined r) e = refl
  returning_idle (accepted c none) e = refl
  returning_idle (accepted c (some m)) e = go (leb (place + length (write (event_of m))) (length out)) e
    where
      sent : Returned
      sent = record { verdict = Accepted; browser = c; count = length (write (event_of m)); buffer = put_into out place (write (event_of m)) }

      go : (t : Bool) → (cond t sent (refusing NoRoom b out)).verdict ≡ Refused why → (cond t sent (refusing NoRoom b out)).buffer ≡ out
      go true e = never (cc)
      go false e = refl

  rehearsing_idle : (t : Taken) → (rehearsing t b out place).verdict ≡ Refused why → (rehearsing t b out place).buffer ≡ out
  rehearsing_idle (unread r) e = refl
  rehearsing_idle (item i) e = returning_idle (step i b) e

pub untouched : {text m out : List ℕ} {place : ℕ} {r : Rehearsed} {n out₂ : List ℕ} (why : Refusal)
    → Rehearses text m out place r n out₂ → r ≡ Err why → (n ≡ m) × (out₂ ≡ out)
unfolding rehearse
untouched {text} {m} {out} {place} {r} {n} {out₂} why u e =
    let i = rehearsing_idle out place (browser m) why (item_in text) (sym (ap (λ (x : Returned). x.verdict) u.tells) ∙ ap verdict_of e) in
    (u.same why e, ap (λ (x : Returned). x.buffer) u.tells ∙ i)
