-- The ways through a step on text: 1 and 2, 8, the item's own.
use Rattle.std.specs.Prelude.{◌≡◌, true, false, List, ℕ, Ok, Err}
use Rattle.std.proofs.Common.{refl, sym, subst, ◌∙◌}
use Rattle.types.specs.declared.items.Item.{Item}
use Rattle.types.specs.declared.refusals.Refusal.{Refusal}
use Rattle.types.specs.declared.refusals.Refusal.TheVariants.{Closed}
use Rattle.shapes.specs.Texts.{Taken, unread, item, item_in}
use Rattle.wim.specs.Step.{Result, declined, step}
use Rattle.wim.specs.Run.{performed}
use Rattle.wim.specs.Wire.{returning, rehearsing, rehearse}
use Rattle.browser.specs.View.{is_closed, browser}
use Rattle.perform.specs.Acts.{happening}
use Rattle.rehearsal.specs.Rehearses.{Rehearsed, Rehearses, Returns}

-- what is refused, with nothing changed
pub refusing_so : (why : Refusal) (m out : List ℕ) (place : ℕ) → Returns (declined why) m out place (Err why) m out
refusing_so why m out place = record { tells = refl; same = λ _ _. refl; short = tt }

shut_step : (i : Item) (m : List ℕ) → is_closed m ≡ true → step i (browser m) ≡ declined Closed
unfolding step
shut_step i m e = rw e

open_step : (i : Item) (m : List ℕ) → is_closed m ≡ false → step i (browser m) ≡ happening i m
unfolding step
open_step i m e = rw e

module _ (i : Item) (m out : List ℕ) (place : ℕ) {r : Rehearsed} {n out₂ : List ℕ} where
  pub closed : is_closed m ≡ true → Returns (declined Closed) m out place r n out₂ → Returns (step i (browser m)) m out place r n out₂
  closed e a = subst (λ (o : Result). Returns o m out place r n out₂) (sym (shut_step i m e)) a

  pub opened : is_closed m ≡ false → Returns (happening i m) m out place r n out₂ → Returns (step i (browser m)) m out place r n out₂
  opened e a = subst (λ (o : Result). Returns o m out place r n out₂) (sym (open_step i m e)) a

returning_is : (t : Taken) (m out : List ℕ) (place : ℕ) → returning (performed t (browser m)) (browser m) out place ≡ rehearsing t (browser m) out place
returning_is (unread why) m out place = refl
returning_is (item i) m out place = refl

pub taken : (text m out : List ℕ) (place : ℕ) (t : Taken) {r : Rehearsed} {n out₂ : List ℕ} → t ≡ item_in text
    → Returns (performed t (browser m)) m out place r n out₂ → Rehearses text m out place r n out₂
unfolding rehearse
taken text m out place t {r} {n} {out₂} e a =
    let b = subst (λ (t : Taken). Returns (performed t (browser m)) m out place r n out₂) e a in
    record { tells = b.tells ∙ returning_is (item_in text) m out place; same = b.same; short = b.short }
