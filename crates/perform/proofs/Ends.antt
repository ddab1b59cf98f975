-- A step by its event: what its program performs, the item does; accepted, and the browser open or closed; or not accepted.
--     happened · acted · idled     an event that is known; accepted; not accepted
--     one-act                      any two results that the promise allows are the same, but for the memory at 6
use mathlib.Core.Path.{◌≡◌, refl, sym, ◌∙◌, ap, subst}
use mathlib.Core.Bool.{Bool, true, false, true≢false}
use mathlib.Core.List.{List}
use Rattle.std.specs.Prelude.{is_ok, Err}
use Prim.Native.Nat.{ℕ}
use Rattle.types.specs.declared.Fresh.{Fresh}
use Rattle.types.specs.declared.cookies.Cookie.{Cookie}
use Rattle.types.specs.declared.items.Event.{Event}
use Rattle.types.specs.declared.items.Item.{Item}
use Rattle.types.specs.declared.refusals.Refusal.{Refusal}
use Rattle.types.specs.declared.refusals.Refusal.TheVariants.{BadText, BadShape, Lacking, Stopped, NotFresh, Full, NoRoom, Closed}
use Rattle.wim.specs.Main.{cookies_in, program}
use Rattle.wim.specs.Program.{Outcome, refused, made}
use Rattle.wim.specs.Step.{Result, declined, accepted, closes, concluded, step_tables}
use Rattle.browser.specs.View.{view, browser, with_closed}
use Rattle.stepping.specs.Gives.{Performed, keeps, Settled}
use Rattle.stepping.specs.Performs.{Performs}
use Rattle.perform.specs.Acts.{happening, Ended, Acts}

-- an event that is known
pub happened : (new : List Cookie) {e x : Event} {f : Fresh} {m n : List ℕ} {r : Performed} → e ≡ x → Performs (program x new) f m n r → Performs (program e new) f m n r
happened new {e} {x} {f} {m} {n} {r} p a = subst (λ (y : Event). Performs (program y new) f m n r) (sym p) a

module _ (i : Item) (m n : List ℕ) (r : Performed) (h : Performs (program i.event (cookies_in i.cookies)) i.fresh m n r) where
  pub acted : {a x : Bool} {k : List ℕ} → a ≡ is_ok r → a ≡ true → x ≡ closes i.event → browser k ≡ with_closed x (browser n) → Acts i m k r
  unfolding step_tables
  acted {a} {x} {k} e t q b = record { is = go (step_tables i (view m)) h.answers.is }
    where
      go : (o : Outcome) → Settled m o n r → Ended m (concluded (closes i.event) o) k r
      go (refused why) s = let z : true ≡ false = sym t ∙ e ∙ ap is_ok s.0 in absurd (true≢false z)
      go (made c y) s = (s.0, b ∙ λ j. record { tables = s.1 j; closed = q j })

  pub idled : {a : Bool} → a ≡ is_ok r → a ≡ false → Acts i m n r
  unfolding step_tables
  idled {a} e t = record { is = go (step_tables i (view m)) h.answers.is }
    where
      go : (o : Outcome) → Settled m o n r → Ended m (concluded (closes i.event) o) n r
      go (refused why) s = s
      go (made c y) s = let z : true ≡ false = sym (sym t ∙ e ∙ ap is_ok s.0) in absurd (true≢false z)

-- THE PROMISE LEAVES NOTHING FREE but the memory at 6.
kept_but_six : (why : Refusal) → (why ≡ Full → ⊥) → keeps why ≡ true
kept_but_six BadText h = refl
kept_but_six BadShape h = refl
kept_but_six (Lacking x) h = refl
kept_but_six Stopped h = refl
kept_but_six NotFresh h = refl
kept_but_six Full h = absurd (h refl)
kept_but_six NoRoom h = refl
kept_but_six Closed h = refl

pub one-act : {i : Item} {m n k : List ℕ} {r s : Performed} → Acts i m n r → Acts i m k s → (r ≡ s) × ((r ≡ Err Full → ⊥) → browser n ≡ browser k)
one-act {i} {m} {n} {k} {r} {s} u v = go (happening i m) u.is v.is
  where
    go : (o : Result) → Ended m o n r → Ended m o k s → (r ≡ s) × ((r ≡ Err Full → ⊥) → browser n ≡ browser k)
    go (declined why) a b = (a.0 ∙ sym b.0, λ h. let z = kept_but_six why (λ e. h (a.0 ∙ ap Err e)) in ap browser (a.1 z ∙ sym (b.1 z)))
    go (accepted c x) a b = (a.0 ∙ sym b.0, λ h. a.1 ∙ sym b.1)
