-- Demand 3 on texts and buffers: in either order each text writes what it writes when it comes first, and the browser is the same in the end.
use mathlib.Core.Path.{◌≡◌, refl, sym, ◌∙◌, ap, subst}
use mathlib.Core.Bool.{Bool, true, false, cond}
use mathlib.Core.List.{List}
use Rattle.std.specs.Prelude.{Option, None as none, Some as some}
use Prim.Native.Nat.{ℕ, ◌+◌}
use lib.Dec.{leb}
use lib.ListN.{length}
use Rattle.csexp.specs.Term.{write}
use Rattle.sorted.proofs.Never.{never}
use Rattle.shapes.specs.Texts.{item, item_in}
use Rattle.shapes.specs.Events.{Message, event_of}
use Rattle.wim.specs.Nouns.{Item, NoRoom}
use Rattle.wim.specs.Step.{Accepted}
use Rattle.wim.specs.Step.{Browser, Result, declined, accepted, step}
use Rattle.wim.specs.Wire.{Returned, refusing, put_into, sending, returning, rehearsing, rehearse}
use Rattle.either_order.specs.Statement.{SameLine, EitherOrderOnTexts}
use Rattle.either_order.proofs.EitherOrder.{either_order}
use Rattle.either_order.proofs.FewCookies.{few-read}

-- an event that fits is written whatever the browser is
written : (m : Option Message) (b c : Browser) (out : List ℕ) (place : ℕ) → (sending m b c out place).verdict ≡ Accepted
    → (d e : Browser) → SameLine (sending m d e out place) (sending m b c out place) × ((sending m d e out place).browser ≡ e)
written none b c out place h d e = (record { verdict = refl; count = refl; buffer = refl }, refl)
written (some m) b c out place h d e = go (leb (place + length bs) (length out)) h
  where
    bs : List ℕ
    bs = write (event_of m)

    given : Browser → Browser → Bool → Returned
    given b c x = cond x (record { verdict = Accepted; browser = c; count = length bs; buffer = put_into out place bs }) (refusing NoRoom b out)

    go : (x : Bool) → (given b c x).verdict ≡ Accepted → SameLine (given d e x) (given b c x) × ((given d e x).browser ≡ e)
    go true h = (record { verdict = refl; count = refl; buffer = refl }, refl)
    go false h = never (cc)

-- an accepted text is an accepted item, whose reply is its event written
module _ (s : List ℕ) (i : Item) (r : item_in s ≡ item i) (b : Browser) (out : List ℕ) (place : ℕ) where
  replied : rehearse s b out place ≡ returning (step i b) b out place
  unfolding rehearse
  replied = ap (λ t. rehearsing t b out place) r

  taken : (rehearse s b out place).verdict ≡ Accepted → (c : Browser) × (m : Option Message) × (step i b ≡ accepted c m) × (rehearse s b out place ≡ sending m b c out place)
  taken h = go (step i b) refl (ap (λ (x : Returned). x.verdict) (sym replied) ∙ h)
    where
      go : (o : Result) → step i b ≡ o → (returning o b out place).verdict ≡ Accepted → (c : Browser) × (m : Option Message) × (step i b ≡ accepted c m) × (rehearse s b out place ≡ sending m b c out place)
      go (declined x) e v = never (cc)
      go (accepted c m) e v = (c, m, e, replied ∙ ap (λ (o : Result). returning o b out place) e)

-- what an accepted text writes it writes again in another browser where its item sends the same
again : (s : List ℕ) (i : Item) → item_in s ≡ item i → (b c d e : Browser) (m : Option Message) (out : List ℕ) (place : ℕ) → rehearse s b out place ≡ sending m b c out place → (rehearse s b out place).verdict ≡ Accepted
    → step i d ≡ accepted e m → SameLine (rehearse s d out place) (rehearse s b out place) × ((rehearse s d out place).browser ≡ e)
again s i r b c d e m out place p v q =
    let z = written m b c out place (ap (λ (x : Returned). x.verdict) (sym p) ∙ v) d e in
    let w : rehearse s d out place ≡ sending m d e out place = replied s i r d out place ∙ ap (λ (o : Result). returning o d out place) q in
    (subst (λ (x : Returned). SameLine x (rehearse s b out place)) (sym w) (subst (SameLine (sending m d e out place)) (sym p) z.0), ap (λ (x : Returned). x.browser) w ∙ z.1)

pub either_order_on_texts : EitherOrderOnTexts
either_order_on_texts b R free s u i j ri rj li lj A out lent place from vs vu =
    let x = taken s i ri b out place vs in
    let y = taken u j rj b lent from vu in
    let z = either_order b R free i j (record { kind = li; cookies = few-read s i ri }) (record { kind = lj; cookies = few-read u j rj }) A x.0 y.0 x.1 y.1 x.2 y.2 in
    let bs : (rehearse s b out place).browser ≡ x.0 = (again s i ri b x.0 b x.0 x.1 out place x.3 vs x.2).1 in
    let bu : (rehearse u b lent from).browser ≡ y.0 = (again u j rj b y.0 b y.0 y.1 lent from y.3 vu y.2).1 in
    let us = again u j rj b y.0 (rehearse s b out place).browser z.0 y.1 lent from y.3 vu (ap (step j) bs ∙ z.1) in
    let su = again s i ri b x.0 (rehearse u b lent from).browser z.0 x.1 out place x.3 vs (ap (step i) bu ∙ z.2) in
    (us.0, su.0, us.1 ∙ sym su.1)
