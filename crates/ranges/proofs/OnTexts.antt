-- What was written is read back, on texts and buffers.
use mathlib.Core.Path.{◌≡◌, refl, ◌∙◌, ap, subst}
use mathlib.Core.Bool.{Bool, true, false, cond}
use mathlib.Core.List.{List, ◌++◌}
use Rattle.std.specs.Prelude.{Option, None as none, Some as some}
use Prim.Native.Nat.{ℕ, ◌+◌, ◌≤◌}
use native.Mathlib.Omega.{arith}
use borrow.Author.Tests.{leb-true}
use lib.Dec.{leb}
use lib.ListN.{length, take, drop}
use lib.Seq.{length-take-le, take-append_seam, drop-append_seam}
use Rattle.csexp.specs.Term.{write}
use Rattle.sorted.proofs.Never.{never}
use Rattle.shapes.specs.Texts.{Taken, unread, item, item_in}
use Rattle.shapes.specs.Events.{Message, event_of}
use Rattle.writing.specs.Outgoing.{sent_in}
use Rattle.wim.specs.Nouns.{Item, NoRoom}
use Rattle.wim.specs.Step.{Accepted}
use Rattle.wim.specs.Step.{Browser, empty_browser, Result, declined, accepted, step}
use Rattle.wim.specs.Wire.{Returned, refusing, put_into, returning, rehearsing, rehearse}
use Rattle.wim.specs.Run.{performed}
use Rattle.wim.specs.Made.{RunsTo}
use Rattle.ranges.proofs.Made.{what_went_out_is_read_back}

-- what was put into a buffer stands there
put-there : (out bs : List ℕ) (place : ℕ) → place ≤ length out → take (length bs) (drop place (put_into out place bs)) ≡ bs
put-there out bs place h =
    let behind : List ℕ = bs ++ drop (place + length bs) out in
    let seam : drop place (put_into out place bs) ≡ behind = subst (λ (n : ℕ). drop n (take place out ++ behind) ≡ behind) (length-take-le place out h) (drop-append_seam (take place out) behind) in
    ap (take (length bs)) seam ∙ take-append_seam bs (drop (place + length bs) out)

-- the bytes that a step wrote are read as its message; where it sends nothing, it wrote none
abbrev pub ReadBack : Option Message → Returned → ℕ → Type 0
ReadBack none r place = r.count ≡ 0
ReadBack (some m) r place = sent_in (take r.count (drop place r.buffer)) ≡ some m

module _ (b : Browser) (R : RunsTo empty_browser b) (s out : List ℕ) (place : ℕ) where
  written : (i : Item) → item_in s ≡ item i → (o : Result) → step i b ≡ o → (returning o b out place).verdict ≡ Accepted
      → (m : Option Message) × (o ≡ accepted (returning o b out place).browser m) × ReadBack m (returning o b out place) place
  written i e (declined r) f v = never (cc)
  written i e (accepted c none) f v = (none, refl, refl)
  written i e (accepted c (some m)) f v = go (leb (place + length bs) (length out)) refl v
    where
      bs : List ℕ
      bs = write (event_of m)

      given : Bool → Returned
      given x = cond x (record { verdict = Accepted; browser = c; count = length bs; buffer = put_into out place bs }) (refusing NoRoom b out)

      go : (x : Bool) → leb (place + length bs) (length out) ≡ x → (given x).verdict ≡ Accepted → (n : Option Message) × (accepted c (some m) ≡ accepted (given x).browser n) × ReadBack n (given x) place
      go true h v = let room = leb-true (place + length bs) (length out) h in (some m, refl, ap sent_in (put-there out bs place (omega arith)) ∙ what_went_out_is_read_back b c R s i m e f)
      go false h v = never (cc)

  pub written-is-read-back : (rehearse s b out place).verdict ≡ Accepted
      → (m : Option Message) × (performed (item_in s) b ≡ accepted (rehearse s b out place).browser m) × ReadBack m (rehearse s b out place) place
  unfolding rehearse
  written-is-read-back = go (item_in s) refl
    where
      go : (t : Taken) → item_in s ≡ t → (rehearsing t b out place).verdict ≡ Accepted → (m : Option Message) × (performed t b ≡ accepted (rehearsing t b out place).browser m) × ReadBack m (rehearsing t b out place) place
      go (unread r) e v = never (cc)
      go (item i) e v = written i e (step i b) refl v
