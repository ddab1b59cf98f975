-- A step in place: what is told of it, where what is not accepted changed nothing; and so it is with room for every row and for the longest event. No code stands here.
use Rattle.std.specs.Prelude.{◌≡◌, Bool, true, false, cond, List, ℕ, ◌+◌, ◌≤◌, leb, length, Option, None as none, Some as some, Ok, Err}
use Rattle.std.proofs.Common.{refl, sym, ap, subst, ◌∙◌}
use Rattle.csexp.specs.Term.{write}
use Rattle.csexp.specs.Sent.{Written}
use Rattle.types.specs.declared.items.Item.{Item}
use Rattle.types.specs.declared.refusals.Refusal.{Refusal}
use Rattle.types.specs.declared.refusals.Refusal.TheVariants.{BadText, BadShape, Lacking, Stopped, NotFresh, Full, NoRoom, Closed}
use Rattle.sorted.proofs.Count.{taken-fits}
use Rattle.sorted.proofs.Never.{never}
use Rattle.shapes.specs.Events.{Message, event_of}
use Rattle.writing.specs.Wrote.{answer_of, left_of}
use Rattle.writing.proofs.Tops.{never-refused}
use Rattle.wim.specs.Program.{Outcome, refused, made}
use Rattle.wim.specs.Step.{Accepted, Browser, Result, declined, accepted, closes, concluded, step_tables}
use Rattle.wim.specs.Wire.{Returned, refusing, put_into, sending, returning}
use Rattle.browser.specs.View.{view, is_roomy, browser}
use Rattle.browser.proofs.Closed.{free_rows}
use Rattle.stepping.specs.Gives.{Performed, keeps}
use Rattle.four_rows.proofs.Programs.{step-never-full}
use Rattle.perform.specs.Acts.{happening, Ended, Acts}
use Rattle.rehearsal.specs.Writes.{answered, Writes}
use Rattle.rehearsal.specs.Rehearses.{Rehearsed, verdict_of, count_of, saying, Returns}

-- neither 6 nor 7 comes, and at another refusal nothing was changed
pub kept : (m n out out₂ : List ℕ) (place : ℕ) (d : Performed) (why : Refusal) (i : Item) → length i.cookies.rows ≡ 4 → is_roomy m ≡ true → place + 4096 ≤ length out
    → Acts i m n d → Writes d out place (Err why) out₂ → n ≡ m
kept m n out out₂ place d why i l z h a w = go (step_tables i (view m)) refl a.is
  where
    keeping : (why : Refusal) → step_tables i (view m) ≡ refused why → keeps why ≡ true
    keeping BadText q = refl
    keeping BadShape q = refl
    keeping (Lacking x) q = refl
    keeping Stopped q = refl
    keeping NotFresh q = refl
    keeping Full q = absurd (step-never-full i (taken-fits i.cookies.count 4 i.cookies.rows l) (view m) (free_rows m z) q)
    keeping NoRoom q = refl
    keeping Closed q = refl

    go : (o : Outcome) → step_tables i (view m) ≡ o → Ended m (concluded (closes i.event) o) n d → n ≡ m
    go (refused why) q s = s.1 (keeping why q)
    go (made c x) q s =
        let t = subst (λ (d : Performed). Writes d out place (Err why) out₂) s.0 w in
        never (cc (t.says, never-refused x t.wrote h))

-- the browser that is left
abbrev left_by : Rehearsed → Browser → Browser → Browser
left_by (Ok n) b c = c
left_by (Err why) b c = b

abbrev said : Rehearsed → Browser → Browser → List ℕ → Returned
said r b c out = record { verdict = verdict_of r; browser = left_by r b c; count = count_of r; buffer = out }

-- what a message comes to, by the writer's answer
sent-is : (x : Option Message) (b c : Browser) (out : List ℕ) (place : ℕ) → sending x b c out place ≡ said (answered (answer_of x out place)) b c (left_of x out place)
sent-is none b c out place = refl
sent-is (some m) b c out place = go (leb (place + length (write (event_of m))) (length out))
  where
    sent : Returned
    sent = record { verdict = Accepted; browser = c; count = length (write (event_of m)); buffer = put_into out place (write (event_of m)) }

    go : (t : Bool) → cond t sent (refusing NoRoom b out) ≡ said (answered (cond t (some (length (write (event_of m)))) none)) b c (cond t (put_into out place (write (event_of m))) out)
    go true = refl
    go false = refl

module _ (m n out out₂ : List ℕ) (place : ℕ) (r : Rehearsed) (same : (why : Refusal) → r ≡ Err why → n ≡ m) where
  left-is : (q : Rehearsed) → r ≡ q → browser n ≡ left_by q (browser m) (browser n)
  left-is (Ok k) e = refl
  left-is (Err why) e = ap browser (same why e)

  told : (d : Performed) (o : Result) → Ended m o n d → Writes d out place r out₂ → Returns o m out place r n out₂
  told d (declined why) e w =
      let v = subst (λ (d : Performed). Writes d out place r out₂) e.0 w in
      record { tells = cc (v.0, v.1, same why v.0); same = same; short = tt }
  told d (accepted c x) e w =
      let t = subst (λ (d : Performed). Writes d out place r out₂) e.0 w in
      let b : browser n ≡ left_by r (browser m) c = left-is r refl ∙ ap (left_by r (browser m)) e.1 in
      let s : r ≡ answered (answer_of x out place) = t.says ∙ ap answered t.wrote.says in
      record {
        tells = ap (λ (b : Browser). record { verdict = verdict_of r; browser = b; count = count_of r; buffer = out₂ }) b
            ∙ ap (λ (b : List ℕ). said r (browser m) c b) t.wrote.leaves ∙ ap (λ (q : Rehearsed). said q (browser m) c (left_of x out place)) s ∙ sym (sent-is x (browser m) c out place);
        same = same;
        short = t.wrote.short;
      }

  pub in_place : (d : Performed) (i : Item) → Acts i m n d → Writes d out place r out₂ → Returns (happening i m) m out place r n out₂
  in_place d i a w = told d (happening i m) a.is w
