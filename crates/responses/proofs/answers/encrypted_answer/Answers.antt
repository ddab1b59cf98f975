-- A request waits with this key, or 3; and the answer carries its number, or 3.
use Rattle.std.proofs.Common.{rules, ◌≡◌, refl, sym, ap, ◌∙◌, true, false}
use Rattle.std.specs.Prelude.{None as none, Some as some, Bool, not, eqb}
use Rattle.types.specs.Lists.{cookies_in}
use Rattle.types.specs.declared.refusals.Refusal.TheVariants.{Lacking}
use Rattle.types.specs.declared.refusals.Missing.TheVariants.{NoRequest, Mismatch}
use Rattle.wim.specs.Program.{keyed, observed}
use Rattle.wim.specs.Main.{encrypted_answer}
use Rattle.responses.proofs.Asking.{asks, declined}
use Rattle.responses.proofs.answers.encrypted_answer.Goals as goal

twice : (x : Bool) → not (not x) ≡ x
twice true = refl
twice false = refl

turned : (x y : Bool) → not x ≡ not y → x ≡ y
turned x y e = sym (twice x) ∙ ap not e ∙ twice y

pub returns-in_err-w : goal.returns-in_err-w
unfolding observed encrypted_answer
returns-in_err-w c =
    asks (keyed c.args.k) (encrypted_answer c.args.a (cookies_in c.args.few)) none
    (sym c.in_err-w.ensures.ok_part ∙ c.first-found.ensures.found _ (λ r b h. search rules))
    (declined (Lacking NoRequest) c.args.f (search rules))

pub returns-then-ne : goal.returns-then-ne
unfolding observed encrypted_answer
returns-then-ne c =
    let e : eqb c.args.a.number.0 c.in_ok-w.w.request.number.0 ≡ false = turned _ false (sym c.ne.ensures ∙ c.if-ne.true) in
    asks (keyed c.args.k) (encrypted_answer c.args.a (cookies_in c.args.few)) (some c.in_ok-w.w)
    (sym c.in_ok-w.ensures.ok_part ∙ c.first-found.ensures.found _ (λ r b h. search rules))
    (rw e (declined (Lacking Mismatch) c.args.f (search rules)))

pub returns : goal.returns
unfolding observed encrypted_answer
returns c =
    let e : eqb c.args.a.number.0 c.in_ok-w.w.request.number.0 ≡ true = turned _ true (sym c.ne.ensures ∙ c.if-ne.false) in
    asks (keyed c.args.k) (encrypted_answer c.args.a (cookies_in c.args.few)) (some c.in_ok-w.w)
    (sym c.in_ok-w.ensures.ok_part ∙ c.first-found.ensures.found _ (λ r b h. search rules))
    (rw e c.process_response.ensures)
