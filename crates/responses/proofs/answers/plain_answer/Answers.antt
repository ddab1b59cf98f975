-- A request waits with this number and no key, or 3.
use Rattle.std.proofs.Common.{rules, sym, ◌∙◌}
use Rattle.std.specs.Prelude.{None as none, Some as some}
use Rattle.types.specs.Lists.{cookies_in}
use Rattle.types.specs.declared.refusals.Refusal.TheVariants.{Lacking}
use Rattle.types.specs.declared.refusals.Missing.TheVariants.{NoRequest}
use Rattle.wim.specs.Program.{keyless, observed}
use Rattle.wim.specs.Main.{plain_answer}
use Rattle.responses.proofs.Asking.{asks, declined}
use Rattle.responses.proofs.answers.plain_answer.Goals as goal

pub returns-in_err-w : goal.returns-in_err-w
unfolding observed plain_answer
returns-in_err-w c =
    asks (keyless c.args.a.number) (plain_answer c.args.a (cookies_in c.args.few)) none
    (sym c.in_err-w.ensures.ok_part ∙ c.first-found.ensures.found _ (λ r b h. search rules))
    (declined (Lacking NoRequest) c.args.f (search rules))

pub returns : goal.returns
unfolding observed plain_answer
returns c =
    asks (keyless c.args.a.number) (plain_answer c.args.a (cookies_in c.args.few)) (some c.in_ok-w.w)
    (sym c.in_ok-w.ensures.ok_part ∙ c.first-found.ensures.found _ (λ r b h. search rules))
    c.process_response.ensures
