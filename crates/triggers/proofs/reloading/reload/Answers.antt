-- What comes of the look; then nothing is cancelled, and HTTP_SEND goes on from there, or 5.
use Rattle.std.proofs.Common.{sym, ◌∙◌, refl, rules}
use Rattle.types.specs.declared.Reference.TheVariants.{Req}
use Rattle.wim.specs.Program.{run}
use Rattle.wim.specs.Main.{sending_to}
use Rattle.stepping.specs.Wanted.{wants_send}
use Rattle.stepping.proofs.Sends.{brings_send}
use Rattle.stepping.proofs.Ways.{refuses, stales, performs_as}
use Rattle.sending.proofs.Ways.{ends-sending}
use Rattle.triggers.proofs.Again.{again, looks}
use Rattle.triggers.proofs.reloading.reload.Goals as goal

pub returns-in_err-d : goal.returns-in_err-d
returns-in_err-d c = refuses _ c.args.f (looks c.args.w _ _ _ (sym c.in_err-d.was ∙ c.displayed.ensures)) (search rules)

pub returns-then-not-ready : goal.returns-then-not-ready
returns-then-not-ready c =
    let d = c.in_ok-d.d in
    performs_as _ (again c.args.w d) (looks c.args.w _ _ _ (sym c.in_ok-d.was ∙ c.displayed.ensures))
    (stales (again c.args.w d) c.args.f wants_send (brings_send (sending_to (Req c.args.w) d.location d.referrer)) (sym c.ready.ensures ∙ c.if-not-ready.true) refl)

pub returns : goal.returns
unfolding run
returns c =
    let d = c.in_ok-d.d in
    performs_as _ (again c.args.w d) (looks c.args.w _ _ _ (sym c.in_ok-d.was ∙ c.displayed.ensures))
    (ends-sending (again c.args.w d) c.args.f _ wants_send (sym c.ready.ensures ∙ c.if-not-ready.false) (rw c.sending_to.ensures) c.cancel.ensures c.http_send.ensures)
