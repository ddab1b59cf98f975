-- What comes of the two looks; then HTTP_SEND goes on from the memory as it stands, or 5.
use Rattle.std.proofs.Common.{sym, ◌∙◌, ap, rules, refl, None, Err}
use Rattle.types.specs.declared.Reference.TheVariants.{Req}
use Rattle.wim.specs.Sending.{send}
use Rattle.wim.specs.Main.{sending_to}
use Rattle.stepping.specs.Wanted.{wants_send}
use Rattle.stepping.proofs.Sends.{brings_send}
use Rattle.stepping.proofs.Ways.{refuses, stales, performs_as}
use Rattle.sending.proofs.Ways.{sends_only}
use Rattle.triggers.proofs.Addresses.{below, bare, shown}
use Rattle.triggers.proofs.opening.urlbar_existing.Goals as goal

pub returns-then-not-is_top : goal.returns-then-not-is_top
returns-then-not-is_top c = refuses _ c.args.f (below _ c.args.w _ _ (sym c.is_top.ensures ∙ c.if-not-is_top.true)) (ap Err c.into.ensures)

pub returns-in_err-ok_or : goal.returns-in_err-ok_or
returns-in_err-ok_or c = refuses _ c.args.f (bare _ c.args.w _ _ (sym c.is_top.ensures ∙ c.if-not-is_top.false) (sym c.active_document.ensures ∙ c.in_err-ok_or.ensures.ok_part)) (search rules)

pub returns-then-not-ready : goal.returns-then-not-ready
returns-then-not-ready c =
    let o = sending_to (Req c.args.w) c.args.url None in
    performs_as _ (send o) (shown _ c.args.w _ _ (sym c.is_top.ensures ∙ c.if-not-is_top.false) (sym c.active_document.ensures ∙ c.in_ok-ok_or.ensures.ok_part))
    (stales (send o) c.args.f wants_send (brings_send o) (sym c.ready.ensures ∙ c.if-not-ready.true) refl)

pub returns : goal.returns
returns c =
    let o = sending_to (Req c.args.w) c.args.url None in
    performs_as _ (send o) (shown _ c.args.w _ _ (sym c.is_top.ensures ∙ c.if-not-is_top.false) (sym c.active_document.ensures ∙ c.in_ok-ok_or.ensures.ok_part))
    (sends_only c.args.f o (sym c.ready.ensures ∙ c.if-not-ready.false) (rw (← c.sending_to.ensures) c.http_send.ensures))
