-- Refused where the window shows nothing, where nothing is beside it, or where a number is given; else its history is turned.
use Rattle.std.proofs.Common.{sym, ◌∙◌, refl, rules}
use Rattle.stepping.proofs.Carry.{carries-none}
use Rattle.stepping.proofs.Ways.{refuses}
use Rattle.history.proofs.Ways.{display-goes, nowhere, turns_stale, turns_over}
use Rattle.triggers.proofs.moving.go.Goals as goal

pub returns-in_err-displayed : goal.returns-in_err-displayed
returns-in_err-displayed c = refuses _ c.args.f (display-goes c.args.w _ _ _ _ (sym c.in_err-displayed.was ∙ c.displayed.ensures)) (search rules)

pub returns-in_default : goal.returns-in_default
returns-in_default c =
    nowhere _ (λ p. p) c.args.w c.args.q c.args.f (display-goes c.args.w _ _ _ _ (sym c.in_ok-displayed.was ∙ c.displayed.ensures)) (search rules) refl

pub returns-then-not-brings_none : goal.returns-then-not-brings_none
returns-then-not-brings_none c =
    turns_stale _ (λ p. p) c.args.w c.args.q c.args.f (display-goes c.args.w _ _ _ _ (sym c.in_ok-displayed.was ∙ c.displayed.ensures))
    c.in-Some.from c.in-Some.to (sym c.in-Some.is ∙ c.look.ensures) c.brings_none.ensures tt c.if-not-brings_none.true refl

pub returns : goal.returns
returns c =
    turns_over _ (λ p. p) c.args.w c.args.q c.args.f (display-goes c.args.w _ _ _ _ (sym c.in_ok-displayed.was ∙ c.displayed.ensures))
    c.in-Some.from c.in-Some.to (sym c.in-Some.is ∙ c.look.ensures) c.brings_none.ensures refl c.if-not-brings_none.false (carries-none _) c.turn.ensures refl
