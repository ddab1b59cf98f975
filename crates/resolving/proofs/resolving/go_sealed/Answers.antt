-- Sealed with the key that is brought; or 5.
use Rattle.std.proofs.Common.{sym, ◌∙◌, refl, Some}
use Rattle.stepping.specs.Wanted.{wants_key}
use Rattle.stepping.proofs.Ways.{ends, stales}
use Rattle.resolving.proofs.Questions.{brings_sealed, ran_sealed, of_tidy}
use Rattle.resolving.proofs.resolving.go_sealed.Goals as goal

pub returns-then-not-ready : goal.returns-then-not-ready
returns-then-not-ready c = record { performs = λ e. stales _ c.args.f wants_key (brings_sealed c.args.q c.args.address c.args.f) (sym c.ready.ensures ∙ c.if-not-ready.true) refl }

pub returns : goal.returns
returns c = record {
  performs = λ e.
      ends _ c.args.f wants_key (sym c.ready.ensures ∙ c.if-not-ready.false) (ran_sealed c.args.q c.args.address c.args.f _)
      (of_tidy c.args.q (Some c.args.f.key) c.args.address e c.hand_over-room.ensures) c.conclude.ensures;
}
