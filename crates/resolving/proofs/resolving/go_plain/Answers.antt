-- As it stands, with no number; or 5.
use Rattle.std.proofs.Common.{refl, None}
use Rattle.stepping.specs.Wanted.{wants_nothing}
use Rattle.stepping.proofs.Ways.{ends, unwanted, unfresh}
use Rattle.resolving.proofs.Questions.{brings_plain, ran_plain, of_tidy}
use Rattle.resolving.proofs.resolving.go_plain.Goals as goal

pub returns-then-not-brings_none : goal.returns-then-not-brings_none
returns-then-not-brings_none c = record { performs = λ e. unfresh _ c.args.f c.brings_none.ensures (brings_plain c.args.q c.args.address c.args.f) c.if-not-brings_none.true refl }

pub returns : goal.returns
returns c = record {
  performs = λ e.
      ends _ c.args.f wants_nothing (unwanted c.brings_none.ensures _ c.if-not-brings_none.false) (ran_plain c.args.q c.args.address c.args.f _)
      (of_tidy c.args.q None c.args.address e c.hand_over-room.ensures) c.conclude.ensures;
}
