-- What is left of the tables; or 5.
use Rattle.std.proofs.Common.{refl}
use Rattle.stepping.proofs.Ways.{unfresh, silently}
use Rattle.resolving.proofs.Emptying.{brings_closing, ran_closing}
use Rattle.resolving.proofs.closing.close_corrupt.Goals as goal

pub returns-then-not-brings_none : goal.returns-then-not-brings_none
returns-then-not-brings_none c = unfresh _ c.args.f c.brings_none.ensures (brings_closing c.args.f) c.if-not-brings_none.true refl

pub returns : goal.returns
returns c = silently _ c.args.f c.brings_none.ensures (ran_closing c.args.f _) c.if-not-brings_none.false c.empty.ensures refl
