-- A number that is given, and it is 5; or what the change says is what the program does.
use mathlib.Core.Bool.{◌&&◌}
use Rattle.std.proofs.Common.{◌≡◌, refl, rules}
use Rattle.browser.specs.View.{view}
use Rattle.stepping.proofs.Ways.{unfresh, silently}
use Rattle.storing.specs.Stored.{storing}
use Rattle.script_loads.proofs.Ends.{ran_behind, carried}
use Rattle.scripts.proofs.commands.ending.end.Goals as goal

pub returns-then-not-brings_none : goal.returns-then-not-brings_none
returns-then-not-brings_none g c p h = unfresh (storing c.args.s p) c.args.s.fresh c.brings_none.ensures h.brings c.if-not-brings_none.true refl

pub returns : goal.returns
returns g c p h =
    let room : c.if-stored.conclude ≡ (c.store-stored.result && c.change-changed.result) = search rules in
    silently (storing c.args.s p) c.args.s.fresh c.brings_none.ensures (ran_behind c.args.s p h (view c.args.m.now)) c.if-not-brings_none.false
    (carried c.args.s p h room c.store-stored.ensures c.change-changed.ensures refl) c.conclude.ensures
