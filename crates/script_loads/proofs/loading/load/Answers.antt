-- Not just the numbers that are wanted, and it is 5; or what the change says is what the program does.
use Rattle.std.proofs.Common.{◌≡◌, refl, rules}
use mathlib.Core.Bool.{◌&&◌}
use Rattle.script_loads.proofs.Ends.{stale, over}
use Rattle.script_loads.proofs.loading.load.Goals as goal

pub returns-then-not-ready : goal.returns-then-not-ready
returns-then-not-ready g c p h = stale c.args.wants c.args.s c.args.o p h (search rules)

pub returns : goal.returns
returns g c p h =
    let room : c.if-stored.http_send ≡ (c.store-stored.result && c.change-changed.result) = search rules in
    over c.args.wants c.args.s c.args.o p h (search rules) room c.store-stored.ensures c.change-changed.ensures refl c.http_send.ensures
