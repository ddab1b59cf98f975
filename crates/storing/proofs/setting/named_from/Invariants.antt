use Rattle.std.proofs.Common.{◌≡◌}
use lib.ListN.{drop}
use Rattle.types.specs.Lists.{cookies_in}
use Rattle.wim.specs.Cookies.{named}
use Rattle.storing.proofs.setting.named_from.Given as goal

abbrev pub invariant-loop-i : goal.invariant-loop-i
invariant-loop-i l = named l.name (drop l.i (cookies_in l.few)) ≡ named l.name (drop l.from (cookies_in l.few))
