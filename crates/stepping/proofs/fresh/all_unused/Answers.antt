-- Each number that is given stands nowhere.
use Rattle.std.proofs.Common.{rules}
use Rattle.browser.specs.View.{view}
use Rattle.stepping.proofs.Spare.{five_spare}
use Rattle.stepping.proofs.fresh.all_unused.Goals as goal

pub returns-then-unused-4 : goal.returns-then-unused-4
returns-then-unused-4 c = five_spare (view c.args.m.now) c.args.f (search rules)

pub returns-else-unused-4 : goal.returns-else-unused-4
returns-else-unused-4 c = five_spare (view c.args.m.now) c.args.f (search rules)
