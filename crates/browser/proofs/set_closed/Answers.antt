-- One number is written, which no table has.
use Rattle.std.proofs.Common.{rules}
use Rattle.browser.proofs.Closed.{closing}
use Rattle.browser.proofs.set_closed.Goals as goal

pub returns : goal.returns
returns c = closing c.args.m.now c.args.closed c.from.result c.told-m (search rules)
