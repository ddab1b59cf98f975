-- Accepted, and open or closed behind it; or as the event left it.
use Rattle.perform.proofs.Ends.{acted, idled}
use Rattle.perform.proofs.acting.act.Goals as goal

pub returns-then-is_ok : goal.returns-then-is_ok
returns-then-is_ok c = acted c.args.item c.args.m.now c.happen-done.new.m c.happen-done.result c.happen-done.ensures c.is_ok.ensures.value c.if-is_ok.true c.closes.ensures c.set_closed.ensures

pub returns-else-is_ok : goal.returns-else-is_ok
returns-else-is_ok c = idled c.args.item c.args.m.now c.happen-done.new.m c.happen-done.result c.happen-done.ensures c.is_ok.ensures.value c.if-is_ok.false
