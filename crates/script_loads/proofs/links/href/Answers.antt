use Rattle.script_loads.proofs.Ways.{href_loads}
use Rattle.script_loads.proofs.links.href.Goals as goal

pub returns : goal.returns
returns c = href_loads c.args.s c.args.url c.args.noreferrer c.args.target c.navigate.ensures
