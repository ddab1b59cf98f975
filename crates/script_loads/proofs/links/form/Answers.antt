-- GET and POST go on; else WIM stops.
use Rattle.std.proofs.Common.{rules}
use Rattle.script_loads.proofs.Ways.{form_loads, form_stops}
use Rattle.script_loads.proofs.links.form.Goals as goal

pub returns-then-not-is_form_method : goal.returns-then-not-is_form_method
returns-then-not-is_form_method c = form_stops c.args.s c.args.url c.args.method c.args.«data» c.args.target (search rules)

pub returns : goal.returns
returns c = form_loads c.args.s c.args.url c.args.method c.args.«data» c.args.target (search rules) c.navigate.ensures
