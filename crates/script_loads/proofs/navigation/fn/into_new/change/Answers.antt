-- The window is put, and then what waits for it is cancelled.
use Rattle.std.proofs.Common.{refl}
use Rattle.tables.specs.Tables.{windows}
use Rattle.stepping.proofs.Carry.{then_roomy, put-carries}
use Rattle.script_loads.proofs.navigation.fn.into_new.change.Goals as goal

pub returns : goal.returns
returns c = then_roomy refl (put-carries windows c.put-opened.ensures) c.cancel.ensures
