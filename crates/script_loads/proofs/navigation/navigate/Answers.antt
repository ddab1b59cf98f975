-- The named window is the one that GETNAVIGABLEWINDOW gives.
use Rattle.script_loads.proofs.Ways.{navigates}
use Rattle.script_loads.proofs.navigation.navigate.Goals as goal

pub returns-in-Existing : goal.returns-in-Existing
returns-in-Existing c = navigates c.args.s c.args.l c.in-Existing.is c.navigated-v.ensures c.into_existing.ensures
