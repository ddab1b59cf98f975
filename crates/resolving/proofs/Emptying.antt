-- The ways through CLOSECORRUPT, on any tables and fresh numbers. No code stands here.
use mathlib.Core.Path.{◌≡◌, refl}
use Rattle.std.specs.Prelude.{None as none}
use Rattle.types.specs.declared.Fresh.{Fresh}
use Rattle.tables.specs.Tables.{Tables}
use Rattle.wim.specs.Program.{made, run}
use Rattle.wim.specs.Main.{close_corrupt}
use Rattle.stepping.specs.Brings.{Brings}
use Rattle.stepping.specs.Wanted.{kinds, picked, wants_nothing}
use Rattle.resolving.specs.Emptied.{emptied}

pub brings_closing : (f : Fresh) → Brings (kinds (picked wants_nothing f)) close_corrupt
unfolding close_corrupt
brings_closing f = tt

pub ran_closing : (f : Fresh) (b : Tables) → run close_corrupt b (picked wants_nothing f) ≡ made (emptied b) none
unfolding run close_corrupt
ran_closing f b = refl
