-- The look that reload begins with, on any tables and fresh numbers. No code stands here.
use mathlib.Core.Path.{◌≡◌}
use mathlib.Core.List.{List}
use Rattle.types.specs.declared.Cancelled.TheVariants.{Bare}
use Rattle.types.specs.declared.Reference.TheVariants.{Req}
use Rattle.types.specs.declared.WindowNumber.{WindowNumber}
use Rattle.types.specs.declared.rows.Document.{Document}
use Rattle.tables.specs.Tables.{Tables}
use Rattle.tables.specs.Labels.{Label}
use Rattle.wim.specs.Program.{Program, run}
use Rattle.wim.specs.Sending.{cancel_nav, send}
use Rattle.wim.specs.Main.{sending_to, reload}
use Rattle.history.specs.Display.{Display, display_at}
use Rattle.history.proofs.Ways.{goes_further, display-goes}

-- what it does once it has seen the document (000 A9:32 to 36)
abbrev pub again : WindowNumber → Document → Program
again w d = cancel_nav (Bare w) (send (sending_to (Req w) d.location d.referrer))

pub looks : (w : WindowNumber) (b : Tables) (f : List Label) (s : Display) → s ≡ display_at w b → run (reload w) b f ≡ goes_further (λ top. again w) b f s
unfolding reload
looks w b f s e = display-goes w (λ top. again w) b f s e
