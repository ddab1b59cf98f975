-- What the two questions that stand before reload, back, forward and every script step are answered with, as one answer.
use Rattle.std.specs.Prelude.{Option, None as none, Some as some, Result, Ok, Err}
use Rattle.types.specs.declared.WindowNumber.{WindowNumber}
use Rattle.types.specs.declared.refusals.Missing.{Missing}
use Rattle.types.specs.declared.refusals.Missing.TheVariants.{NoWindow, NoDocument}
use Rattle.types.specs.declared.rows.Document.{Document}
use Rattle.tables.specs.Tables.{Tables}
use Rattle.wim.specs.Program.{observed, reached, active}

-- the top-level window from which the window is reached and the active document in it, or what isn't there
abbrev pub Display : Type 0
Display = Result (WindowNumber × Document) Missing

-- a window that is not reached lacks itself, whatever documents it has
abbrev pub display : Option WindowNumber → Option Document → Display
display none document = Err NoWindow
display (some top) none = Err NoDocument
display (some top) (some d) = Ok (top, d)

abbrev pub display_at : WindowNumber → Tables → Display
display_at w b = display (observed (reached w) b) (observed (active w) b)
