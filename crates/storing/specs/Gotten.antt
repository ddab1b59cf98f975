-- What GETWINDOW gives for a window in these tables (000 A2).
use Rattle.std.specs.Prelude.{List}
use Rattle.types.specs.declared.WindowNumber.{WindowNumber}
use Rattle.types.specs.declared.rows.Document.{Document}
use Rattle.types.specs.declared.rows.Window.{Window}
use Rattle.wim.specs.Program.{when, with_origin}
use Rattle.wim.specs.Script.{otherwise}
use Rattle.wim.specs.Walks.{active_document, is_reached}

abbrev pub gotten : List Window → List Document → Document → WindowNumber → Document
gotten ws ds d x = otherwise d (when (is_reached ws ds x) (with_origin d (active_document ds x)))
