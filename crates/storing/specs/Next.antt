-- The next input of a document's script: its arrival is one more than the document has (000 A7:86, A8:49).
use Rattle.std.specs.Prelude.{List, suc, length}
use Rattle.types.specs.declared.DocumentNumber.{DocumentNumber}
use Rattle.types.specs.declared.rows.Input.{Input}
use Rattle.types.specs.declared.rows.News.{News}
use Rattle.sorted.specs.Table.{keep}
use Rattle.tables.specs.Rows.{same_document}

abbrev pub next_input : DocumentNumber → News → List Input → Input
next_input n news is = record { document = n; arrival = suc (length (keep (λ (i : Input). same_document i.document n) is)); news = news }
