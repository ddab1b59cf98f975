-- What goes with documents that go, and the tables without it: the same edits as in the programs of `wim`, as functions.
use Rattle.std.specs.Prelude.{not, List, [], ◌∷◌}
use Rattle.sorted.specs.Table.{sift}
use Rattle.types.specs.Lists.{window_numbers, document_numbers}
use Rattle.tables.specs.Tables.{windows, documents, inputs, Tables, apply}
use Rattle.tables.specs.Rows.{one_of, window_one_of}
use Rattle.wim.specs.Nouns.{WindowNumber, DocumentNumber, Window, Document, Input}
use Rattle.wim.specs.Walks.{Removal}
use Rattle.removing.specs.declared.told.Removal.{Removal as Gone}

abbrev pub going : Gone → Removal
going r = record { windows = window_numbers r.windows; documents = document_numbers r.documents }

abbrev pub without_windows : List WindowNumber → Tables → Tables
without_windows gone = apply windows (sift (λ (r : Window). not (window_one_of r.number gone)) ∷ [])

abbrev pub without_documents : List DocumentNumber → Tables → Tables
without_documents gone = apply documents (sift (λ (d : Document). not (one_of d.number gone)) ∷ [])

abbrev pub without_inputs : List DocumentNumber → Tables → Tables
without_inputs gone = apply inputs (sift (λ (i : Input). not (one_of i.document gone)) ∷ [])

abbrev pub removed : List WindowNumber → List DocumentNumber → Tables → Tables
removed ws ds w = without_inputs ds (without_documents ds (without_windows ws w))
