-- The numbers of the windows under these documents, as far as row i.
use Rattle.types.specs.Lists.{document_numbers}
use Rattle.memory.specs.Rows.{table}
use Rattle.memory.proofs.Picking.{Gathering}
use Rattle.layouts.specs.Tables.{windows_in, documents_in}
use Rattle.wim.specs.Nouns.{Window}
use Rattle.wim.specs.Walks.{steps, is_under}
use Rattle.removing.proofs.windows_under.Given as goal

abbrev pub invariant-loop-i : goal.invariant-loop-i
invariant-loop-i l =
    Gathering windows_in (λ (r : Window). is_under steps (table windows_in l.m) (table documents_in l.m) (document_numbers l.gone) r.number) (λ (r : Window). r.number) l.m l.i-end l.rows l.i l.count
