use Rattle.std.proofs.Common.{◌≡◌, Bool, ◌≤◌, length}
use Rattle.tables.specs.Nouns.{Document}
use Rattle.memory.proofs.Picking.{Gathering}
use Rattle.layouts.specs.Tables.{documents_in}
use Rattle.documents.specs.Told.{number_of}
use Rattle.rows.specs.Tables.{Decides}
use Rattle.documents.proofs.numbers.Given as goal

abbrev pub invariant-loop-i : goal.invariant-loop-i
invariant-loop-i g l =
    (l.j ≤ l.i) × (length l.out.rows ≡ 64) × (l.i-end ≤ 64)
    × ((p : Document → Bool) → Decides (goal.F-post g) l.test (λ (d : Document). d) p → Gathering documents_in p number_of l.m l.i-end l.out.rows l.i l.j)
