-- What CANCELNAV takes from the tables (000 A3): the edits of `cancel_nav` as a function.
use Rattle.std.specs.Prelude.{not, [], ◌∷◌}
use Rattle.types.specs.declared.Cancelled.{Cancelled}
use Rattle.types.specs.declared.rows.Question.{Question}
use Rattle.types.specs.declared.rows.Waiting.{Waiting}
use Rattle.sorted.specs.Table.{sift}
use Rattle.tables.specs.Tables.{pending_dns, pending_requests, Tables, apply}
use Rattle.wim.specs.Sending.{cancels}

abbrev pub cancelled : Cancelled → Tables → Tables
cancelled c w =
    apply pending_dns (sift (λ (r : Question). not (cancels c r.reference)) ∷ [])
    (apply pending_requests (sift (λ (r : Waiting). not (cancels c r.reference)) ∷ []) w)
