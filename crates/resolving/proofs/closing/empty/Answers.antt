-- Table by table.
use Rattle.std.proofs.Common.{refl, rules}
use Rattle.tables.specs.Tables.{windows, documents, cookies, session_storage, inputs, pending_dns, pending_requests}
use Rattle.stepping.proofs.Carry.{carries-then, keep-carries, cleared_carries}
use Rattle.resolving.proofs.closing.empty.Goals as goal

pub returns : goal.returns
returns c =
    carries-then refl (carries-then refl (carries-then refl (carries-then refl (carries-then refl (carries-then refl
    (cleared_carries windows c.clear.ensures)
    (cleared_carries documents c.clear-2.ensures))
    (cleared_carries inputs c.clear-3.ensures))
    (cleared_carries pending_dns c.clear-4.ensures))
    (cleared_carries pending_requests c.clear-5.ensures))
    (cleared_carries session_storage c.clear-6.ensures))
    (keep-carries cookies (c.keep.ensures.kept _ (λ r b h. search rules)))
