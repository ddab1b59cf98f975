-- A bare number cancels nothing.
use Rattle.std.proofs.Common.{rules, refl}
use mathlib.Core.Bool.{not}
use Rattle.tables.specs.Tables.{pending_requests, pending_dns}
use Rattle.tables.specs.Rows.{same_reference}
use Rattle.stepping.proofs.Carry.{carries-then, keep-carries}
use Rattle.sending.proofs.Cancelling.{bare_carries}
use Rattle.sending.proofs.cancel.Goals as goal

pub returns-in-Labelled : goal.returns-in-Labelled
returns-in-Labelled c =
    let s = c.in-Labelled.s in
    rw c.in-Labelled.is
    (carries-then refl
    (keep-carries pending_requests (c.keep.ensures.kept (λ r. not (same_reference s r.reference)) (λ r b h. search rules)))
    (keep-carries pending_dns (c.keep-in-Labelled.ensures.kept (λ r. not (same_reference s r.reference)) (λ r b h. search rules))))

pub returns-in_default : goal.returns-in_default
returns-in_default c = rw c.in_default.is (bare_carries c.in_default.field-0 c.args.m.now)
