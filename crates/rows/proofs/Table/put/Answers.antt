-- In the place of the row with its key, in a new place, or refused.
use Rattle.std.proofs.Common.{refl, sym, ap, ◌∙◌}
use native.Mathlib.Omega.{arith}
use Rattle.memory.proofs.Loops.{place-within}
use Rattle.rows.specs.Tables.{laid}
use Rattle.rows.proofs.Tests.{few_rows}
use Rattle.rows.proofs.Places.{put_there, put_nowhere, put_before}
use Rattle.rows.proofs.Table.put.Goals as goal

pub returns-in-Ok : goal.returns-in-Ok
returns-in-Ok g c =
    put_there (λ r. g.Self.Table.key_of (g.Self.Table.head_of r)) g.Self.Table.cmp (g.Self.Table.kept c.args.row)
    (c.key.ensures ∙ ap g.Self.Table.key_of c.head.ensures ∙ sym (g.met.Self.Table.same_key c.args.row)) c.in-Ok.ensures c.told-m g.met.Self.Table.fits refl c.write_at.ensures

pub place-requires : goal.place-requires
place-requires g c = omega (arith, place-within c.in-Err.ensures, few_rows (laid g.Self.Table.COUNT g.Self.Table.WIDTH g.Self.Table.CAPACITY g.Self.Table.decode) c.args.m.now)

pub returns-then-n-CAPACITY : goal.returns-then-n-CAPACITY
returns-then-n-CAPACITY g c =
    put_nowhere (λ r. g.Self.Table.key_of (g.Self.Table.head_of r)) g.Self.Table.cmp (g.Self.Table.kept c.args.row)
    (c.key.ensures ∙ ap g.Self.Table.key_of c.head.ensures ∙ sym (g.met.Self.Table.same_key c.args.row)) c.in-Err.ensures c.told-m g.met.Self.Table.fits refl (omega (arith, c.size-n.ensures))

pub returns-else-n-CAPACITY : goal.returns-else-n-CAPACITY
returns-else-n-CAPACITY g c =
    rw (c.COUNT.ensures, c.size-n.ensures)
    (put_before (λ r. g.Self.Table.key_of (g.Self.Table.head_of r)) g.Self.Table.cmp (g.Self.Table.kept c.args.row)
    (c.key.ensures ∙ ap g.Self.Table.key_of c.head.ensures ∙ sym (g.met.Self.Table.same_key c.args.row)) c.in-Err.ensures c.told-m g.met.Self.Table.fits
    c.place.result c.place-in-Err.result c.WIDTH.result refl (omega (arith, c.size-n.ensures, few_rows (laid g.Self.Table.COUNT g.Self.Table.WIDTH g.Self.Table.CAPACITY g.Self.Table.decode) c.args.m.now)) c.place.ensures (rw (sym c.size-n.ensures) c.place-in-Err.ensures) c.WIDTH.ensures c.shift.ensures c.write_at-in-Err.ensures)
