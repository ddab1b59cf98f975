-- 8; in place, where neither 6 nor 7 comes; or on a copy.
use Rattle.std.specs.Prelude.{◌≡◌, true, length, Err}
use Rattle.std.proofs.Common.{◌∙◌, sym, rules, arith}
use Rattle.types.specs.declared.refusals.Refusal.{Refusal}
use Rattle.types.specs.declared.refusals.Refusal.TheVariants.{Closed as Shut}
use Rattle.sorted.proofs.Count.{mapped}
use Rattle.browser.specs.View.{is_roomy}
use Rattle.rehearsal.proofs.Told.{kept, in_place}
use Rattle.rehearsal.proofs.Ways.{refusing_so, closed, opened}
use Rattle.rehearsal.proofs.steps.rehearse_item.Goals as goal

pub returns-then-is_closed : goal.returns-then-is_closed
returns-then-is_closed c = closed c.args.item c.args.m.now _ _ (sym c.is_closed.ensures ∙ c.if-is_closed.true) (refusing_so Shut _ _ _)

pub returns-then-is_wide : goal.returns-then-is_wide
returns-then-is_wide c =
    let rows : length c.args.item.cookies.rows ≡ 4 = (let g = c.well_formed.0 in search (mapped, g)) in
    let roomy : is_roomy c.args.m.now ≡ true = sym c.is_roomy.ensures ∙ c.if-is_roomy.true in
    let same : (why : Refusal) → c.tell.result ≡ Err why → c.act.new.m ≡ c.args.m.now = λ why e.
    kept c.args.m.now c.act.new.m _ _ _ _ why c.args.item rows roomy (omega arith) c.act.ensures (rw e at c.tell.ensures) in
    opened c.args.item c.args.m.now _ _ (sym c.is_closed.ensures ∙ c.if-is_closed.false) (in_place _ _ _ _ _ _ same _ _ c.act.ensures c.tell.ensures)

pub returns-else-is_roomy : goal.returns-else-is_roomy
returns-else-is_roomy c = opened c.args.item c.args.m.now _ _ (sym c.is_closed.ensures ∙ c.if-is_closed.false) c.on_a_copy.ensures
