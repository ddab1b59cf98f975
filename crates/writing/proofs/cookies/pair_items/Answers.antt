use Rattle.std.proofs.Common.{◌≡◌, ◌∙◌, ap, sym, subst, length, take, min, arith}
use Rattle.writing.proofs.CookieRows.{sixty_four}
use Rattle.csexp.specs.Encode.{each}
use Rattle.csexp.specs.Puts.{Items}
use Rattle.csexp.proofs.write.Steps.{items-none, items-one}
use Rattle.std.proofs.lemmas.List.{take_all, take_min}
use Rattle.shapes.specs.Events.{pair_term}
use Rattle.writing.proofs.cookies.pair_items.Goals as goal

pub loop-pair-init : goal.loop-pair-init
loop-pair-init c = items-none pair_term _ _ (omega arith)

pub loop-pair-preserved : goal.loop-pair-preserved
loop-pair-preserved c = items-one pair_term _ _ _ (omega arith) c.loop-pair.invariant c.write_pair-p.ensures

pub returns : goal.returns
returns c =
    let all : length c.args.jar.rows ≡ 64 = sixty_four c.args.jar _ c.well_formed.1.1.0 in
    let pairs : take c.min.result c.args.jar.rows ≡ take c.args.jar.count c.args.jar.rows =
    ap (λ n. take n c.args.jar.rows) c.min.ensures ∙ ap (λ n. take (min c.args.jar.count n) c.args.jar.rows) (sym all) ∙ take_min c.args.jar.count c.args.jar.rows in
    subst (λ ps. Items (each pair_term ps) c.args.out.now c.args.at c.loop-pair.out c.loop-pair.p) (take_all _ _ c.loop-pair-test.false ∙ pairs) c.loop-pair.invariant
