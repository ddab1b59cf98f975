-- The loop is the law `Playing`.
use Rattle.std.proofs.Common.{sym, arith, rules}
use Rattle.playing.proofs.Loop.{starts, written-within, item_ahead, stop_ahead, goes_on, ends}
use Rattle.playing.proofs.portions.play.Goals as goal

pub loop-n-init : goal.loop-n-init
loop-n-init c = starts _ _ _ _

pub slice_bounds-next_in-count : goal.slice_bounds-next_in-count
slice_bounds-next_in-count c = c.loop-n.invariant.within

pub slice_bounds-next_in-start : goal.slice_bounds-next_in-start
slice_bounds-next_in-start c = omega (arith, c.loop-n.invariant.within)

pub overflow_sub-out : goal.overflow_sub-out
overflow_sub-out c = written-within c.loop-n.invariant

pub overflow_add-end : goal.overflow_add-end
overflow_add-end c = let inside = (item_ahead c.loop-n.invariant (sym c.in-Ok.ensures)).inside in omega arith

pub slice_bounds-play_item-end : goal.slice_bounds-play_item-end
slice_bounds-play_item-end c = let inside = (item_ahead c.loop-n.invariant (sym c.in-Ok.ensures)).inside in omega arith

pub play_item-written-requires : goal.play_item-written-requires
play_item-written-requires c = (item_ahead c.loop-n.invariant (sym c.in-Ok.ensures)).room

pub loop-n-smaller : goal.loop-n-smaller
loop-n-smaller c = let a = item_ahead c.loop-n.invariant (sym c.in-Ok.ensures) in let some_bytes = a.positive in let inside = a.inside in omega arith

pub loop-n-preserved : goal.loop-n-preserved
loop-n-preserved c = goes_on c.loop-n.invariant (sym c.in-Ok.ensures) c.play_item-written.ensures (search rules)

pub put_last-end-requires : goal.put_last-end-requires
put_last-end-requires c = stop_ahead c.loop-n.invariant (sym c.in-Err.ensures)

pub returns-in-Err : goal.returns-in-Err
returns-in-Err c = ends c.args.m.now c.loop-n.m c.loop-n.invariant (sym c.in-Err.ensures) c.put_last-end.ensures
