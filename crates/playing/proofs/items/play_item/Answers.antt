-- The browser behind the item, and its line.
use Rattle.std.proofs.Common.{◌≡◌, ◌∙◌, subst}
use Rattle.rehearsal.specs.Rehearses.{Rehearsed, count_of}
use Rattle.playing.specs.Lines.{Answered}
use Rattle.playing.proofs.Answering.{told-count, count-short, turned}
use Rattle.playing.proofs.items.play_item.Goals as goal

pub put_answer-p-requires-clause-count_bound : goal.put_answer-p-requires-clause-count_bound
put_answer-p-requires-clause-count_bound c =
    rw (c.unwrap_or.ensures, told-count c.step-told.result) (count-short c.args.text.now c.args.m.now c.args.out.now c.args.at c.step-told.result _ _ c.step-told.ensures c.requires)

pub returns : goal.returns
returns c =
    turned c.args.text.now c.args.m.now c.args.out.now c.args.at c.step-told.result _ _ c.step-told.ensures c.requires c.number.ensures
    (rw (c.unwrap_or.ensures, told-count c.step-told.result) at c.put_answer-p.ensures) c.put_byte.ensures
