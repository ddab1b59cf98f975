-- What counts is a part of the array, and a slice's `contains` asks as the definition does.
use Rattle.std.proofs.Common.{◌∙◌}
use Rattle.sorted.proofs.Count.{mapped}
use Rattle.labels.proofs.Laws.{contains-window_one_of}
use Rattle.labels.proofs.numbers.window_one_of.Goals as goal

pub returns : goal.returns
returns c = c.contains.ensures.value ∙ contains-window_one_of c.args.s.count 33 _ c.args.v c.args.s.rows (search mapped) c.min.ensures
