-- What counts is a part of the array, and a slice's `contains` asks as the definition does.
use Rattle.std.proofs.Common.{◌∙◌}
use Rattle.sorted.proofs.Count.{mapped}
use Rattle.labels.proofs.Laws.{contains-one_of}
use Rattle.labels.proofs.numbers.one_of.Goals as goal

pub returns : goal.returns
returns c = c.contains.ensures.value ∙ contains-one_of c.args.s.count 64 _ c.args.n c.args.s.rows (search mapped) c.min.ensures
