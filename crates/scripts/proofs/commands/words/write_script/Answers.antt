-- One document's row is another.
use Rattle.std.proofs.Common.{rules}
use Rattle.tables.specs.Tables.{documents}
use Rattle.tables.specs.Rows.{changing, with_script}
use Rattle.stepping.proofs.Carry.{revised_carries}
use Rattle.scripts.proofs.commands.words.write_script.Goals as goal

pub returns : goal.returns
returns c = revised_carries documents (c.revise.ensures.revised (changing c.args.n (with_script c.args.v)) (λ r e h. search rules))
