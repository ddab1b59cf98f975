-- A count beyond the capacity reads as the capacity.
use Rattle.std.proofs.Common.{sym, ◌∙◌}
use Rattle.memory.proofs.Table.{counted}
use Rattle.rows.specs.Tables.{laid}
use Rattle.rows.proofs.Table.size.Goals as goal

pub returns : goal.returns
returns g c = c.used.ensures ∙ (rw (c.COUNT.ensures, c.CAPACITY.ensures) (sym (counted (laid g.Self.Table.COUNT g.Self.Table.WIDTH g.Self.Table.CAPACITY g.Self.Table.decode) c.args.m.now)))
