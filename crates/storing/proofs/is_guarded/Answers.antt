-- The first such row is found where there is one.
use Rattle.std.proofs.Common.{rules, ◌∙◌, ap}
use Rattle.sorted.specs.Table.{is_some}
use Rattle.memory.specs.Rows.{table}
use Rattle.layouts.specs.Tables.{host_cookies_in}
use Rattle.storing.proofs.Names.{guards_of, guarded-found}
use Rattle.storing.proofs.is_guarded.Goals as goal

pub returns : goal.returns
returns c = let a = c.args in c.is_some.ensures ∙ ap is_some (c.first.ensures.found (guards_of a.h a.c) (λ r b h. search rules)) ∙ guarded-found a.h a.c (table host_cookies_in a.m.now)
