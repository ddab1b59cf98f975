-- Where the header is not there nothing changes.
use Rattle.std.proofs.Common.{rules, ◌≡◌, false, sym, ◌∙◌}
use Rattle.std.specs.Prelude.{◌&&◌}
use Rattle.tables.specs.Tables.{sts, is_secure}
use Rattle.stepping.proofs.Carry.{unedited, carries_same, and-puts, put-carries}
use Rattle.responses.proofs.headers.put_strict.Goals as goal

pub returns-then-is_secure : goal.returns-then-is_secure
returns-then-is_secure c = rw (c.if-a.true, sym c.is_secure.ensures ∙ c.if-is_secure.true) (put-carries sts c.put.ensures)

pub returns-else-a : goal.returns-else-a
returns-else-a c = let e : (c.args.a.strict && is_secure c.args.w.url.protocol) ≡ false = search rules in rw e (and-puts sts (carries_same (unedited sts) _))
