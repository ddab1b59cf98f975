-- The tables that accepted steps have made from empty ones are rooted, of whatever items.
use Rattle.tables.specs.Tables.{Tables}
use Rattle.wim.specs.Invariant.{Rooted, MadeTables, untouched, stepped}
use Rattle.invariant.proofs.Numbered.Steps.{made-numbered}
use Rattle.invariant.proofs.Rooted.Kept.{rooted-empty, rooted-step}

pub made-rooted : {b : Tables} → MadeTables b → Rooted b
made-rooted untouched = rooted-empty
made-rooted (stepped {b = b} {c = c} i m r e) = rooted-step i b c m (made-numbered r) (made-numbered (stepped i m r e)) (made-rooted r) e
