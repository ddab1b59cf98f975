-- The run counts, and what the types hold is short.
use Rattle.writing.proofs.Held.{short-sent}
use Rattle.writing.proofs.Tops.{counted}
use Rattle.writing.proofs.length_of.Goals as goal

pub returns : goal.returns
returns c = counted (short-sent c.args.message _ c.well_formed.0) c.write_sent.ensures
