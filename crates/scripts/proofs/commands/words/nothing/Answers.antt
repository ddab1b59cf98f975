-- Nothing is changed.
use Rattle.std.specs.Prelude.{None as none}
use Rattle.std.proofs.Common.{[], refl, rules}
use Rattle.tables.specs.Tables.{Tables}
use Rattle.wim.specs.Program.{done, run}
use Rattle.stepping.proofs.Carry.{carries-none}
use Rattle.scripts.proofs.commands.words.nothing.Goals as goal

pub returns : goal.returns
unfolding run
returns c = c.end.ensures (done none) record {
  does = λ (b : Tables). b;
  puts = [];
  drops = [];
  brings = tt;
  ran = λ b. refl;
  clear = refl;
  carries = λ k l room h. search (rules, carries-none);
}
