-- The document that GETWINDOW gives is changed.
use Rattle.std.specs.Prelude.{None as none}
use Rattle.std.proofs.Common.{[], refl, rules, map}
use Rattle.tables.specs.Tables.{documents, update}
use Rattle.tables.specs.Rows.{changing, with_state}
use Rattle.wim.specs.Program.{revise, done, run}
use Rattle.scripts.proofs.Ways.{sets}
use Rattle.scripts.proofs.commands.words.set_script_state.Goals as goal

pub returns : goal.returns
unfolding run
returns c = sets c.args.s c.args.m.now c.args.x (with_state c.args.v) c.get_window.result c.get_window.ensures (c.end.ensures (revise documents (changing c.get_window.result.number (with_state c.args.v)) (done none)) record {
  does = update documents (map (changing c.get_window.result.number (with_state c.args.v)));
  puts = [];
  drops = [];
  brings = tt;
  ran = λ b. refl;
  clear = refl;
  carries = λ k l room h. search rules;
})
