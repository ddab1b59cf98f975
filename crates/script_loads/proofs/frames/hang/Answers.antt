-- The window is put, and HTTP_SEND goes on from there.
use Rattle.std.specs.Prelude.{Some as some, None as none}
use Rattle.std.proofs.Common.{[], ◌∷◌, refl, rules}
use Rattle.sorted.specs.Table.{put}
use Rattle.tables.specs.Tables.{windows, apply}
use Rattle.wim.specs.Program.{Program, run}
use Rattle.wim.specs.Script.{iframe_in}
use Rattle.stepping.proofs.Carry.{put-carries}
use Rattle.stepping.proofs.Sends.{brings_send}
use Rattle.script_loads.proofs.frames.hang.Goals as goal

pub returns : goal.returns
unfolding run
returns c = c.load.ensures (iframe_in c.args.s.document (λ (p : Program). p) c.args.url c.args.e) record {
  does = apply windows (put (record { number = c.args.s.fresh.window; parent = some c.args.e.number; opener = none }) ∷ []);
  puts = windows ∷ [];
  drops = [];
  brings = (refl, λ v. brings_send _);
  ran = λ b. rw c.page_sending-o.ensures;
  clear = refl;
  carries = λ k l room h. search (rules, put-carries windows);
}
