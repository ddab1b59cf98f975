-- What goes with the window is taken out.
use Rattle.std.specs.Prelude.{None as none}
use Rattle.std.proofs.Common.{[], ◌∷◌, refl, rules}
use Rattle.tables.specs.Tables.{windows, documents, inputs}
use Rattle.wim.specs.Program.{done, run}
use Rattle.wim.specs.Script.{remove}
use Rattle.removing.specs.Gone.{going, removed}
use Rattle.scripts.proofs.Ways.{closes}
use Rattle.scripts.proofs.commands.moves.close.Goals as goal

pub returns : goal.returns
unfolding run
returns c =
    let gone = going c.with_all_under-gone.result in
    closes c.args.s c.args.m.now c.args.x c.target-v.result c.target-v.ensures gone c.with_all_under-gone.ensures (c.end.ensures (remove gone (done none)) record {
      does = removed gone.windows gone.documents;
      puts = [];
      drops = windows ∷ documents ∷ inputs ∷ [];
      brings = tt;
      ran = λ b. refl;
      clear = refl;
      carries = λ k l room h. search rules;
    })
