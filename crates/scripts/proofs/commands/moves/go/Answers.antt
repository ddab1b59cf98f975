-- Where the history leads nowhere, it is 4; else the history is turned.
use Rattle.std.proofs.Common.{[], sym, ◌∙◌, refl, rules}
use Rattle.history.specs.Directions.{turn, turned}
use Rattle.history.proofs.Ways.{ran}
use Rattle.scripts.proofs.Ways.{nowhere, turns}
use Rattle.scripts.proofs.commands.moves.go.Goals as goal

pub returns-in_err-from : goal.returns-in_err-from
returns-in_err-from c = nowhere c.args.s c.args.m.now c.args.x c.target-v.result c.target-v.ensures c.args.q (sym c.in_err-from.ensures.ok_part ∙ c.look.ensures) (search rules)

pub returns : goal.returns
returns c = turns c.args.s c.args.m.now c.args.x c.target-v.result c.target-v.ensures c.args.q c.in_ok-from.from c.in_ok-from.to (sym c.in_ok-from.ensures.ok_part ∙ c.look.ensures)
    (c.end.ensures (turn c.target-v.result c.in_ok-from.from c.in_ok-from.to) record {
      does = turned c.target-v.result c.in_ok-from.from c.in_ok-from.to;
      puts = [];
      drops = [];
      brings = tt;
      ran = ran c.target-v.result c.in_ok-from.from c.in_ok-from.to;
      clear = refl;
      carries = λ k l room h. search rules;
    })
