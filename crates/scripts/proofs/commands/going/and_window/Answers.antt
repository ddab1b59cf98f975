-- One more than there may be windows.
use Rattle.std.proofs.Common.{◌≡◌, length, rules}
use Rattle.scripts.proofs.commands.Front.{front, turned}
use Rattle.scripts.proofs.commands.going.and_window.Goals as goal

pub returns : goal.returns
returns c =
    let long : length c.args.ws.rows ≡ 33 = search rules in
    front 32 c.args.ws.count c.args.ws.rows c.min-others.result c.args.v _ c.min-others.ensures (turned c.args.v c.args.ws.rows _ long c.rotate_right.ensures.after)
