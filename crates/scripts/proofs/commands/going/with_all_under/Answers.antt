-- Of its documents all that stands under them, and the window itself.
use Rattle.std.proofs.Common.{arith, rules}
use Rattle.wim.specs.Walks.{documents_of}
use Rattle.memory.proofs.Table.{counted}
use Rattle.layouts.specs.Tables.{windows_in}
use Rattle.removing.specs.Gone.{going}
use Rattle.scripts.proofs.commands.Front.{goes_with}
use Rattle.scripts.proofs.commands.going.with_all_under.Goals as goal

pub returns : goal.returns
unfolding documents_of
returns c =
    goes_with _ _ 32 (omega (arith, counted windows_in c.args.m.now)) c.args.v _ _ (going c.removal-under.result) _ c.and_window.ensures c.removal-under.ensures
    (c.numbers-own.ensures.numbers _ (λ r b h. search rules))
