-- What waits for the window is cancelled, and HTTP_SEND goes on from there.
use Rattle.std.proofs.Common.{[], ◌∷◌, refl, rules}
use Rattle.types.specs.declared.Cancelled.TheVariants.{Labelled}
use Rattle.types.specs.declared.Reference.TheVariants.{Req}
use Rattle.tables.specs.Tables.{pending_dns, pending_requests}
use Rattle.wim.specs.Program.{Program, run}
use Rattle.stepping.proofs.Sends.{brings_send}
use Rattle.sending.specs.Cancels.{cancelled}
use Rattle.script_loads.specs.Navigation.{sent_into, into_existing}
use Rattle.script_loads.proofs.navigation.into_existing.Goals as goal

pub returns : goal.returns
unfolding run
returns c = c.load.ensures (into_existing (λ (p : Program). p) (sent_into c.args.s.document c.args.l) c.args.v) record {
  does = cancelled (Labelled (Req c.args.v));
  puts = [];
  drops = pending_requests ∷ pending_dns ∷ [];
  brings = brings_send _;
  ran = λ b. rw c.sending-o.ensures;
  clear = refl;
  carries = λ k l room h. search rules;
}
