-- The window is put, what waits for it is cancelled, and HTTP_SEND goes on from there.
use Rattle.std.proofs.Common.{[], ◌∷◌, refl, rules}
use Rattle.tables.specs.Tables.{windows, pending_dns, pending_requests}
use Rattle.wim.specs.Program.{Program, run}
use Rattle.stepping.proofs.Sends.{brings_send}
use Rattle.script_loads.specs.Navigation.{sent_into, opener_by, opened, into_new}
use Rattle.script_loads.proofs.navigation.into_new.Goals as goal

pub returns : goal.returns
unfolding run
returns c = c.load.ensures (into_new (λ (p : Program). p) (opener_by c.args.l c.args.s.window) (sent_into c.args.s.document c.args.l)) record {
  does = opened c.args.s.fresh.window c.new_top_window-row.result;
  puts = windows ∷ [];
  drops = pending_requests ∷ pending_dns ∷ [];
  brings = (refl, λ v. brings_send _);
  ran = λ b. rw (c.sending-o.ensures, c.new_top_window-row.ensures, c.opener.ensures);
  clear = refl;
  carries = λ k l room h. search rules;
}
