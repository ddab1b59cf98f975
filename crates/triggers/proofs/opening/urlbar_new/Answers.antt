-- A new window is put in, and HTTP_SEND goes on from there; or 5.
use Rattle.std.proofs.Common.{sym, ◌∙◌, refl}
use Rattle.tables.specs.Tables.{windows}
use Rattle.stepping.specs.Wanted.{wants_open}
use Rattle.wim.specs.Program.{run}
use Rattle.wim.specs.Main.{urlbar}
use Rattle.stepping.proofs.Carry.{put-carries}
use Rattle.stepping.proofs.Ways.{stales}
use Rattle.sending.proofs.Ways.{ends-sending}
use Rattle.triggers.proofs.Addresses.{brings_new}
use Rattle.triggers.proofs.opening.urlbar_new.Goals as goal

pub returns-then-not-ready : goal.returns-then-not-ready
returns-then-not-ready c = stales _ c.args.f wants_open (brings_new c.args.url c.args.f) (sym c.ready.ensures ∙ c.if-not-ready.true) refl

pub returns : goal.returns
unfolding run urlbar
returns c = ends-sending _ c.args.f _ wants_open (sym c.ready.ensures ∙ c.if-not-ready.false) (rw c.sending_to.ensures) (put-carries windows c.put-room.ensures) c.http_send.ensures
