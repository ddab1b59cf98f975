-- A window that is not reached is refused; a message is filed where it is meant, and else nobody hears of it.
use Rattle.std.specs.Prelude.{None as none, Some as some}
use Rattle.std.proofs.Common.{◌≡◌, [], ◌∷◌, sym, ◌∙◌, refl, rules}
use Rattle.sorted.specs.Table.{put}
use Rattle.tables.specs.Tables.{inputs, apply}
use Rattle.wim.specs.Program.{edit, done, run}
use Rattle.stepping.proofs.Carry.{put-carries}
use Rattle.scripts.proofs.Ways.{unreached, heard, unheard}
use Rattle.scripts.proofs.commands.posting.post_message.Goals as goal
use Rattle.scripts.proofs.commands.posting.post_message.Goals.{in_default-via-in-Some+else-is_for, in_default-via-in_default}

pub returns-in_err-ok_or : goal.returns-in_err-ok_or
returns-in_err-ok_or c = unreached c.args.s c.args.message c.args.to c.args.x (sym c.in_err-ok_or.ensures.ok_part ∙ c.reached.ensures) (search rules)

pub returns-in-Some : goal.returns-in-Some
unfolding run
returns-in-Some c = heard c.args.s c.args.message c.args.to c.args.x (sym c.in_ok-ok_or.ensures.ok_part ∙ c.reached.ensures) c.in-Some.d (sym c.in-Some.is ∙ c.active_document.ensures) (sym c.is_for.ensures ∙ c.if-is_for.true) c.next_input-row.result (search rules)
    (c.end.ensures (edit inputs (put c.next_input-row.result ∷ []) (done none)) record {
      does = apply inputs (put c.next_input-row.result ∷ []);
      puts = inputs ∷ [];
      drops = [];
      brings = tt;
      ran = λ b. refl;
      clear = refl;
      carries = λ k l room h. search (rules, put-carries inputs);
    })

pub returns-in_default : goal.returns-in_default
returns-in_default c = elim c.in_default.branch [
  | in_default-via-in-Some+else-is_for w ↦ unheard c.args.s c.args.message c.args.to c.args.x (sym c.in_ok-ok_or.ensures.ok_part ∙ c.reached.ensures) c.active_document.result c.active_document.ensures
      (λ d e. let z : some d ≡ some w.in-Some.d = sym e ∙ w.in-Some.is in let g : d ≡ w.in-Some.d = cc in rw g (sym w.is_for.ensures ∙ w.if-is_for.false)) c.nothing.ensures
  | in_default-via-in_default w ↦ unheard c.args.s c.args.message c.args.to c.args.x (sym c.in_ok-ok_or.ensures.ok_part ∙ c.reached.ensures) c.active_document.result c.active_document.ensures
      (λ d e. absurd (w.in_default.not-Some d e)) c.nothing.ensures
]
