-- Where a row is put there is room behind what was put before.
use Rattle.std.proofs.Common.{rules, ◌≡◌, ◌∙◌, ap}
use Rattle.std.specs.Prelude.{Bool, ◌&&◌, None as none}
use Rattle.tables.specs.Tables.{inputs}
use Rattle.stepping.specs.Gives.{concluded}
use Rattle.stepping.proofs.Carry.{put-carries}
use Rattle.responses.proofs.responses.takes.Goals as goal

pub returns-after-room : goal.returns-after-room
returns-after-room c =
    let e : c.if-room.conclude ≡ (c.args.room && c.enter-entered.result) = search rules in
    rw c.in-Loaded.is record {
      put = c.enter-entered.result;
      carries = rw c.new_document-row.ensures at c.enter-entered.ensures;
      concludes = c.conclude.ensures ∙ ap (λ (x : Bool). concluded x none) e;
    }

pub returns-after-room-2 : goal.returns-after-room-2
returns-after-room-2 c =
    let e : c.if-room-2.conclude ≡ (c.args.room && c.put-filed.result) = search rules in
    rw c.in-Handed.is record {
      put = c.put-filed.result;
      carries = put-carries inputs c.put-filed.ensures;
      concludes = c.conclude-in-Handed.ensures ∙ ap (λ (x : Bool). concluded x none) e;
    }
