-- By what the calls ensure.
use Rattle.std.proofs.Common.{rules, ◌≡◌, ◌∙◌, ap, map, suc, length}
use Rattle.std.specs.Prelude.{Option}
use Rattle.types.specs.declared.rows.Document.{Document}
use Rattle.memory.specs.Rows.{table}
use Rattle.layouts.specs.Tables.{windows_in, documents_in}
use Rattle.documents.specs.Told.{number_of}
use Rattle.wim.specs.Program.{observed}
use Rattle.wim.specs.Walks.{documents_of, active_document, removal}
use Rattle.wim.specs.History.{place_of}
use Rattle.wim.specs.Response.{later_than, up_to}
use Rattle.responses.proofs.loading.look.Goals as goal

pub returns : goal.returns
unfolding active_document observed
returns c =
    let now = c.active_document-current.ensures in
    let h = documents_of (table documents_in c.args.m.now) c.args.v in
    let was : c.map_or.result ≡ place_of c.active_document-current.result = search rules in
    record {
      was = was ∙ ap place_of now;
      place = c.place_behind.ensures ∙ ap (λ (o : Option Document). suc (length (up_to o h))) now;
      gone = c.removal.ensures ∙ ap (removal (table windows_in c.args.m.now) (table documents_in c.args.m.now)) (c.later_than.ensures ∙ ap (λ (o : Option Document). map number_of (later_than o h)) now);
    }
