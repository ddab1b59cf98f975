-- The first active one in the window is the first active one of its history.
use Rattle.std.proofs.Common.{rules, sym, ◌∙◌, ◌&&◌}
use Rattle.memory.proofs.Both.{find-both}
use Rattle.wim.specs.Nouns.{Document}
use Rattle.tables.specs.Rows.{same_window}
use Rattle.wim.specs.Walks.{documents_of, active_document}
use Rattle.walks.proofs.active_document.Goals as goal

pub returns : goal.returns
unfolding active_document documents_of
returns c = c.first.ensures.found (λ (d : Document). same_window d.window c.args.w && d.active) (λ r b h. search rules) ∙ sym (find-both (λ (d : Document). same_window d.window c.args.w) (λ (d : Document). d.active) _)
