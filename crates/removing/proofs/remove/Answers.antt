-- One table after the other.
use Rattle.std.proofs.Common.{rules, refl}
use Rattle.std.specs.Prelude.{not}
use Rattle.types.specs.Lists.{window_numbers, document_numbers}
use Rattle.tables.specs.Rows.{one_of, window_one_of}
use Rattle.tables.specs.Tables.{windows, documents, inputs}
use Rattle.wim.specs.Nouns.{Window, Document, Input}
use Rattle.stepping.proofs.Carry.{carries-then, keep-carries}
use Rattle.removing.proofs.remove.Goals as goal

pub returns : goal.returns
returns c =
    let gone = c.args.gone in
    carries-then refl
    (carries-then refl
    (keep-carries windows (c.keep.ensures.kept (λ (r : Window). not (window_one_of r.number (window_numbers gone.windows))) (λ r b h. search rules)))
    (keep-carries documents (c.keep-2.ensures.kept (λ (d : Document). not (one_of d.number (document_numbers gone.documents))) (λ r b h. search rules))))
    (keep-carries inputs (c.keep-3.ensures.kept (λ (i : Input). not (one_of i.document (document_numbers gone.documents))) (λ r b h. search rules)))
