-- A law for each step: the search stops at its limit here.
use mathlib.Core.Path.{sym, ap, ◌∙◌}
use Rattle.csexp.proofs.Lists.{list-opened, word-passed, word-missed, list-closed, list_open}
use Rattle.std.specs.Prelude.{option_map}
use Rattle.csexp.proofs.Steps.{mapped}
use Rattle.reading_answers.proofs.Heading.{once_free}
use Rattle.reading_answers.proofs.headers.strict_header.Goals as goal

pub returns-in_err-b : goal.returns-in_err-b
returns-in_err-b c = record { exactly = c.from_residual-in_err-b.ensures ∙ sym (once_free _ _ _ c.if-h.false ∙ mapped _ _ _ _ ∙ ap (option_map _) (list-opened _ c.in_ok-a.ensures ∙ word-missed _ _ c.in_err-b.ensures)) }

pub returns-in_err-t : goal.returns-in_err-t
returns-in_err-t c = record { exactly = c.from_residual-in_err-t.ensures ∙ sym (once_free _ _ _ c.if-h.false ∙ mapped _ _ _ _ ∙ ap (option_map _) (list-opened _ c.in_ok-a.ensures ∙ word-passed _ _ c.in_ok-b.ensures ∙ word-missed _ _ c.in_err-t.ensures)) }

pub returns-in_err-next : goal.returns-in_err-next
returns-in_err-next c = record { exactly = c.from_residual-in_err-next.ensures ∙ sym (once_free _ _ _ c.if-h.false ∙ mapped _ _ _ _ ∙ ap (option_map _) (list-opened _ c.in_ok-a.ensures ∙ word-passed _ _ c.in_ok-b.ensures ∙ word-passed _ _ c.in_ok-t.ensures ∙ list_open _ c.in_err-next.ensures)) }

pub returns : goal.returns
returns c = record { exactly = sym (once_free _ _ _ c.if-h.false ∙ mapped _ _ _ _ ∙ ap (option_map _) (list-opened _ c.in_ok-a.ensures ∙ word-passed _ _ c.in_ok-b.ensures ∙ word-passed _ _ c.in_ok-t.ensures ∙ list-closed c.in_ok-next.ensures)) }
