-- A law for each step: the search stops at its limit here.
use mathlib.Core.Path.{sym, ◌∙◌}
use Rattle.csexp.proofs.Lists.{list-opened, field-passed, field-missed, word-passed, word-missed, list-closed, list_open}
use Rattle.reading_parts.proofs.loading.read_xhr.Goals as goal

pub returns-in_err-b : goal.returns-in_err-b
returns-in_err-b c = record { exactly = c.from_residual-in_err-b.ensures ∙ sym (list-opened _ c.in_ok-a.ensures ∙ word-missed _ _ c.in_err-b.ensures) }

pub returns-in_err-url : goal.returns-in_err-url
returns-in_err-url c = record { exactly = c.from_residual-in_err-url.ensures ∙ sym (list-opened _ c.in_ok-a.ensures ∙ word-passed _ _ c.in_ok-b.ensures ∙ field-missed _ c.in_err-url.ensures) }

pub returns-in_err-method : goal.returns-in_err-method
returns-in_err-method c = record { exactly = c.from_residual-in_err-method.ensures ∙ sym (list-opened _ c.in_ok-a.ensures ∙ word-passed _ _ c.in_ok-b.ensures ∙ field-passed _ c.in_ok-url.ensures ∙ field-missed _ c.in_err-method.ensures) }

pub returns-in_err-data : goal.returns-in_err-data
returns-in_err-data c = record { exactly = c.from_residual-in_err-data.ensures ∙ sym (list-opened _ c.in_ok-a.ensures ∙ word-passed _ _ c.in_ok-b.ensures ∙ field-passed _ c.in_ok-url.ensures ∙ field-passed _ c.in_ok-method.ensures ∙ field-missed _ c.in_err-data.ensures) }

pub returns-in_err-matching : goal.returns-in_err-matching
returns-in_err-matching c = record { exactly = c.from_residual-in_err-matching.ensures ∙ sym (list-opened _ c.in_ok-a.ensures ∙ word-passed _ _ c.in_ok-b.ensures ∙ field-passed _ c.in_ok-url.ensures ∙ field-passed _ c.in_ok-method.ensures ∙ field-passed _ c.in_ok-data.ensures ∙ field-missed _ c.in_err-matching.ensures) }

pub returns-in_err-next : goal.returns-in_err-next
returns-in_err-next c = record { exactly = c.from_residual-in_err-next.ensures ∙ sym (list-opened _ c.in_ok-a.ensures ∙ word-passed _ _ c.in_ok-b.ensures ∙ field-passed _ c.in_ok-url.ensures ∙ field-passed _ c.in_ok-method.ensures ∙ field-passed _ c.in_ok-data.ensures ∙ field-passed _ c.in_ok-matching.ensures ∙ list_open _ c.in_err-next.ensures) }

pub returns : goal.returns
returns c = record { exactly = sym (list-opened _ c.in_ok-a.ensures ∙ word-passed _ _ c.in_ok-b.ensures ∙ field-passed _ c.in_ok-url.ensures ∙ field-passed _ c.in_ok-method.ensures ∙ field-passed _ c.in_ok-data.ensures ∙ field-passed _ c.in_ok-matching.ensures ∙ list-closed c.in_ok-next.ensures) }
