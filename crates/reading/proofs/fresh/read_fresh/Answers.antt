-- A law for each step: the search stops at its limit here.
use mathlib.Core.Path.{sym, ◌∙◌}
use Rattle.csexp.proofs.Lists.{list-opened, field-tried, list-closed, list_open}
use Rattle.reading.proofs.fresh.read_fresh.Goals as goal

pub returns-in_err-next : goal.returns-in_err-next
returns-in_err-next c = record { exactly = c.from_residual-in_err-next.ensures ∙ sym (list-opened _ c.in_ok-a.ensures ∙ field-tried _ c.fresh_number-window.ensures ∙ field-tried _ c.fresh_number-request.ensures ∙ field-tried _ c.fresh_number-dns.ensures ∙ field-tried _ c.fresh_number-key.ensures ∙ field-tried _ c.fresh_number-document.ensures ∙ list_open _ c.in_err-next.ensures) }

pub returns : goal.returns
returns c = record { exactly = sym (list-opened _ c.in_ok-a.ensures ∙ field-tried _ c.fresh_number-window.ensures ∙ field-tried _ c.fresh_number-request.ensures ∙ field-tried _ c.fresh_number-dns.ensures ∙ field-tried _ c.fresh_number-key.ensures ∙ field-tried _ c.fresh_number-document.ensures ∙ list-closed c.in_ok-next.ensures) }
