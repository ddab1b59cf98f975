-- A law for each step: the search stops at its limit here.
use mathlib.Core.Path.{sym, ap, ◌∙◌}
use Rattle.std.specs.Prelude.{Some as some}
use Rattle.csexp.specs.At.{ends}
use Rattle.csexp.proofs.Lists.{list-opened, field-passed, field-missed, word-passed, word-missed, list-closed, list_open}
use Rattle.reading_answers.proofs.messages.read_resolved.Goals as goal

pub returns-in_err-b : goal.returns-in_err-b
returns-in_err-b c = record { exactly = c.from_residual-in_err-b.ensures ∙ sym (list-opened _ c.in_ok-a.ensures ∙ word-missed _ _ c.in_err-b.ensures) }

pub returns-in_err-host : goal.returns-in_err-host
returns-in_err-host c = record { exactly = c.from_residual-in_err-host.ensures ∙ sym (list-opened _ c.in_ok-a.ensures ∙ word-passed _ _ c.in_ok-b.ensures ∙ field-missed _ c.in_err-host.ensures) }

pub returns-in_err-address : goal.returns-in_err-address
returns-in_err-address c = record { exactly = c.from_residual-in_err-address.ensures ∙ sym (list-opened _ c.in_ok-a.ensures ∙ word-passed _ _ c.in_ok-b.ensures ∙ field-passed _ c.in_ok-host.ensures ∙ field-missed _ c.in_err-address.ensures) }

pub returns-in_err-number : goal.returns-in_err-number
returns-in_err-number c = record { exactly = c.from_residual-in_err-number.ensures ∙ sym (list-opened _ c.in_ok-a.ensures ∙ word-passed _ _ c.in_ok-b.ensures ∙ field-passed _ c.in_ok-host.ensures ∙ field-passed _ c.in_ok-address.ensures ∙ field-missed _ c.in_err-number.ensures) }

pub returns-in_err-next : goal.returns-in_err-next
returns-in_err-next c = record { exactly = c.from_residual-in_err-next.ensures ∙ sym (list-opened _ c.in_ok-a.ensures ∙ word-passed _ _ c.in_ok-b.ensures ∙ field-passed _ c.in_ok-host.ensures ∙ field-passed _ c.in_ok-address.ensures ∙ field-passed _ c.in_ok-number.ensures ∙ list_open _ c.in_err-next.ensures) }

pub returns : goal.returns
returns c = record { exactly = ap (λ v. some (ends v c.in_ok-next.next)) c.quietly.ensures ∙ sym (list-opened _ c.in_ok-a.ensures ∙ word-passed _ _ c.in_ok-b.ensures ∙ field-passed _ c.in_ok-host.ensures ∙ field-passed _ c.in_ok-address.ensures ∙ field-passed _ c.in_ok-number.ensures ∙ list-closed c.in_ok-next.ensures) }
