use mathlib.Core.Path.{sym, ap, ◌∙◌}
use Rattle.shapes.proofs.Texts.{no_text}
use Rattle.reading.proofs.Takings.{taken_as, whole_item}
use Rattle.reading.proofs.texts.read_item.Goals as goal

pub returns-then-not-whole : goal.returns-then-not-whole
returns-then-not-whole c = sym (no_text _ (sym c.whole.ensures ∙ c.if-not-whole.true))

pub returns-in-Some : goal.returns-in-Some
returns-in-Some c = ap taken_as c.in-Some.ensures.exactly ∙ sym (whole_item _ (sym c.whole.ensures ∙ c.if-not-whole.false))

pub returns-in-None : goal.returns-in-None
returns-in-None c = ap taken_as c.in-None.ensures.exactly ∙ sym (whole_item _ (sym c.whole.ensures ∙ c.if-not-whole.false))
