-- By the tag; an address behind it.
use Rattle.std.proofs.Common.{Some, sym, ap, ◌∙◌}
use native.Mathlib.Omega.{arith}
use borrow.Author.Tests.{eq-eqb, ne_eqb}
use Rattle.memory.proofs.Parts.{part}
use Rattle.layouts.specs.Codes.{url_of}
use Rattle.layouts.proofs.addresses.referrer_at.Goals as goal

pub returns-then-tag-eq0 : goal.returns-then-tag-eq0
returns-then-tag-eq0 c = rw (sym (c.at-tag.ensures 7 (omega arith)), eq-eqb _ _ c.if-tag-eq0.true)

pub returns-then-p-c : goal.returns-then-p-c
returns-then-p-c c = rw (sym (c.at-tag.ensures 7 (omega arith)), ne_eqb _ _ c.if-tag-eq0.false) (ap Some (c.url_at-u.ensures ∙ ap url_of (sym (part 6 1 7 c.args.p c.args.c.now (omega arith)))))
