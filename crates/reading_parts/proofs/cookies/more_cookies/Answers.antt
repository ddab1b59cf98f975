use mathlib.Core.Path.{ap, sym, ◌∙◌}
use Rattle.std.proofs.Common.{◌<◌, arith}
use Rattle.std.specs.Prelude.{Some as some, option_map}
use Rattle.csexp.specs.At.{ends}
use Rattle.shapes.specs.Items.{set_cookies}
use Rattle.csexp.proofs.Filling.{done, full, broken, more}
use Rattle.reading_parts.proofs.Blanks.{blank-more, blank-whole}
use Rattle.reading_parts.proofs.cookies.more_cookies.Goals as goal

pub returns-in-Some : goal.returns-in-Some
returns-in-Some c =
    let i = c.loop-end.invariant in
    record {
      exactly =
          ap (λ v. some (ends v c.in-Some.end)) (sym (blank-whole i.read i.blank))
          ∙ sym (ap (option_map (λ l. ends (set_cookies l.value) l.next)) (done i.read (sym c.in-Some.ensures.exactly)));
    }

pub returns-then-value-eq4 : goal.returns-then-value-eq4
returns-then-value-eq4 c =
    let i = c.loop-end.invariant in
    record { exactly = sym (ap (option_map (λ l. ends (set_cookies l.value) l.next)) (full i.read (sym c.mark.ensures.exactly ∙ c.in_default.is) c.if-value-eq4.true)) }

pub returns-in_err-cookie : goal.returns-in_err-cookie
returns-in_err-cookie c =
    let i = c.loop-end.invariant in
    let fits = i.read.fits in
    record {
      exactly =
          c.from_residual.ensures
          ∙ sym (ap (option_map (λ l. ends (set_cookies l.value) l.next))
          (broken i.read (sym c.mark.ensures.exactly ∙ c.in_default.is) (omega (arith, fits, c.if-value-eq4.false)) (sym c.read_cookie.ensures.exactly ∙ c.in_err-cookie.was)));
    }

pub loop-end-preserved : goal.loop-end-preserved
loop-end-preserved c =
    let i = c.loop-end.invariant in
    let fits = i.read.fits in
    let room : c.loop-end.value.count < 4 = omega (arith, fits, c.if-value-eq4.false) in
    record {
      read = more i.read (sym c.mark.ensures.exactly ∙ c.in_default.is) room (sym c.read_cookie.ensures.exactly ∙ c.in_ok-cookie.was);
      blank = blank-more _ room i.blank;
    }
