-- The question is found by its number, or not; the host is the one that was asked for, or another.
use Rattle.std.proofs.Common.{◌≡◌, sym, ◌∙◌, ap, rules, Some, Err}
use Rattle.std.proofs.lemmas.Bool.{not-true, not-false}
use Rattle.sorted.specs.Table.{at}
use Rattle.tables.specs.Tables.{pending_dns, key_of, cmp}
use Rattle.browser.specs.View.{view}
use Rattle.stepping.proofs.Ways.{refuses, performs_as}
use Rattle.resolving.proofs.Tidy.{tidy-found}
use Rattle.resolving.proofs.Questions.{no-question, another-host, its_host}
use Rattle.resolving.proofs.resolving.resolved.Goals as goal

pub returns-in_err-q : goal.returns-in_err-q
returns-in_err-q c = refuses _ c.args.f (no-question c.args.a _ _ (sym c.in_err-q.ensures.ok_part ∙ c.get.ensures)) (search rules)

pub returns-then-ne : goal.returns-then-ne
returns-then-ne c =
    refuses _ c.args.f (another-host c.args.a _ _ (sym c.in_ok-q.ensures.ok_part ∙ c.get.ensures) (not-true _ (sym c.ne.ensures ∙ c.if-ne.true))) (ap Err c.into.ensures)

pub returns : goal.returns
returns c =
    let l : Some c.in_ok-q.q ≡ at (key_of pending_dns) (cmp pending_dns) c.args.a.number.0 (view c.args.m.now pending_dns) = sym c.in_ok-q.ensures.ok_part ∙ c.get.ensures in
    performs_as _ _ (its_host c.args.a _ _ l (not-false _ (sym c.ne.ensures ∙ c.if-ne.false))) (c.go_out.ensures.performs (tidy-found c.args.m.now _ c.in_ok-q.q l))
