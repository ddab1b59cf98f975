-- The look, and then the command.
use Rattle.std.proofs.Common.{sym, ◌∙◌, rules}
use Rattle.types.specs.Lists.{cookies_in}
use Rattle.scripts.proofs.Ways.{lacks, acts}
use Rattle.scripts.proofs.run_script.Goals as goal

pub returns-in_err-top : goal.returns-in_err-top
returns-in_err-top c = lacks c.args.w c.args.out (cookies_in c.args.new) _ (sym c.in_err-top.was ∙ c.displayed.ensures) (search rules)

pub returns : goal.returns
returns c =
    acts c.args.w c.args.out (cookies_in c.args.new) record { window = c.args.w; document = c.in_ok-top.d; top = c.in_ok-top.top; merged = c.merge-merged.result; output = c.args.out; fresh = c.args.f }
    (sym c.in_ok-top.was ∙ c.displayed.ensures) c.merge-merged.ensures c.command.ensures
