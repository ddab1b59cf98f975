-- The loop is the law `Passing`.
use Rattle.std.specs.Prelude.{◌≡◌, true, false}
use Rattle.std.proofs.Common.{rules, arith}
use Rattle.csexp.proofs.write.Steps.{opened, ended}
use Rattle.exhibit_parts.specs.Kept.{is_for}
use Rattle.exhibit_parts.proofs.Passing.{pass_start, pass_takes, pass_skips, pass_end}
use Rattle.exhibit_parts.proofs.input_terms.write_inputs.Goals as goal
use Rattle.exhibit_parts.proofs.input_terms.write_inputs.Goals.{then-eq, else-eq}

pub loop-i-init : goal.loop-i-init
loop-i-init c = pass_start _ _ c.size-i-end.ensures (omega arith)

pub loop-i-preserved : goal.loop-i-preserved
loop-i-preserved c =
    elim c.if-eq.branch [
      | then-eq w ↦
          (let e : is_for c.args.document c.row-row.result ≡ true = (let t = w.if-eq.true in search rules) in
          rw (w.out-is, w.p-is) (pass_takes c.loop-i.invariant c.row-row.ensures (omega arith) e w.write_news-p.ensures))
      | else-eq w ↦
          (let e : is_for c.args.document c.row-row.result ≡ false = (let t = w.if-eq.false in search rules) in
          rw (w.out-is, w.p-is) (pass_skips c.loop-i.invariant c.row-row.ensures (omega arith) e))
    ]

pub returns : goal.returns
returns c = opened c.open_list-p.ensures (ended (pass_end c.loop-i.invariant (omega arith)) c.close_list.ensures)
