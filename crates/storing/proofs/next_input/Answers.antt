-- One more than the document has, and there are few inputs.
use Rattle.std.proofs.Common.{rules, arith, ap, ◌∙◌, add-one, ℕ, Bool}
use Prim.Native.Nat.{suc}
use Rattle.types.specs.declared.rows.Input.{Input}
use Rattle.tables.specs.Tables.{inputs}
use Rattle.tables.specs.Rows.{same_document}
use Rattle.stepping.proofs.Carry.{kept-few}
use Rattle.storing.proofs.next_input.Goals as goal

pub overflow_cast-result : goal.overflow_cast-result
overflow_cast-result c = let p : Input → Bool = λ i. same_document i.document c.args.n in omega (arith, c.tally-earlier.ensures.counted p (λ r b h. search rules), kept-few inputs p c.args.m.now)

pub overflow_add-result : goal.overflow_add-result
overflow_add-result c = let p : Input → Bool = λ i. same_document i.document c.args.n in omega (arith, c.tally-earlier.ensures.counted p (λ r b h. search rules), kept-few inputs p c.args.m.now)

pub returns : goal.returns
returns c =
    let x = c.args in
    ap (λ (k : ℕ). record { document = x.n; arrival = k; news = x.news }) (add-one _ ∙ ap suc (c.tally-earlier.ensures.counted (λ i. same_document i.document x.n) (λ r b h. search rules)))
