-- The rows before i are done.
use Rattle.layouts.specs.Tables.{inputs_in}
use Rattle.exhibit_parts.specs.Kept.{is_for, input_term}
use Rattle.exhibit_parts.proofs.Passing.{Passing}
use Rattle.exhibit_parts.proofs.input_terms.write_inputs.Given as goal

abbrev pub invariant-loop-i : goal.invariant-loop-i
invariant-loop-i l = Passing inputs_in (is_for l.document) input_term l.m l.i-end l.i l.initial.out l.initial.p l.out l.p
