-- Six numbers are read.
use Rattle.std.proofs.Common.{ap, ap₂, ◌∙◌, ◌%◌}
use native.Mathlib.Omega.{arith}
use Rattle.layouts.specs.Codes.{perhaps, protocol_of}
use Rattle.layouts.proofs.addresses.url_at.Goals as goal

pub returns : goal.returns
returns c = λ i. record {
  protocol = (c.protocol_of-protocol.ensures ∙ ap protocol_of (c.at.ensures 6 (omega arith))) i;
  host = record { 0 = (c.half.ensures ∙ ap (λ n. n % 65536) (c.at-4.ensures 6 (omega arith))) i };
  path = record { 0 = (c.half-2.ensures ∙ ap (λ n. n % 65536) (c.at-5.ensures 6 (omega arith))) i };
  parameters = record { 0 = c.at-6.ensures 6 (omega arith) i };
  fragment = (c.perhaps-fragment.ensures ∙ ap₂ perhaps (c.at-2.ensures 6 (omega arith)) (c.at-3.ensures 6 (omega arith))) i;
}
