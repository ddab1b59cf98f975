-- By the tag.
use Rattle.std.proofs.Common.{rules, ◌≡◌, false, nat_eq, sym, ap, ◌∙◌, ◌%◌}
use native.Mathlib.Omega.{arith}
use Rattle.tables.specs.Nouns.{From}
use Rattle.layouts.specs.Codes.{protocol_of}
use Rattle.layouts.proofs.addresses.origin_at.Goals as goal

pub returns-in_default : goal.returns-in_default
returns-in_default c =
    let a : nat_eq c.at-tag.result 0 ≡ false = search rules in
    let b : nat_eq c.at-tag.result 1 ≡ false = search rules in
    rw (sym (c.at-tag.ensures 3 (omega arith)), a, b) (λ i. From (record {
      host = record { 0 = (c.half-h.ensures ∙ ap (λ n. n % 65536) (c.at.ensures 3 (omega arith))) i };
      protocol = (c.protocol_of-over.ensures ∙ ap protocol_of (c.at-2.ensures 3 (omega arith))) i;
    }))
