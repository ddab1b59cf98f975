-- Numbers of parts: behind the end of the memory; of a part within a part.
use mathlib.Core.Path.{◌≡◌, sym, ◌∙◌}
use mathlib.Core.Bool.{cond}
use mathlib.Core.List.{List}
use Prim.Native.Nat.{ℕ, ◌+◌, ◌%◌, ◌≤◌, ◌<◌}
use native.Mathlib.Omega.{arith}
use lib.Dec.{eqb}
use lib.ListN.{length, get_or, take, drop, get_or-eq_default}
use Rattle.tables.specs.Nouns.{Number, Page, Answered, Posted}
use Rattle.memory.proofs.Table.{cell}
use Rattle.layouts.specs.Codes.{protocol_of, fragment_of, matching_of, referrer_from, referrer_of, news_of}

-- behind the end there are zeros
pub past_end : (w p k : ℕ) (m : List ℕ) → k < w → length m ≤ p + k → 0 ≡ get_or (take w (drop p m)) k 0
past_end w p k m h b = sym (cell w p k m h ∙ get_or-eq_default m 0 b)

-- A part within a part, said number by number: so it computes at numbers that are written out.
pub referrer_flat : (r : List ℕ) → referrer_from (get_or r 0 0) (record {
  protocol = protocol_of (get_or r 1 0);
  host = record { 0 = get_or r 2 0 % 65536 };
  path = record { 0 = get_or r 3 0 % 65536 };
  parameters = record { 0 = get_or r 4 0 };
  fragment = fragment_of (get_or r 5 0) (get_or r 6 0);
}) ≡ referrer_of r
referrer_flat r = rw (cell 6 1 0 r (omega arith), cell 6 1 1 r (omega arith), cell 6 1 2 r (omega arith), cell 6 1 3 r (omega arith), cell 6 1 4 r (omega arith), cell 6 1 5 r (omega arith))

pub news_flat : (r : List ℕ)
    → cond (eqb (get_or r 0 0) 0)
    (Answered (matching_of (get_or r 1 0) (get_or r 2 0)) (cond (eqb (get_or r 3 0) 0) (Number (get_or r 4 0)) (Page (record { 0 = get_or r 4 0 }) (record { 0 = get_or r 5 0 }))))
    (Posted (record { 0 = get_or r 1 0 }) (record { host = record { 0 = get_or r 2 0 % 65536 }; protocol = protocol_of (get_or r 3 0) }) (get_or r 4 0))
    ≡ news_of r
news_flat r = rw (cell 3 3 0 r (omega arith), cell 3 3 1 r (omega arith), cell 3 3 2 r (omega arith), cell 2 2 0 r (omega arith), cell 2 2 1 r (omega arith))
