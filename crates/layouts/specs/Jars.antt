-- A Cookie header as numbers is a table in itself: its count, then pairs of three numbers. What it says is always well-formed: blank behind the count.
use Rattle.std.specs.Prelude.{◌≡◌, List, ℕ, ◌+◌, ◌%◌, ◌≤◌, ◌<◌, length, get_or}
use Rattle.types.specs.Lists.{header_pairs}
use Rattle.tables.specs.Nouns.{Pair, Jar}
use Rattle.tables.specs.Rows.{jar}
use Rattle.memory.specs.Rows.{Layout, Within, table}
use Rattle.layouts.specs.Codes.{flag_of}

abbrev pub pair_from : List ℕ → Pair
pair_from c = record { name = record { prefixed = flag_of (get_or c 0 0); number = get_or c 1 0 % 65536 }; value = record { 0 = get_or c 2 0 } }

-- the pairs of a header that starts at p
abbrev pub pairs_in : ℕ → Layout Pair
pairs_in p = record { base = p; width = 3; capacity = 64; decode = pair_from }

abbrev pub jar_at : ℕ → List ℕ → Jar
jar_at p m = jar (table (pairs_in p) m)

-- a header with whatever stood behind its count made blank
abbrev pub tidy : Jar → Jar
tidy j = jar (header_pairs j)

-- a header is written at p, and nothing else changes; nothing at all where there is no room for one
pub record Wrote (p : ℕ) (j : Jar) (m n : List ℕ) : Type 0 where
  pub reads : p + 193 ≤ length m → jar_at p n ≡ tidy j
  pub rest : p + 193 ≤ length m → Within p (p + 193) m n
  pub beyond : length m < p + 193 → n ≡ m
