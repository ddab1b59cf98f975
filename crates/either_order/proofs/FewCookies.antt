-- An item that is read brings at most four cookies.
use mathlib.Core.Path.{◌≡◌}
use mathlib.Core.List.{List}
use Prim.Native.Nat.{ℕ, ◌≤◌}
use native.Mathlib.Omega.{arith}
use lib.ListN.{length, length-take}
use Rattle.shapes.specs.Nouns.{Item}
use Rattle.shapes.specs.Texts.{item, item_in}
use Rattle.wim.specs.Main.{cookies_in}
use Rattle.shapes.proofs.Ranges.{read_in_range}

pub few-read : (s : List ℕ) (i : Item) → item_in s ≡ item i → length (cookies_in i.cookies) ≤ 4
few-read s i e =
    let few = (read_in_range s i e).cookies.few in
    let taken = length-take i.cookies.count i.cookies.rows in
    omega arith
