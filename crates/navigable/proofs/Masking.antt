-- The loop that makes the number, from the last row down: those from i on are done.
use mathlib.Core.Path.{◌≡◌, refl, sym, ◌∙◌, ap, ap₂}
use mathlib.Core.Bool.{Bool, true, false}
use mathlib.Core.List.{List, [], ◌∷◌}
use Prim.Native.Nat.{ℕ, suc, ◌+◌, ◌*◌, ◌-◌, ◌^◌, ◌≤◌, ◌<◌}
use native.Mathlib.Nat.{pow-le-pow_right, lt_of_lt_of_le}
use native.Mathlib.Omega.{arith}
use lib.ListN.{length, get_or, drop, length-drop}
use lib.Seq.{drop-cons, get_or-take}
use Rattle.std.specs.Int.{from_bool}
use Rattle.sorted.specs.Order.{bit}
use Rattle.memory.specs.Rows.{rows, count, table, Read}
use Rattle.memory.proofs.Table.{counted}
use Rattle.layouts.specs.Rows.{window_of}
use Rattle.layouts.specs.Tables.{windows_in}
use Rattle.wim.specs.Nouns.{WindowNumber, Window}
use Rattle.wim.specs.Navigable.{mask_of}
use Rattle.wim.proofs.Mask.{mask_below}

pub record Masking (p : WindowNumber → Bool) (m : List ℕ) (i bits : ℕ) : Type 0 where
  pub mask : bits ≡ mask_of p (drop i (table windows_in m))

module _ {p : WindowNumber → Bool} {m : List ℕ} {i bits : ℕ} (s : Masking p m i bits) where
  -- a row's bit: those from i on are one place up
  pub mask_row : {r : Window} (b : Bool) → Read windows_in m (i - 1) r → 0 < i → i ≤ length (table windows_in m) → b ≡ p r.number
      → Masking p m (i - 1) (2 * bits + from_bool b)
  mask_row {r} b g h k f =
      let c = counted windows_in m in
      let j : suc (i - 1) ≡ i = omega arith in
      let q : get_or (table windows_in m) (i - 1) (window_of []) ≡ r = get_or-take (count windows_in m) (rows windows_in m) (i - 1) (window_of []) (omega arith) ∙ sym g.is in
      let l : drop (i - 1) (table windows_in m) ≡ r ∷ drop i (table windows_in m) = rw (drop-cons (table windows_in m) (i - 1) (window_of []) (omega arith), q, j) refl in
      record { mask = one b ∙ ap₂ (λ (x : Bool) (y : ℕ). bit x + 2 * y) f s.mask ∙ sym (ap (mask_of p) l) }
    where
      one : (x : Bool) → 2 * bits + from_bool x ≡ bit x + 2 * bits
      one true = omega arith
      one false = omega arith

  -- there is room for one bit more
  pub mask_room : 0 < i → bits < 2 ^ 31
  mask_room h =
      let c = counted windows_in m in
      let z : length (drop i (table windows_in m)) ≤ 31 = omega (arith, length-drop i (table windows_in m)) in
      let q = lt_of_lt_of_le (mask_below p (drop i (table windows_in m))) (pow-le-pow_right (omega arith) z) in
      omega (arith, s.mask)

pub from_bool_le : (b : Bool) → from_bool b ≤ 1
from_bool_le true = omega arith
from_bool_le false = omega arith
