-- A whole text in a buffer: counted first over a slice of no use, and then written into the part of the buffer that it fills.
--     sent-there     it has room, and stands there
--     sent_not       it has none, and the buffer is as it was
use mathlib.Core.Path.{◌≡◌, ap, ap₂, ◌∙◌}
use mathlib.Core.Bool.{true, false}
use mathlib.Core.List.{List, ◌++◌}
use Prim.Native.Nat.{ℕ, ◌+◌, ◌-◌, ◌≤◌, ◌<◌}
use native.Mathlib.Omega.{arith}
use lib.ListN.{length, take, drop, length-take, length-drop}
use lib.Seq.{drop-drop}
use lib.Dec.{leb}
use borrow.Author.Tests.{le-leb, lt-leb}
use borrow.Rule.Slice.PartMut.{put_mid}
use Rattle.csexp.specs.Puts.{top, Puts}
use Rattle.csexp.specs.Sent.{Sent}
use Rattle.std.specs.Prelude.{Some as Bytes, None as NoRoom}
use Rattle.csexp.proofs.write.Over.{puts_next, puts_bytes, over-all}

module _ {bs s none none₂ : List ℕ} {n : ℕ} (place : ℕ) (count : Puts bs none 0 none₂ n) (small : length s < top) where
  pub sent_not : length s < place + n → Sent bs s place s NoRoom
  sent_not h =
      let e = puts_next count (omega arith) in
      let no : leb (place + length bs) (length s) ≡ false = lt-leb (place + length bs) (length s) (omega arith) in
      record { says = simp no; leaves = simp no }

  pub sent-there : {part : List ℕ} {p : ℕ} → place ≤ length s → n ≤ length s - place
      → Puts bs (take ((place + n) - place) (drop place s)) 0 part p → Sent bs s place (put_mid place ((place + n) - place) s part) (Bytes n)
  sent-there {part} {p} h k w =
      let e = puts_next count (omega arith) in
      let same : n ≡ length bs = omega arith in
      let less : (place + n) - place ≡ n = omega arith in
      let yes : leb (place + length bs) (length s) ≡ true = le-leb (place + length bs) (length s) (omega arith) in
      let room : length (take ((place + n) - place) (drop place s)) ≡ length bs = simp (length-take, length-drop) (omega arith) in
      let filled : part ≡ bs = puts_bytes w (omega arith) (omega arith) ∙ over-all _ bs room in
      let behind : drop ((place + n) - place) (drop place s) ≡ drop (place + length bs) s =
      drop-drop ((place + n) - place) place s ∙ ap (λ (m : ℕ). drop (place + m) s) (less ∙ same) in
      record {
        says = simp yes (ap Bytes same);
        leaves = simp yes (ap₂ (λ (a b : List ℕ). take place s ++ (a ++ b)) filled behind);
      }
