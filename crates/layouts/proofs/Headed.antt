-- A row whose numbers end in a Cookie header: what is stored first is read first, and the header behind it.
use mathlib.Core.Path.{◌≡◌, ap, ap₂, ◌∙◌}
use mathlib.Core.List.{List}
use Prim.Native.Nat.{ℕ, ◌+◌, ◌≤◌}
use native.Mathlib.Omega.{arith}
use lib.ListN.{length, take, drop}
use lib.Seq.{take_at}
use Rattle.tables.specs.Nouns.{Jar}
use Rattle.memory.specs.Rows.{over, Within, Stored}
use Rattle.memory.proofs.Frame.{within-over}
use Rattle.layouts.specs.Jars.{jar_at, tidy, Wrote}

pub headed : {R : Type 0} (w : ℕ) (of : List ℕ → Jar → R) (j : Jar) {m m₁ n c : List ℕ} → length m ≡ w + 193 → length c ≡ w → Stored m 0 c m₁ → Wrote w j m₁ n → of (take w n) (jar_at w n) ≡ of c (tidy j)
headed w of j {m} {m₁} {n} {c} l z s h =
    let q : m₁ ≡ over m 0 c = s.fits (omega arith) in
    let x : Within 0 w m m₁ = rw q (within-over 0 w m 0 c (omega arith) (omega arith) (omega arith)) in
    let b : w + 193 ≤ length m₁ = omega (arith, x.len) in
    ap₂ of ((h.rest b).before ∙ ap (take w) q ∙ take_at c (drop (0 + length c) m) w z) (h.reads b)
