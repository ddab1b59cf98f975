-- What a chain of tests has come to: one more is made, or it is known already.
use Rattle.std.proofs.Common.{◌≡◌, Bool, true, false, sym, ◌∙◌}
use mathlib.Core.Bool.{◌&&◌}

pub joined : {a x y v b : Bool} → a ≡ x → a ≡ true → v ≡ b → b ≡ y → v ≡ (x && y)
joined e t v b = rw (sym e ∙ t) (v ∙ b)

pub parted : {a x v : Bool} (y : Bool) → a ≡ x → a ≡ false → v ≡ a → v ≡ (x && y)
parted y e t v = rw (sym e ∙ t) (v ∙ t)
