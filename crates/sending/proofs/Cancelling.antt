-- A window's number without its label equals no reference, so that nothing is cancelled by it.
use mathlib.Core.Path.{◌≡◌, refl}
use mathlib.Core.Bool.{true}
use mathlib.Core.List.{List, [], ◌∷◌}
use Prim.Native.Nat.{ℕ}
use Rattle.types.specs.declared.WindowNumber.{WindowNumber}
use Rattle.types.specs.declared.Cancelled.TheVariants.{Bare}
use Rattle.sorted.proofs.Member.{keep_all}
use Rattle.tables.specs.Tables.{pending_dns, pending_requests, Tables}
use Rattle.tables.proofs.Update.{same_tables}
use Rattle.stepping.specs.Holds.{Carries}
use Rattle.stepping.proofs.Carry.{carries_same}
use Rattle.sending.specs.Cancels.{cancelled}

pub bare_cancels_nothing : (v : WindowNumber) (w : Tables) → cancelled (Bare v) w ≡ w
bare_cancels_nothing v w =
    same_tables (cancelled (Bare v) w) w refl refl refl refl refl refl (keep_all (λ r. true) (w pending_dns) (λ x i. refl)) (keep_all (λ r. true) (w pending_requests) (λ x i. refl)) refl

pub bare_carries : (v : WindowNumber) (m : List ℕ) → Carries (cancelled (Bare v)) [] (pending_requests ∷ pending_dns ∷ []) m m true
bare_carries v m = carries_same (bare_cancels_nothing v) m
