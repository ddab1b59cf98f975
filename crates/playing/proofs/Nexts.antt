-- What comes next in a portion.
--     next-item · next-none                          what `next_in` says, taken apart
--     next_crowded · next-whole · next_broken        and put together, as the code does
--     ends-empty · ends_some                         why no item stands first
use mathlib.Core.Path.{◌≡◌, refl, sym, ap, subst, ◌∙◌}
use mathlib.Core.Bool.{Bool, true, false, cond}
use mathlib.Core.List.{List, [], ◌∷◌}
use Prim.Native.Nat.{ℕ, ◌≤◌, ◌<◌}
use native.Mathlib.Omega.{arith}
use borrow.Author.Tests.{ltb-true, ltb-false, lt-ltb, le-ltb}
use lib.Dec.{leb, ltb}
use lib.ListN.{length}
use Rattle.csexp.specs.Limits.{Ending}
use Rattle.std.specs.Prelude.{Some as Whole, None as Broken}
use Rattle.csexp.specs.Limits.{item_bytes, item_levels, ending_of}
use Rattle.sorted.proofs.Never.{never}
use Rattle.playing.specs.declared.looking.Halt.{Halt}
use Rattle.playing.specs.declared.looking.Halt.TheVariants.{Over, Stopped, Hungry, Crowded}
use Rattle.std.specs.Prelude.{Ok as Item, Err as Nothing}
use Rattle.playing.specs.Lines.{line_bytes}
use Rattle.playing.specs.Portions.{unended, first_of, next_in, Next}

same_bytes : {n m : ℕ} → ◌≡◌ {A = Next} (Item n) (Item m) → n ≡ m
same_bytes e = cc

same-halt : {h k : Halt} → ◌≡◌ {A = Next} (Nothing h) (Nothing k) → h ≡ k
same-halt e = cc

other-next : {A : Type 0} {h : Halt} {n : ℕ} → ◌≡◌ {A = Next} (Nothing h) (Item n) → A
other-next e = never (cc)

-- an item of n bytes stands first, and its line has room
pub record Comes (s : List ℕ) (room n : ℕ) : Type 0 where
  pub whole : ending_of item_bytes item_levels s 0 ≡ Whole n
  pub fits : line_bytes ≤ room

-- there is no room, or no item stands first
pub data Lacks (s : List ℕ) (last : Bool) (room : ℕ) : Halt → Type 0 where
  full : room < line_bytes → Lacks s last room Crowded
  broken : line_bytes ≤ room → ending_of item_bytes item_levels s 0 ≡ Broken → Lacks s last room (unended s last)

module _ (s : List ℕ) (last : Bool) (room : ℕ) where
  pub next-item : {n : ℕ} → next_in s last room ≡ Item n → Comes s room n
  unfolding next_in
  next-item {n} e = go (ltb room line_bytes) refl e
    where
      by : (x : Ending) → ending_of item_bytes item_levels s 0 ≡ x → first_of s last x ≡ Item n → ending_of item_bytes item_levels s 0 ≡ Whole n
      by (Whole p) q e = q ∙ ap Whole (same_bytes e)
      by Broken q e = other-next e

      go : (c : Bool) → ltb room line_bytes ≡ c → cond c (Nothing Crowded) (first_of s last (ending_of item_bytes item_levels s 0)) ≡ Item n → Comes s room n
      go true h e = other-next e
      go false h e = record { whole = by (ending_of item_bytes item_levels s 0) refl e; fits = ltb-false room line_bytes h }

  pub next-none : {h : Halt} → next_in s last room ≡ Nothing h → Lacks s last room h
  unfolding next_in
  next-none {h} e = go (ltb room line_bytes) refl e
    where
      by : line_bytes ≤ room → (x : Ending) → ending_of item_bytes item_levels s 0 ≡ x → first_of s last x ≡ Nothing h → Lacks s last room h
      by fits (Whole p) q e = other-next (sym e)
      by fits Broken q e = subst (Lacks s last room) (same-halt e) (broken fits q)

      go : (c : Bool) → ltb room line_bytes ≡ c → cond c (Nothing Crowded) (first_of s last (ending_of item_bytes item_levels s 0)) ≡ Nothing h → Lacks s last room h
      go true l e = subst (Lacks s last room) (same-halt e) (full (ltb-true room line_bytes l))
      go false l e = by (ltb-false room line_bytes l) (ending_of item_bytes item_levels s 0) refl e

  pub next_crowded : room < line_bytes → Nothing Crowded ≡ next_in s last room
  unfolding next_in
  next_crowded h = sym (ap (λ (c : Bool). cond c (Nothing Crowded) (first_of s last (ending_of item_bytes item_levels s 0))) (lt-ltb room line_bytes h))

  with_room : line_bytes ≤ room → first_of s last (ending_of item_bytes item_levels s 0) ≡ next_in s last room
  unfolding next_in
  with_room h = sym (ap (λ (c : Bool). cond c (Nothing Crowded) (first_of s last (ending_of item_bytes item_levels s 0))) (le-ltb room line_bytes h))

  pub next-whole : {n : ℕ} → line_bytes ≤ room → Whole n ≡ ending_of item_bytes item_levels s 0 → Item n ≡ next_in s last room
  next-whole h e = ap (first_of s last) e ∙ with_room h

  pub next_broken : {h : Halt} → line_bytes ≤ room → Broken ≡ ending_of item_bytes item_levels s 0 → h ≡ unended s last → Nothing h ≡ next_in s last room
  next_broken h e why = ap Nothing why ∙ ap (first_of s last) e ∙ with_room h

module _ (s : List ℕ) (last : Bool) where
  pub ends-empty : {c : Bool} → length s ≡ 0 → last ≡ c → cond c Over Hungry ≡ unended s last
  ends-empty {c} e q = subst (λ (x : Bool). cond x Over Hungry ≡ unended s last) q (go s e)
    where
      go : (s : List ℕ) → length s ≡ 0 → cond last Over Hungry ≡ unended s last
      go [] e = refl
      go (x ∷ s) e = absurd (omega arith)

  pub ends_some : {c d : Bool} → (length s ≡ 0 → ⊥) → last ≡ c → leb item_bytes (length s) ≡ d → cond c Stopped (cond d Stopped Hungry) ≡ unended s last
  ends_some {c} {d} e q r =
      subst (λ (x : Bool). cond x Stopped (cond d Stopped Hungry) ≡ unended s last) q
      (subst (λ (x : Bool). cond last Stopped (cond x Stopped Hungry) ≡ unended s last) r (go s e))
    where
      go : (s : List ℕ) → (length s ≡ 0 → ⊥) → cond last Stopped (cond (leb item_bytes (length s)) Stopped Hungry) ≡ unended s last
      go [] e = absurd (e refl)
      go (x ∷ s) e = refl
