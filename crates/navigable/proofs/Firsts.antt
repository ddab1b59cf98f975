-- The first row of a set is told by the zeros at the end of its number.
--     no_row · some-row       there is none; there is one
--     first_navigable_row     it is a row of the windows, and the first that may be navigated
use mathlib.Core.Path.{◌≡◌, refl, sym, ◌∙◌, ap, subst}
use mathlib.Core.Bool.{Bool, true, false, cond}
use mathlib.Core.List.{List, [], ◌∷◌}
use Rattle.std.specs.Prelude.{Option, None as none, Some as some}
use Prim.Native.Nat.{ℕ, zero, suc, ◌+◌, ◌*◌, ◌≤◌, ◌<◌}
use native.Mathlib.Omega.{arith}
use lib.ListN.{length, get_or}
use lib.Count.{under, count_trailing_zeros}
use Rattle.sorted.specs.Order.{bit}
use Rattle.sorted.specs.Table.{find}
use Rattle.sorted.proofs.Never.{never}
use Rattle.tables.specs.Rows.{origin_of}
use Rattle.wim.specs.Nouns.{WindowNumber, Window, Document}
use Rattle.wim.specs.Walks.{active_document, is_reached}
use Rattle.wim.specs.Navigable.{may_navigate, mask_of, when_displayed, navigable_mask}
use Rattle.wim.proofs.Mask.{low_bit, high_bits}
use Rattle.wim.proofs.NavigableMask.{navigable_first, unreached_none}
use Rattle.navigable.specs.First.{First}
use Rattle.std.specs.Prelude.{Some as Row, None as NoRow}
use Rattle.navigable.specs.First.{first_from, first_navigable}

module _ (p : WindowNumber → Bool) where
  first-none : (l : List Window) (i : ℕ) → mask_of p l ≡ 0 → first_from p i l ≡ NoRow
  first-none [] i e = refl
  first-none (r ∷ l) i e = go (p r.number) e (first-none l (suc i))
    where
      go : (b : Bool) → bit b + 2 * mask_of p l ≡ 0 → (mask_of p l ≡ 0 → first_from p (suc i) l ≡ NoRow) → cond b (Row i) (first_from p (suc i) l) ≡ NoRow
      go true e ih = absurd (omega arith)
      go false e ih = ih (omega arith)

  first_some : (l : List Window) (k i : ℕ) → length l ≤ k → 0 < mask_of p l → first_from p i l ≡ Row (i + count_trailing_zeros k (mask_of p l))
  unfolding count_trailing_zeros
  first_some [] k i h n = absurd (omega arith)
  first_some (r ∷ l) zero i h n = absurd (omega arith)
  first_some (r ∷ l) (suc k) i h n = rw (low_bit (p r.number) (mask_of p l), high_bits (p r.number) (mask_of p l)) (go (p r.number) n (first_some l k (suc i) (omega arith)))
    where
      go : (b : Bool) → 0 < bit b + 2 * mask_of p l → (0 < mask_of p l → first_from p (suc i) l ≡ Row (suc i + count_trailing_zeros k (mask_of p l)))
          → cond b (Row i) (first_from p (suc i) l) ≡ Row (i + under (bit b) (count_trailing_zeros k (mask_of p l)))
      go true m ih = ap Row (let same : i ≡ i + 0 = omega arith in same)
      go false m ih = ih (omega arith) ∙ ap Row (let same : suc i + count_trailing_zeros k (mask_of p l) ≡ i + suc (count_trailing_zeros k (mask_of p l)) = omega arith in same)

module _ (ws : List Window) (ds : List Document) (w : WindowNumber) where
  pub no_row : {m : ℕ} → m ≡ navigable_mask ws ds w → m ≡ 0 → NoRow ≡ first_navigable ws ds w
  unfolding navigable_mask first_navigable
  no_row e z = go (is_reached ws ds w) (active_document ds w) (sym e ∙ z)
    where
      go : (b : Bool) (a : Option Document) → when_displayed 0 b a (λ o. mask_of (may_navigate ws ds o w) ws) ≡ 0 → NoRow ≡ when_displayed NoRow b a (λ o. first_from (may_navigate ws ds o w) 0 ws)
      go false a q = refl
      go true none q = refl
      go true (some d) q = sym (first-none (may_navigate ws ds (origin_of d) w) ws 0 q)

  module _ (few : length ws ≤ 32) where
    pub some-row : {m : ℕ} → m ≡ navigable_mask ws ds w → 0 < m → Row (count_trailing_zeros 32 m) ≡ first_navigable ws ds w
    unfolding navigable_mask first_navigable
    some-row e n = ap (λ (k : ℕ). Row (count_trailing_zeros 32 k)) e ∙ go (is_reached ws ds w) (active_document ds w) (subst (λ (k : ℕ). 0 < k) e n)
      where
        go : (b : Bool) (a : Option Document) → 0 < when_displayed 0 b a (λ o. mask_of (may_navigate ws ds o w) ws)
            → Row (count_trailing_zeros 32 (when_displayed 0 b a (λ o. mask_of (may_navigate ws ds o w) ws))) ≡ when_displayed NoRow b a (λ o. first_from (may_navigate ws ds o w) 0 ws)
        go false a q = absurd (omega arith)
        go true none q = absurd (omega arith)
        go true (some d) q =
            let p : WindowNumber → Bool = may_navigate ws ds (origin_of d) w in
            sym (first_some p ws 32 0 few q ∙ ap Row (let same : 0 + count_trailing_zeros 32 (mask_of p ws) ≡ count_trailing_zeros 32 (mask_of p ws) = omega arith in same))

    place_of : First → ℕ
    place_of (Row i) = i
    place_of NoRow = 0

    -- what is not empty is the set of a reached window
    is-reached : 0 < navigable_mask ws ds w → is_reached ws ds w ≡ true
    is-reached h = go (is_reached ws ds w) refl
      where
        go : (b : Bool) → is_reached ws ds w ≡ b → b ≡ true
        go true e = refl
        go false e = let z = unreached_none ws ds w e in absurd (omega arith)

    pub first_navigable_row : {i : ℕ} → first_navigable ws ds w ≡ Row i → (d : Document) → active_document ds w ≡ some d
        → (i < length ws) × ((x : Window) → find (λ (r : Window). may_navigate ws ds (origin_of d) w r.number) ws ≡ some (get_or ws i x))
    unfolding place_of
    first_navigable_row {i} e d a = go (navigable_mask ws ds w) refl
      where
        go : (m : ℕ) → navigable_mask ws ds w ≡ m → (i < length ws) × ((x : Window) → find (λ (r : Window). may_navigate ws ds (origin_of d) w r.number) ws ≡ some (get_or ws i x))
        go zero z = let q : NoRow ≡ Row i = no_row (sym z) refl ∙ e in never (cc)
        go (suc m) z =
            let n : 0 < navigable_mask ws ds w = omega arith in
            let place : count_trailing_zeros 32 (navigable_mask ws ds w) ≡ i = ap place_of (some-row refl n ∙ e) in
            subst (λ (j : ℕ). (j < length ws) × ((x : Window) → find (λ (r : Window). may_navigate ws ds (origin_of d) w r.number) ws ≡ some (get_or ws j x))) place
            (navigable_first ws ds w d (is-reached n) a 32 few n)
