-- The number by which a window's navigable windows are given: its bits, its size and its lowest bit.
use mathlib.Core.Path.{◌≡◌, refl, sym, ◌∙◌, ap}
use mathlib.Core.Bool.{Bool, true, false}
use mathlib.Core.List.{List}
use Rattle.std.specs.Prelude.{Option, None as none, Some as some}
use Prim.Native.Nat.{ℕ, zero, ◌/◌, ◌%◌, ◌^◌, ◌≤◌, ◌<◌}
use lib.ListN.{length, get_or}
use lib.Count.{ones, count_trailing_zeros}
use Rattle.sorted.specs.Order.{bit}
use Rattle.sorted.specs.Table.{find, keep}
use Rattle.wim.specs.Nouns.{WindowNumber, Window, Document}
use Rattle.tables.specs.Rows.{origin_of}
use Rattle.wim.specs.Walks.{active_document, is_reached}
use Rattle.wim.specs.Navigable.{Navigable, may_navigate, mask_of, when_displayed, navigable_mask, navigable_size}
use Rattle.sorted.proofs.Never.{never}
use Rattle.wim.proofs.Navigable.{navigable_sound, navigable_complete}
use Rattle.wim.proofs.Mask.{mask-bit, mask-ones, mask_first}

bit-true : (b : Bool) → bit b ≡ 1 → b ≡ true
bit-true true e = refl
bit-true false e = never e

module _ (ws : List Window) (ds : List Document) (w : WindowNumber) where
  -- "its size is the count of those bits"
  pub navigable_ones : ones (navigable_mask ws ds w) ≡ navigable_size ws ds w
  unfolding navigable_mask navigable_size ones
  navigable_ones = go (is_reached ws ds w) (active_document ds w)
    where
      go : (b : Bool) (a : Option Document)
          → ones (when_displayed 0 b a (λ o. mask_of (may_navigate ws ds o w) ws)) ≡ when_displayed 0 b a (λ o. length (keep (λ (r : Window). may_navigate ws ds o w r.number) ws))
      go false a = refl
      go true none = refl
      go true (some d) = mask-ones (may_navigate ws ds (origin_of d) w) ws

  -- THE SET OF A REACHED WINDOW WITH A DOCUMENT.
  module _ (d : Document) (r : is_reached ws ds w ≡ true) (a : active_document ds w ≡ some d) where
    pub displayed-mask : navigable_mask ws ds w ≡ mask_of (may_navigate ws ds (origin_of d) w) ws
    unfolding navigable_mask
    displayed-mask = rw (r, a)

    pub navigable_bit : (i : ℕ) (x : Window) → i < length ws → navigable_mask ws ds w / 2 ^ i % 2 ≡ bit (may_navigate ws ds (origin_of d) w (get_or ws i x).number)
    navigable_bit i x h = ap (λ (m : ℕ). m / 2 ^ i % 2) displayed-mask ∙ mask-bit (may_navigate ws ds (origin_of d) w) ws i x h

    -- bit i is set exactly where the window of row i may be navigated
    pub bit_sound : (i : ℕ) (x : Window) → i < length ws → navigable_mask ws ds w / 2 ^ i % 2 ≡ 1 → Navigable ws ds (origin_of d) w (get_or ws i x).number
    bit_sound i x h e = navigable_sound ws ds (origin_of d) w (get_or ws i x).number (bit-true _ (sym (navigable_bit i x h) ∙ e))

    pub bit_complete : (i : ℕ) (x : Window) → i < length ws → Navigable ws ds (origin_of d) w (get_or ws i x).number → navigable_mask ws ds w / 2 ^ i % 2 ≡ 1
    bit_complete i x h c = navigable_bit i x h ∙ ap bit (navigable_complete ws ds (origin_of d) w (get_or ws i x).number c)

    -- as many zeros stand at its end as rows before the first of the set
    pub navigable_first : (k : ℕ) → length ws ≤ k → zero < navigable_mask ws ds w
        → (count_trailing_zeros k (navigable_mask ws ds w) < length ws)
        × ((x : Window) → find (λ (r : Window). may_navigate ws ds (origin_of d) w r.number) ws ≡ some (get_or ws (count_trailing_zeros k (navigable_mask ws ds w)) x))
    navigable_first k l n = rw displayed-mask (mask_first (may_navigate ws ds (origin_of d) w) ws k l (rw displayed-mask at n))

  -- of an unreached window, and of one without a document, it is 0 (DECISIONS 29)
  pub unreached_none : is_reached ws ds w ≡ false → navigable_mask ws ds w ≡ 0
  unfolding navigable_mask
  unreached_none e = rw e

  pub undocumented_none : active_document ds w ≡ none → navigable_mask ws ds w ≡ 0
  unfolding navigable_mask
  undocumented_none e = go (is_reached ws ds w) (active_document ds w) e
    where
      go : (b : Bool) (a : Option Document) → a ≡ none → when_displayed 0 b a (λ o. mask_of (may_navigate ws ds o w) ws) ≡ 0
      go false a e = refl
      go true none e = refl
      go true (some d) e = never (cc)
