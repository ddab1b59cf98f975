-- What a text is taken for, by what its readers say.
use mathlib.Core.Path.{◌≡◌, refl, sym, ap, ◌∙◌}
use mathlib.Core.Bool.{true}
use mathlib.Core.List.{List, []}
use Rattle.std.specs.Prelude.{Option, None as none, Some as some}
use Prim.Native.Nat.{ℕ, ◌-◌}
use lib.ListN.{length}
use Rattle.csexp.specs.Term.{Term}
use Rattle.csexp.specs.Read.{Got, got, read}
use Rattle.csexp.specs.declared.At.{At}
use Rattle.csexp.specs.At.{place, term_at}
use Rattle.csexp.specs.Answers.{found, decode, value_at}
use Rattle.csexp.specs.Limits.{item_bytes, item_levels, whole_of}
use Rattle.csexp.proofs.Meaning.{read-written, whole-is-written}
use Rattle.shapes.specs.Nouns.{Item, BadShape}
use Rattle.shapes.specs.Items.{item_of}
use Rattle.shapes.specs.Texts.{Taken, unread, item, shaped, item_in}
use Rattle.shapes.proofs.Texts.{of_term}

abbrev pub taken_as : Option (At Item) → Taken
taken_as none = unread BadShape
taken_as (some i) = item i.value

-- a whole text is one term with nothing left, so the item at its start is the text's
pub whole_item : (s : List ℕ) → whole_of item_bytes item_levels s ≡ true → item_in s ≡ taken_as (value_at item_of s 0)
unfolding value_at term_at
whole_item s e =
    let w = whole-is-written item_bytes item_levels s e in
    let r : read s ≡ got w.0 [] = ap read w.1 ∙ read-written w.0 in
    of_term s w.0 e r ∙ go (item_of w.0) ∙ sym (ap (λ (m : Got Term). taken_as (decode item_of (place s m))) r)
  where
    go : (x : Option Item) → shaped x ≡ taken_as (found x (length s - 0))
    go none = refl
    go (some i) = refl
