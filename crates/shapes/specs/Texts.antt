-- What a text is taken for: refusal 1 where it is not one whole canonical term within the limits, 2 where the term is no item, else the item.
use Rattle.std.specs.Prelude.{◌≡◌, cond, List, ℕ, ◌≤◌, length}
use Rattle.std.specs.Prelude.{Option, None as none, Some as some, Result}
pub use Rattle.std.specs.Prelude.{Err as unread, Ok as item}
use Rattle.csexp.specs.Term.{Term, write, levels}
use Rattle.csexp.specs.Read.{Got, no, got, read}
use Rattle.csexp.specs.Limits.{item_bytes, item_levels, whole_of}
use Rattle.shapes.specs.Nouns.{Item, Refusal, BadText, BadShape}
use Rattle.shapes.specs.Items.{item_of}

abbrev pub Taken : Type 0
Taken = Result Item Refusal

abbrev pub shaped : Option Item → Taken
shaped none = unread BadShape
shaped (some i) = item i

abbrev pub taken : Got Term → Taken
taken no = unread BadText
taken (got t rest) = shaped (item_of t)

unfoldable pub item_in : List ℕ → Taken
item_in s = cond (whole_of item_bytes item_levels s) (taken (read s)) (unread BadText)

-- s is the canonical text of a term of the item i, within the limits
pub record Spells (i : Item) (s : List ℕ) : Type 0 where
  pub term : Term
  pub written : s ≡ write term
  pub shape : item_of term ≡ some i
  pub short : length s ≤ item_bytes
  pub shallow : levels term ≤ item_levels
