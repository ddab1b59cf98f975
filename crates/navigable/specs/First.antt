-- The first row of a window's navigable set.
use Rattle.std.specs.Prelude.{Bool, cond, List, [], ◌∷◌, ℕ, suc}
use Rattle.wim.specs.Nouns.{WindowNumber, Window, Document}
use Rattle.wim.specs.Walks.{active_document, is_reached}
use Rattle.wim.specs.Navigable.{may_navigate, when_displayed}
use Rattle.std.specs.Prelude.{Option, Some as Row, None as NoRow}

-- a row of the windows, counted from 0, if there is one
abbrev pub First : Type 0
First = Option ℕ

-- the first row that passes, counted from i on
abbrev pub first_from : (WindowNumber → Bool) → ℕ → List Window → First
first_from p i [] = NoRow
first_from p i (r ∷ rs) = cond (p r.number) (Row i) (first_from p (suc i) rs)

-- the first row whose window the active document of w may navigate
unfoldable pub first_navigable : List Window → List Document → WindowNumber → First
first_navigable ws ds w = when_displayed NoRow (is_reached ws ds w) (active_document ds w) (λ o. first_from (may_navigate ws ds o w) 0 ws)
