-- A table is clean of a label where no row speaks of it.
use mathlib.Core.Path.{◌≡◌, refl}
use mathlib.Core.Bool.{Bool, true, false, cond, not, ◌&&◌}
use mathlib.Core.List.{List, [], ◌∷◌}
use Rattle.std.specs.Prelude.{Some}
use Rattle.sorted.specs.Table.{find, is_some}
use Rattle.tables.specs.Tables.{Table, Row}
use Rattle.tables.specs.Labels.{Label, among, mentions, clean}

pub clean_where_none : (t : Table) (l : Label) (rows : List (Row t)) → not (is_some (find (λ (r : Row t). among l (mentions t r)) rows)) ≡ clean t l rows
unfolding find clean
clean_where_none t l [] = refl
clean_where_none t l (r ∷ rs) = go (among l (mentions t r)) (clean_where_none t l rs)
  where
    go : (b : Bool) → not (is_some (find (λ (r : Row t). among l (mentions t r)) rs)) ≡ clean t l rs → not (is_some (cond b (Some r) (find (λ (r : Row t). among l (mentions t r)) rs))) ≡ (not b && clean t l rs)
    go true e = refl
    go false e = e
