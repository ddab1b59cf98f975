-- The document beside another in a history, found without a table for the history.
use mathlib.Core.Path.{◌≡◌, sym, ◌∙◌, ap}
use mathlib.Core.Bool.{Bool, ◌&&◌}
use mathlib.Core.List.{List}
use Prim.Native.Nat.{ℕ, suc}
use Rattle.std.proofs.Common.{arith}
use Rattle.std.proofs.lemmas.Bool.Decides.{nat_tests}
use lib.Dec.{eqb}
use Rattle.types.specs.declared.WindowNumber.{WindowNumber}
use Rattle.types.specs.declared.rows.Document.{Document}
use Rattle.sorted.specs.Table.{find}
use Rattle.tables.specs.Rows.{same_window}
use Rattle.wim.specs.Walks.{documents_of}
use Rattle.wim.specs.History.{document_before, document_after}
use Rattle.memory.proofs.Both.{find-both}

eqb-sym : (a b : ℕ) → eqb a b ≡ eqb b a
eqb-sym a b = grind (arith, nat_tests)

module _ (ds : List Document) (w : WindowNumber) (d : Document) where
  pub before-found : find (λ (e : Document). same_window e.window w && eqb (suc e.place) d.place) ds ≡ document_before (documents_of ds w) d
  unfolding documents_of
  before-found = sym (find-both (λ (e : Document). same_window e.window w) _ ds)

  pub after-found : find (λ (e : Document). same_window e.window w && eqb (suc d.place) e.place) ds ≡ document_after (documents_of ds w) d
  unfolding documents_of find
  after-found = sym (find-both (λ (e : Document). same_window e.window w) _ ds) ∙ ap (λ (p : Document → Bool). find p (documents_of ds w)) (λ i e. eqb-sym (suc d.place) e.place i)
