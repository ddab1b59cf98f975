-- What a table's functions ensure, said of the whole view: one edit of that table. A memory's tables always fit.
use mathlib.Core.Path.{◌≡◌, refl, sym, ap, ◌∙◌}
use mathlib.Core.Bool.{Bool, true, false}
use mathlib.Core.List.{List, [], ◌∷◌, map}
use Prim.Native.Nat.{ℕ}
use borrow.Author.Tests.{le-leb}
use lib.Dec.{leb}
use lib.ListN.{length}
use Rattle.sorted.specs.Table.{put, sift}
use Rattle.sorted.proofs.Count.{taken-fits}
use Rattle.sorted.proofs.Member.{keep-none}
use Rattle.tables.specs.Tables.{Table, Row, key_of, cmp, cap, changed, update, apply}
use Rattle.tables.proofs.Update.{each}
use Rattle.wim.specs.Step.{fit}
use Rattle.memory.specs.Rows.{rows, count, Kept, Put, Revised, Cleared}
use Rattle.memory.proofs.Table.{rows_length}
use Rattle.browser.specs.View.{laid, view}
use Rattle.browser.proofs.Frame.{changes-one}

pub capacities : (t : Table) → (laid t).capacity ≡ cap t
capacities = each (λ t. (laid t).capacity ≡ cap t) refl refl refl refl refl refl refl refl refl

-- a memory's tables always fit
pub view-fits : (m : List ℕ) (t : Table) → fit (view m) t ≡ true
view-fits m t = ap (leb (length (view m t))) (sym (capacities t)) ∙ le-leb _ _ (taken-fits (count (laid t) m) (laid t).capacity (rows (laid t) m) (rows_length (laid t) m))

module _ (t : Table) {m n : List ℕ} where
  pub view-kept : {p : Row t → Bool} → Kept (laid t) p m n → view n ≡ apply t (sift p ∷ []) (view m)
  view-kept {p} k = changes-one t (changed t (sift p ∷ [])) k.rest k.rows

  pub view_revised : {g : Row t → Row t} → Revised (laid t) g m n → view n ≡ update t (map g) (view m)
  view_revised {g} k = changes-one t (map g) k.rest k.rows

  pub view_cleared : Cleared (laid t) m n → view n ≡ apply t (sift (λ r. false) ∷ []) (view m)
  view_cleared k = changes-one t (changed t (sift (λ r. false) ∷ [])) k.rest (k.rows ∙ sym (keep-none (view m t)))

  pub view-put : {r : Row t} {done : Bool} → Put (laid t) (key_of t) (cmp t) r m n done → done ≡ true → view n ≡ apply t (put r ∷ []) (view m)
  view-put {r} k e = changes-one t (changed t (put r ∷ [])) k.rest (k.rows.rows e)
