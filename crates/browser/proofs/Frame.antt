-- No table reaches into another, so a change within one is an update of that table alone.
use mathlib.Core.Path.{◌≡◌, refl, sym, ap, ◌∙◌, subst}
use mathlib.Core.Logic.{◌⊎◌, inl, inr}
use mathlib.Core.Bool.{Bool, true, false, true≢false}
use mathlib.Core.List.{List, [], ◌∷◌}
use Prim.Native.Nat.{ℕ, ◌≤◌}
use native.Mathlib.Omega.{arith}
use borrow.Author.Tests.{eqb-true}
use lib.Dec.{eqb}
use lib.ListN.{get_or}
use Rattle.tables.specs.Tables.{Table, windows, documents, cookies, local_storage, session_storage, inputs, pending_dns, pending_requests, sts, Row, index, update}
use Rattle.tables.proofs.Update.{each, updated, spared}
use Rattle.memory.specs.Rows.{Within, table, end}
use Rattle.memory.proofs.Frame.{table_before, table-behind}
use Rattle.browser.specs.View.{laid, view}

nth : ℕ → Table
nth k = get_or (windows ∷ documents ∷ cookies ∷ local_storage ∷ session_storage ∷ inputs ∷ pending_dns ∷ pending_requests ∷ sts ∷ []) k windows

back : (t : Table) → nth (index t) ≡ t
unfolding nth
back t = each (λ u. nth (index u) ≡ u) refl refl refl refl refl refl refl refl refl t

same_index : (t u : Table) → eqb (index t) (index u) ≡ true → t ≡ u
same_index t u e = sym (back t) ∙ ap nth (eqb-true (index t) (index u) e) ∙ back u

abbrev Beside : Table → Table → Type 0
Beside t u = eqb (index t) (index u) ≡ false → (end (laid u) ≤ (laid t).base) ⊎ (end (laid t) ≤ (laid u).base)

apart : (t u : Table) → Beside t u
apart = each (λ t. (u : Table) → Beside t u)
    (each (Beside windows) (λ e. absurd (true≢false e)) (λ e. inr (omega arith)) (λ e. inr (omega arith)) (λ e. inr (omega arith)) (λ e. inr (omega arith)) (λ e. inr (omega arith)) (λ e. inr (omega arith)) (λ e. inr (omega arith)) (λ e. inr (omega arith)))
    (each (Beside documents) (λ e. inl (omega arith)) (λ e. absurd (true≢false e)) (λ e. inr (omega arith)) (λ e. inr (omega arith)) (λ e. inr (omega arith)) (λ e. inr (omega arith)) (λ e. inr (omega arith)) (λ e. inr (omega arith)) (λ e. inr (omega arith)))
    (each (Beside cookies) (λ e. inl (omega arith)) (λ e. inl (omega arith)) (λ e. absurd (true≢false e)) (λ e. inr (omega arith)) (λ e. inr (omega arith)) (λ e. inr (omega arith)) (λ e. inr (omega arith)) (λ e. inr (omega arith)) (λ e. inr (omega arith)))
    (each (Beside local_storage) (λ e. inl (omega arith)) (λ e. inl (omega arith)) (λ e. inl (omega arith)) (λ e. absurd (true≢false e)) (λ e. inr (omega arith)) (λ e. inr (omega arith)) (λ e. inr (omega arith)) (λ e. inr (omega arith)) (λ e. inr (omega arith)))
    (each (Beside session_storage) (λ e. inl (omega arith)) (λ e. inl (omega arith)) (λ e. inl (omega arith)) (λ e. inl (omega arith)) (λ e. absurd (true≢false e)) (λ e. inr (omega arith)) (λ e. inr (omega arith)) (λ e. inr (omega arith)) (λ e. inr (omega arith)))
    (each (Beside inputs) (λ e. inl (omega arith)) (λ e. inl (omega arith)) (λ e. inl (omega arith)) (λ e. inl (omega arith)) (λ e. inl (omega arith)) (λ e. absurd (true≢false e)) (λ e. inr (omega arith)) (λ e. inr (omega arith)) (λ e. inr (omega arith)))
    (each (Beside pending_dns) (λ e. inl (omega arith)) (λ e. inl (omega arith)) (λ e. inl (omega arith)) (λ e. inl (omega arith)) (λ e. inl (omega arith)) (λ e. inl (omega arith)) (λ e. absurd (true≢false e)) (λ e. inr (omega arith)) (λ e. inr (omega arith)))
    (each (Beside pending_requests) (λ e. inl (omega arith)) (λ e. inl (omega arith)) (λ e. inl (omega arith)) (λ e. inl (omega arith)) (λ e. inl (omega arith)) (λ e. inl (omega arith)) (λ e. inl (omega arith)) (λ e. absurd (true≢false e)) (λ e. inr (omega arith)))
    (each (Beside sts) (λ e. inl (omega arith)) (λ e. inl (omega arith)) (λ e. inl (omega arith)) (λ e. inl (omega arith)) (λ e. inl (omega arith)) (λ e. inl (omega arith)) (λ e. inl (omega arith)) (λ e. inl (omega arith)) (λ e. absurd (true≢false e)))

-- a change within one table
module _ (t : Table) (f : List (Row t) → List (Row t)) {m n : List ℕ} where
  pub changes-one : Within (laid t).base (end (laid t)) m n → table (laid t) n ≡ f (table (laid t) m) → view n ≡ update t f (view m)
  changes-one w e = λ k u. at u (eqb (index t) (index u)) refl k
    where
      other : (u : Table) → (end (laid u) ≤ (laid t).base) ⊎ (end (laid t) ≤ (laid u).base) → table (laid u) n ≡ table (laid u) m
      other u (inl h) = table_before (laid u) w h
      other u (inr h) = table-behind (laid u) w h

      at : (u : Table) (b : Bool) → eqb (index t) (index u) ≡ b → view n u ≡ update t f (view m) u
      at u true q = subst (λ (v : Table). view n v ≡ update t f (view m) v) (same_index t u q) (e ∙ sym (updated t f (view m)))
      at u false q = other u (apart t u q) ∙ sym (spared t u f (view m) q)
