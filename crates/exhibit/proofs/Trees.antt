-- The tree, level by level.
--     windows-none · windows-all          no level left; the windows of one level, written by the loop
--     document-none                       a window without a document
--     document-whole · document_limited   one with a document of the script's origin, and of another
use mathlib.Core.Path.{◌≡◌, refl, sym, ap, ap₂, subst, ◌∙◌}
use mathlib.Core.Bool.{Bool, true, false, cond}
use mathlib.Core.List.{List, [], ◌∷◌}
use Rattle.std.specs.Prelude.{Option, None as none, Some as some}
use Prim.Native.Nat.{ℕ, suc, ◌-◌}
use Rattle.csexp.specs.Term.{Term, list, Terms, nil, cons}
use Rattle.csexp.specs.Encode.{each}
use Rattle.csexp.specs.Puts.{Puts, Writes, Items}
use Rattle.csexp.proofs.write.Steps.{opened, ended, single, writes_as}
use Rattle.sorted.specs.Table.{keep}
use Rattle.tables.specs.Tables.{windows, documents, Tables}
use Rattle.tables.specs.Rows.{origin_of, same_origin}
use Rattle.wim.specs.Nouns.{Origin, Parent, Window, Document}
use Rattle.wim.specs.Walks.{active_document}
use Rattle.wim.specs.Shown.{whole_document, limited_document, document_term, window_term, is_under_document, tree}
use Rattle.walks.proofs.Up.{one_less}
use Rattle.exhibit.specs.Levels.{hangs, windows_under, below, within}

each_same : {A : Type 0} (f g : A → Term) → ((a : A) → f a ≡ g a) → (l : List A) → each f l ≡ each g l
unfolding each
each_same f g h [] = refl
each_same f g h (a ∷ l) = ap₂ cons (h a) (each_same f g h l)

-- what is written of a window, with so many levels under it
abbrev pub of_window : ℕ → Tables → Origin → Window → Term
of_window n b o r = window_term r (within n b o (active_document (b documents) r.number))

tree-step : (n : ℕ) (b : Tables) (o : Origin) (rs : List Window) → each (of_window n b o) rs ≡ tree (suc n) b o rs
unfolding tree
tree-step n b o rs = each_same (of_window n b o) _ (λ r. ap (window_term r) (go (active_document (b documents) r.number))) rs
  where
    go : (x : Option Document) → within n b o x ≡ elim x as (λ _. Terms) [ none ↦ nil | some d ↦ cons (document_term b o d (tree n b o (keep (λ (c : Window). is_under_document d.number c.parent) (b windows)))) nil ]
    go none = refl
    go (some d) = refl

module _ (b : Tables) (o : Origin) {s s₂ : List ℕ} {at p : ℕ} where
  -- LISTS OF WINDOWS.
  pub windows-none : (place : Parent) {n : ℕ} → n ≡ 0 → Writes (list nil) s at s₂ p → Writes (list (windows_under n b o place)) s at s₂ p
  unfolding tree
  windows-none place e w = writes_as (ap (λ (k : ℕ). list (windows_under k b o place)) (sym e)) w

  pub windows-all : (place : Parent) {n : ℕ} {s₁ s₃ : List ℕ} {q r : ℕ} → (n ≡ 0 → ⊥) → Puts (40 ∷ []) s at s₁ q
      → Items (each (of_window (n - 1) b o) (keep (hangs place) (b windows))) s₁ q s₃ r → Puts (41 ∷ []) s₃ r s₂ p → Writes (list (windows_under n b o place)) s at s₂ p
  windows-all place {n} e u v w =
      writes_as (ap list (tree-step (n - 1) b o (keep (hangs place) (b windows)) ∙ ap (λ (k : ℕ). windows_under k b o place) (sym (one_less n e)))) (opened u (ended v w))

  -- WHAT STANDS IN A WINDOW.
  pub document-none : (n : ℕ) {x : Option Document} → none ≡ x → Items (within n b o none) s at s₂ p → Items (within n b o x) s at s₂ p
  document-none n e u = subst (λ (y : Option Document). Items (within n b o y) s at s₂ p) e u

  document-there : (n : ℕ) (d : Document) {x : Option Document} → some d ≡ x → Writes (document_term b o d (below n b o d)) s at s₂ p → Items (within n b o x) s at s₂ p
  document-there n d e w = subst (λ (y : Option Document). Items (within n b o y) s at s₂ p) e (single w)

  pub document-whole : (n : ℕ) (d : Document) {x : Option Document} → some d ≡ x → same_origin (origin_of d) o ≡ true → Writes (whole_document b d (below n b o d)) s at s₂ p → Items (within n b o x) s at s₂ p
  document-whole n d e t w = document-there n d e (writes_as (ap (λ (c : Bool). cond c (whole_document b d (below n b o d)) (limited_document d (below n b o d))) (sym t)) w)

  pub document_limited : (n : ℕ) (d : Document) {x : Option Document} → some d ≡ x → same_origin (origin_of d) o ≡ false → Writes (limited_document d (below n b o d)) s at s₂ p → Items (within n b o x) s at s₂ p
  document_limited n d e t w = document-there n d e (writes_as (ap (λ (c : Bool). cond c (whole_document b d (below n b o d)) (limited_document d (below n b o d))) (sym t)) w)
