-- What is kept and counted of a window's history, over all documents at once; and how many there may be.
use mathlib.Core.Path.{◌≡◌, refl, sym, ◌∙◌, subst}
use mathlib.Core.Bool.{Bool, true, false, ◌&&◌}
use mathlib.Core.List.{List}
use Rattle.std.specs.Prelude.{Option, None as none, Some as some}
use Prim.Native.Nat.{ℕ, ◌≤◌}
use lib.Dec.{ltb, leb}
use lib.ListN.{length}
use Rattle.types.specs.declared.rows.Document.{Document}
use Rattle.types.specs.declared.WindowNumber.{WindowNumber}
use Rattle.sorted.specs.Table.{keep}
use Rattle.sorted.proofs.Member.{keep-none, keep_all}
use Rattle.tables.specs.Tables.{documents}
use Rattle.tables.specs.Rows.{same_window}
use Rattle.memory.specs.Rows.{table}
use Rattle.memory.proofs.Both.{keep-both}
use Rattle.layouts.specs.Tables.{documents_in}
use Rattle.wim.specs.Walks.{documents_of}
use Rattle.wim.specs.Response.{later_than, up_to}
use Rattle.stepping.proofs.Carry.{kept-few}

-- whether a document is behind the active one, and whether it is up to that
abbrev pub is_later : Option Document → Document → Bool
is_later none e = false
is_later (some d) e = ltb d.place e.place

abbrev pub is_up_to : Option Document → Document → Bool
is_up_to none e = true
is_up_to (some d) e = leb e.place d.place

module _ (v : WindowNumber) (ds : List Document) where
  pub kept-later : (current : Option Document) → keep (λ (e : Document). same_window e.window v && is_later current e) ds ≡ later_than current (documents_of ds v)
  unfolding documents_of
  kept-later current = sym (keep-both (λ (e : Document). same_window e.window v) (is_later current) ds) ∙ go current
    where
      go : (o : Option Document) → keep (is_later o) (documents_of ds v) ≡ later_than o (documents_of ds v)
      go none = keep-none (documents_of ds v)
      go (some d) = refl

  pub kept-up-to : (current : Option Document) → keep (λ (e : Document). same_window e.window v && is_up_to current e) ds ≡ up_to current (documents_of ds v)
  unfolding documents_of
  kept-up-to current = sym (keep-both (λ (e : Document). same_window e.window v) (is_up_to current) ds) ∙ go current
    where
      go : (o : Option Document) → keep (is_up_to o) (documents_of ds v) ≡ up_to o (documents_of ds v)
      go none = keep_all (λ (e : Document). true) (documents_of ds v) (λ x i. refl)
      go (some d) = refl

-- no more than the table has room for
pub few-up-to : (current : Option Document) (v : WindowNumber) (m : List ℕ) → length (up_to current (documents_of (table documents_in m) v)) ≤ 64
few-up-to current v m = subst (λ (l : List Document). length l ≤ 64) (kept-up-to v (table documents_in m) current) (kept-few documents (λ (e : Document). same_window e.window v && is_up_to current e) m)
