-- Numbers of windows and documents compared, and rows looked up by their number.
use mathlib.Core.Path.{◌≡◌, sym, ap}
use mathlib.Core.Bool.{true}
use mathlib.Core.List.{List}
use Rattle.std.specs.Prelude.{Some as some}
use borrow.Author.Tests.{eqb-true, eq-eqb}
use Rattle.sorted.specs.Order.{cmpℕ, same}
use Rattle.sorted.specs.Table.{In}
use Rattle.sorted.proofs.Linear.{linearℕ, same-eq}
use Rattle.sorted.proofs.Member.{find_in}
use Rattle.tables.specs.Rows.{same_window, same_document}
use Rattle.wim.specs.Nouns.{WindowNumber, DocumentNumber, Window, Document}
use Rattle.wim.specs.Walks.{window_numbered, document_numbered}

pub window-eq : (v w : WindowNumber) → v.0 ≡ w.0 → v ≡ w
window-eq v w e i = record { 0 = e i }

pub same-window : (v w : WindowNumber) → same_window v w ≡ true → v ≡ w
same-window v w e = window-eq v w (eqb-true v.0 w.0 e)

pub window_same : (v w : WindowNumber) → v ≡ w → same_window v w ≡ true
window_same v w e = eq-eqb v.0 w.0 (ap (λ (x : WindowNumber). x.0) e)

pub document-eq : (m n : DocumentNumber) → m.0 ≡ n.0 → m ≡ n
document-eq m n e i = record { 0 = e i }

pub same-document : (m n : DocumentNumber) → same_document m n ≡ true → m ≡ n
same-document m n e = document-eq m n (eqb-true m.0 n.0 e)

pub document-same : (m n : DocumentNumber) → m ≡ n → same_document m n ≡ true
document-same m n e = eq-eqb m.0 n.0 (ap (λ (x : DocumentNumber). x.0) e)

pub row-numbered : (ws : List Window) (v : WindowNumber) (r : Window) → window_numbered ws v ≡ some r → In r ws × (r.number ≡ v)
unfolding window_numbered
row-numbered ws v r e =
    let z = find_in (λ (x : Window). same (cmpℕ v.0 x.number.0)) ws r e in
    (z.0, window-eq r.number v (sym (same-eq linearℕ v.0 r.number.0 z.1)))

pub found-document : (ds : List Document) (n : DocumentNumber) (d : Document) → document_numbered ds n ≡ some d → In d ds × (d.number ≡ n)
unfolding document_numbered
found-document ds n d e = let z = find_in (λ (x : Document). same_document x.number n) ds d e in (z.0, same-document d.number n z.1)
