-- The walk upward: what stands above a window, and walks in tables of which one follows the other.
use mathlib.Core.Path.{◌≡◌, refl, sym, ◌∙◌, ap}
use mathlib.Core.Logic.{◌⊎◌, inl, inr}
use mathlib.Core.Bool.{Bool, true, ◌||◌}
use mathlib.Core.List.{List}
use Rattle.std.specs.Prelude.{Option, None as none, Some as some}
use Prim.Native.Nat.{ℕ, zero, suc}
use native.Mathlib.Omega.{arith}
use Rattle.sorted.proofs.Never.{never}
use Rattle.tables.specs.Rows.{one_of}
use Rattle.wim.specs.Nouns.{WindowNumber, DocumentNumber, Window, Document, Parent, Top, Under}
use Rattle.wim.proofs.Walks.{top-more}
use Rattle.wim.specs.Walks.{Above, missing, topmost, held_by, above_document, above_parent, above_row, above, top_at, under_at, window_numbered, document_numbered, top_above, is_under}
use Rattle.sorted.proofs.Tests.{or_one}

module _ (ws : List Window) (ds : List Document) where
  -- WHAT STANDS ABOVE: nothing, or a document; in both cases the window has a row.
  pub is-topmost : (v : WindowNumber) (r : Window) → window_numbered ws v ≡ some r → r.parent ≡ Top → above ws ds v ≡ topmost
  unfolding above
  is-topmost v r e p = ap (above_row ds) e ∙ ap (above_parent ds) p

  pub is_held : (v : WindowNumber) (r : Window) (n : DocumentNumber) (d : Document) → window_numbered ws v ≡ some r → r.parent ≡ Under n → document_numbered ds n ≡ some d → above ws ds v ≡ held_by d
  unfolding above
  is_held v r n d e p f = ap (above_row ds) e ∙ ap (above_parent ds) p ∙ ap above_document f

  pub topmost-row : (v : WindowNumber) → above ws ds v ≡ topmost → (r : Window) × (window_numbered ws v ≡ some r) × (r.parent ≡ Top)
  unfolding above
  topmost-row v e = row (window_numbered ws v) refl e
    where
      doc : {A : Type 0} (o : Option Document) → above_document o ≡ topmost → A
      doc none e = never (cc)
      doc (some d) e = never (cc)

      par : (r : Window) (p : Parent) → r.parent ≡ p → above_parent ds p ≡ topmost → window_numbered ws v ≡ some r → (r : Window) × (window_numbered ws v ≡ some r) × (r.parent ≡ Top)
      par r Top f e g = (r, g, f)
      par r (Under n) f e g = doc (document_numbered ds n) e

      row : (o : Option Window) → window_numbered ws v ≡ o → above_row ds o ≡ topmost → (r : Window) × (window_numbered ws v ≡ some r) × (r.parent ≡ Top)
      row none g e = never (cc)
      row (some r) g e = par r r.parent refl e g

  -- the row of a window that a document holds, with the document's number
  abbrev Held : WindowNumber → Document → Type 0
  Held v d = (r : Window) × (n : DocumentNumber) × (window_numbered ws v ≡ some r) × (r.parent ≡ Under n) × (document_numbered ds n ≡ some d)

  pub held-row : (v : WindowNumber) (d : Document) → above ws ds v ≡ held_by d → Held v d
  unfolding above
  held-row v d e = row (window_numbered ws v) refl e
    where
      doc : (r : Window) (n : DocumentNumber) (o : Option Document) → r.parent ≡ Under n → document_numbered ds n ≡ o → above_document o ≡ held_by d → window_numbered ws v ≡ some r → Held v d
      doc r n none f h e g = never (cc)
      doc r n (some x) f h e g = (r, n, g, f, h ∙ (let q : x ≡ d = cc in ap some q))

      par : (r : Window) (p : Parent) → r.parent ≡ p → above_parent ds p ≡ held_by d → window_numbered ws v ≡ some r → Held v d
      par r Top f e g = never (cc)
      par r (Under n) f e g = doc r n (document_numbered ds n) f refl e g

      row : (o : Option Window) → window_numbered ws v ≡ o → above_row ds o ≡ held_by d → Held v d
      row none g e = never (cc)
      row (some r) g e = par r r.parent refl e g

  -- the window above has the same top-level window, with a step less
  pub top_up : (n : ℕ) (v t : WindowNumber) (d : Document) → above ws ds v ≡ held_by d → top_above (suc n) ws ds v ≡ some t → top_above n ws ds d.window ≡ some t
  unfolding top_above
  top_up n v t d h e = sym (ap (top_at (top_above n ws ds) v) h) ∙ e

  pub up_top : (n : ℕ) (v t : WindowNumber) (d : Document) → above ws ds v ≡ held_by d → top_above n ws ds d.window ≡ some t → top_above (suc n) ws ds v ≡ some t
  unfolding top_above
  up_top n v t d h e = ap (top_at (top_above n ws ds) v) h ∙ e

  pub top_itself : (n : ℕ) (v : WindowNumber) → above ws ds v ≡ topmost → top_above (suc n) ws ds v ≡ some v
  unfolding top_above
  top_itself n v h = ap (top_at (top_above n ws ds) v) h

  -- UNDER SOME DOCUMENTS.
  -- where the line ends, one step more changes nothing
  pub under_settled : (gone : List DocumentNumber) (n : ℕ) (v t : WindowNumber) → top_above n ws ds v ≡ some t → is_under n ws ds gone v ≡ is_under (suc n) ws ds gone v
  unfolding top_above is_under
  under_settled gone zero v t e = never (cc)
  under_settled gone (suc n) v t e = go (above ws ds v) e (under_settled gone n)
    where
      go : (u : Above) → top_at (top_above n ws ds) v u ≡ some t → ((x s : WindowNumber) → top_above n ws ds x ≡ some s → is_under n ws ds gone x ≡ is_under (suc n) ws ds gone x)
          → under_at (is_under n ws ds gone) gone u ≡ under_at (is_under (suc n) ws ds gone) gone u
      go missing e ih = never (cc)
      go topmost e ih = refl
      go (held_by d) e ih = ap (λ (b : Bool). one_of d.number gone || b) (ih d.window t e)

  pub under_up : (gone : List DocumentNumber) (n : ℕ) (v : WindowNumber) (d : Document) → above ws ds v ≡ held_by d → is_under (suc n) ws ds gone v ≡ (one_of d.number gone || is_under n ws ds gone d.window)
  unfolding is_under
  under_up gone n v d h = ap (under_at (is_under n ws ds gone) gone) h

  -- no window stands under documents of its own
  module _ (gone : List DocumentNumber) (v : WindowNumber) (own : (n : DocumentNumber) (d : Document) → document_numbered ds n ≡ some d → one_of d.number gone ≡ true → d.window ≡ v) where
    under-shorter : (m k : ℕ) (x t : WindowNumber) → is_under m ws ds gone x ≡ true → top_above (suc k) ws ds x ≡ some t → top_above k ws ds v ≡ some t
    unfolding is_under top_above
    under-shorter zero k x t u e = never (cc)
    under-shorter (suc m) k x t u e = go (above ws ds x) refl u e (under-shorter m)
      where
        further : (k : ℕ) (d : Document) → is_under m ws ds gone d.window ≡ true → top_above k ws ds d.window ≡ some t
            → ((k : ℕ) (x t : WindowNumber) → is_under m ws ds gone x ≡ true → top_above (suc k) ws ds x ≡ some t → top_above k ws ds v ≡ some t) → top_above k ws ds v ≡ some t
        further zero d q e ih = never (cc)
        further (suc k) d q e ih = top-more ws ds k (suc k) v t (omega arith) (ih k d.window t q e)

        go : (a : Above) → above ws ds x ≡ a → under_at (is_under m ws ds gone) gone a ≡ true → top_at (top_above k ws ds) x a ≡ some t
            → ((k : ℕ) (x t : WindowNumber) → is_under m ws ds gone x ≡ true → top_above (suc k) ws ds x ≡ some t → top_above k ws ds v ≡ some t) → top_above k ws ds v ≡ some t
        go missing f u e ih = never (cc)
        go topmost f u e ih = never (cc)
        go (held_by d) f u e ih = which (or_one (one_of d.number gone) (is_under m ws ds gone d.window) u)
          where
            which : (one_of d.number gone ≡ true) ⊎ (is_under m ws ds gone d.window ≡ true) → top_above k ws ds v ≡ some t
            which (inl p) = let z = held-row x d f in ap (top_above k ws ds) (sym (own z.1 d z.4 p)) ∙ e
            which (inr q) = further k d q e ih

    pub not_under_own : (m k : ℕ) (t : WindowNumber) → is_under m ws ds gone v ≡ true → top_above k ws ds v ≡ some t → ⊥
    unfolding top_above
    not_under_own m zero t u e = never (cc)
    not_under_own m (suc k) t u e = not_under_own m k t u (under-shorter m k v t u e)

-- ONE PAIR OF TABLES FOLLOWS ANOTHER, as far as the windows of a part: rows of these stay, and so do the documents above them.
module _ (ws vs : List Window) (ds es : List Document) (P : WindowNumber → Type 0)
    (row : (v : WindowNumber) (r : Window) → P v → window_numbered ws v ≡ some r → window_numbered vs v ≡ some r)
    (held : (v : WindowNumber) (r : Window) (n : DocumentNumber) (d : Document) → P v → window_numbered ws v ≡ some r → r.parent ≡ Under n → document_numbered ds n ≡ some d
    → (e : Document) × (document_numbered es n ≡ some e) × (e.window ≡ d.window) × P d.window) where
  -- then walks end where they ended
  pub top-follows : (k : ℕ) (v t : WindowNumber) → P v → top_above k ws ds v ≡ some t → top_above k vs es v ≡ some t
  unfolding top_above
  top-follows zero v t p e = never (cc)
  top-follows (suc k) v t p e = go (above ws ds v) refl e (top-follows k)
    where
      go : (u : Above) → above ws ds v ≡ u → top_at (top_above k ws ds) v u ≡ some t
          → ((x s : WindowNumber) → P x → top_above k ws ds x ≡ some s → top_above k vs es x ≡ some s) → top_above (suc k) vs es v ≡ some t
      go missing f e ih = never (cc)
      go topmost f e ih = let z = topmost-row ws ds v f in top_itself vs es k v (is-topmost vs es v z.0 (row v z.0 p z.1) z.2) ∙ e
      go (held_by d) f e ih =
          let z = held-row ws ds v d f in
          let y = held v z.0 z.1 d p z.2 z.3 z.4 in
          up_top vs es k v t y.0 (is_held vs es v z.0 z.1 y.0 (row v z.0 p z.2) z.3 y.1) (ap (top_above k vs es) y.2 ∙ ih d.window t y.3 e)
