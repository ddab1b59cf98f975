-- A part of the labels that a step owns, and what it does to tables when it changes rows of its part alone.
use mathlib.Core.Path.{◌≡◌, refl, sym, ◌∙◌, ap, subst, subst₃}
use mathlib.Core.Logic.{◌⊎◌, inl, inr}
use mathlib.Core.Bool.{Bool, true, false, not}
use mathlib.Core.List.{List, [], ◌∷◌, ◌++◌, map}
use Rattle.std.specs.Prelude.{Option, None as none, Some as some}
use borrow.Author.Tests.{not-true}
use Rattle.sorted.specs.Table.{In, All, Edit, put, drop, sift, Sorted, at}
use Rattle.sorted.proofs.Never.{never}
use Rattle.sorted.proofs.Member.{all_in, in_append}
use Rattle.sorted.proofs.Edits.{in_acts}
use Rattle.sorted.proofs.Sorted.{sorted-acts}
use Rattle.sorted.proofs.Lookup.{Touches, at_key, at-acts-other}
use Rattle.sorted.proofs.Revise.{revised, in_map, sorted_map, at_map}
use Rattle.tables.specs.Tables.{Table, windows, documents, cookies, local_storage, session_storage, inputs, pending_dns, pending_requests, sts, Row, Key, key_of, cmp, Tables, Edits, update, changed, apply}
use Rattle.tables.specs.Labels.{Label, leads, tag, ties, refs}
use Rattle.tables.proofs.Update.{update-one, linear}
use Rattle.invariant.proofs.Rooted.Tests.{not-both}
use Rattle.either_order.proofs.Sight.{Even}

-- what a waiting row goes with: who owns the window or document that it refers to owns the row, not the other way round
abbrev pub pulls : (t : Table) → Row t → List Label
pulls windows r = []
pulls documents r = []
pulls cookies r = []
pulls local_storage r = []
pulls session_storage r = []
pulls inputs r = []
pulls pending_dns r = leads r.reference ∷ []
pulls pending_requests r = leads r.reference ∷ []
pulls sts r = []

pub pulled-refs : (t : Table) (r : Row t) (a : Label) → In a (pulls t r) → In a (refs t r)
pulled-refs windows r a i = absurd i
pulled-refs documents r a i = absurd i
pulled-refs cookies r a i = absurd i
pulled-refs local_storage r a i = absurd i
pulled-refs session_storage r a i = absurd i
pulled-refs inputs r a i = absurd i
pulled-refs pending_dns r a i = i
pulled-refs pending_requests r a i = i
pulled-refs sts r a i = absurd i

-- A PART: what a step owns, and what the other step owns, of which it sees nothing.
pub record Part : Type 0 where
  pub own : Label → Bool
  pub other : Label → Bool
  pub apart : (l : Label) → own l ≡ true → other l ≡ false

abbrev pub sees : Part → Label → Bool
sees F l = not (F.other l)

pub own_sees : (F : Part) (l : Label) → F.own l ≡ true → sees F l ≡ true
own_sees F l h = ap not (F.apart l h)

-- one of the labels by which a row is owned
abbrev pub Touched : Part → (t : Table) → Row t → Type 0
Touched F t r = (a : Label) × In a (tag t (key_of t r) ∷ (ties t r ++ pulls t r)) × (F.own a ≡ true)

-- an edit inside a part: a row that is put is owned with all that is tied to it, and refers to what may be seen; a row that goes is owned
abbrev pub Ok : Part → (t : Table) → Edit (Row t) (Key t) → Type 0
Ok F t (put r) = (F.own (tag t (key_of t r)) ≡ true) × All (λ a. F.own a ≡ true) (ties t r) × All (λ a. sees F a ≡ true) (refs t r)
Ok F t (drop k) = F.own (tag t k) ≡ true
Ok F t (sift p) = (r : Row t) → p r ≡ false → Touched F t r

-- two rows with the same labels
pub record Same (t : Table) (x r : Row t) : Type 0 where
  pub same_key : key_of t r ≡ key_of t x
  pub same-ties : ties t r ≡ ties t x
  pub same-refs : refs t r ≡ refs t x
  pub same_pulls : pulls t r ≡ pulls t x

-- a change in place inside a part: labels stay, and so does every row that is not owned
abbrev pub Fixes : Part → (t : Table) → (Row t → Row t) → Type 0
Fixes F t g = (r : Row t) → Same t r (g r) × ((g r ≡ r) ⊎ Touched F t r)

-- P IS LEVEL on tables: the same on all labels that a row ties together, and on a row that is pulled.
abbrev LevelAt : (Label → Bool) → Label → List Label → List Label → Type 0
LevelAt P l ts ps = ((a : Label) → In a ts → P a ≡ P l) × ((a : Label) → In a ps → P a ≡ true → P l ≡ true)

abbrev pub Level : (Label → Bool) → Tables → Type 0
Level P b = (t : Table) (r : Row t) → In r (b t) → LevelAt P (tag t (key_of t r)) (ties t r) (pulls t r)

pub level_even : (P : Label → Bool) (b : Tables) → Level P b → Even P b
level_even P b L t r i = (L t r i).0

-- both are level in a browser in order
pub record Whole (F : Part) (b : Tables) : Type 0 where
  pub sorted : (t : Table) → Sorted (key_of t) (cmp t) (b t)
  pub owns : Level F.own b
  pub others : Level F.other b

-- what a step that keeps to its part does: outside the part nothing changes, and every row that is new or changed is of the part
pub record Moved (F : Part) (b c : Tables) : Type 0 where
  pub sorted : (t : Table) → Sorted (key_of t) (cmp t) (c t)
  pub frame : (t : Table) (k : Key t) → F.own (tag t k) ≡ false → at (key_of t) (cmp t) k (c t) ≡ at (key_of t) (cmp t) k (b t)
  pub rows : (t : Table) (r : Row t) → In r (c t) → ((x : Row t) × In x (b t) × Same t x r) ⊎ Ok F t (put r)

same_self : (t : Table) (r : Row t) → Same t r r
same_self t r = record { same_key = refl; same-ties = refl; same-refs = refl; same_pulls = refl }

same-trans : (t : Table) (x y z : Row t) → Same t x y → Same t y z → Same t x z
same-trans t x y z p q =
    record { same_key = q.same_key ∙ p.same_key; same-ties = q.same-ties ∙ p.same-ties; same-refs = q.same-refs ∙ p.same-refs; same_pulls = q.same_pulls ∙ p.same_pulls }

module _ (F : Part) where
  ok_same : (t : Table) (x r : Row t) → Same t x r → Ok F t (put x) → Ok F t (put r)
  ok_same t x r s o =
      (ap (λ (k : Key t). F.own (tag t k)) s.same_key ∙ o.0, subst (λ (l : List Label). All (λ a. F.own a ≡ true) l) (sym s.same-ties) o.1, subst (λ (l : List Label). All (λ a. sees F a ≡ true) l) (sym s.same-refs) o.2)

  -- rows that are put are level
  level_put_own : (t : Table) (r : Row t) → Ok F t (put r) → LevelAt F.own (tag t (key_of t r)) (ties t r) (pulls t r)
  level_put_own t r o = (λ a i. all_in (λ a. F.own a ≡ true) (ties t r) o.1 a i ∙ sym o.0, λ a i e. o.0)

  level_put_other : (t : Table) (r : Row t) → Ok F t (put r) → LevelAt F.other (tag t (key_of t r)) (ties t r) (pulls t r)
  level_put_other t r o = (
    λ a i. F.apart a (all_in (λ a. F.own a ≡ true) (ties t r) o.1 a i) ∙ sym (F.apart (tag t (key_of t r)) o.0),
    λ a i e. not-both e (not-true (F.other a) (all_in (λ a. sees F a ≡ true) (refs t r) o.2 a (pulled-refs t r a i))),
  )

  level_moved : (P : Label → Bool) (b c : Tables) → Level P b → Moved F b c → ((t : Table) (r : Row t) → Ok F t (put r) → LevelAt P (tag t (key_of t r)) (ties t r) (pulls t r)) → Level P c
  level_moved P b c L m h t r i = go (m.rows t r i)
    where
      go : ((x : Row t) × In x (b t) × Same t x r) ⊎ Ok F t (put r) → LevelAt P (tag t (key_of t r)) (ties t r) (pulls t r)
      go (inl x) = subst₃ (λ (k : Key t) (ts ps : List Label). LevelAt P (tag t k) ts ps) (sym x.2.same_key) (sym x.2.same-ties) (sym x.2.same_pulls) (L t x.0 x.1)
      go (inr o) = h t r o

  pub whole-moved : (b c : Tables) → Whole F b → Moved F b c → Whole F c
  whole-moved b c W m = record { sorted = m.sorted; owns = level_moved F.own b c W.owns m level_put_own; others = level_moved F.other b c W.others m level_put_other }

  pub moved-self : (b : Tables) → Whole F b → Moved F b b
  moved-self b W = record { sorted = W.sorted; frame = λ t k n. refl; rows = λ t r i. inl (r, i, same_self t r) }

  pub moved-trans : (a b c : Tables) → Moved F a b → Moved F b c → Moved F a c
  moved-trans a b c m n = record { sorted = n.sorted; frame = λ t k h. n.frame t k h ∙ m.frame t k h; rows = λ t r i. go t r (n.rows t r i) }
    where
      go : (t : Table) (r : Row t) → ((x : Row t) × In x (b t) × Same t x r) ⊎ Ok F t (put r) → ((x : Row t) × In x (a t) × Same t x r) ⊎ Ok F t (put r)
      go t r (inr o) = inr o
      go t r (inl x) = sub (m.rows t x.0 x.1)
        where
          sub : ((y : Row t) × In y (a t) × Same t y x.0) ⊎ Ok F t (put x.0) → ((y : Row t) × In y (a t) × Same t y r) ⊎ Ok F t (put r)
          sub (inl y) = inl (y.0, y.1, same-trans t y.0 x.0 r y.2 x.2)
          sub (inr o) = inr (ok_same t x.0 r x.2 o)

  module _ (b : Tables) (W : Whole F b) (t : Table) where
    -- a row by one of whose labels it is owned is owned
    touched_own : (r : Row t) → In r (b t) → Touched F t r → F.own (tag t (key_of t r)) ≡ true
    touched_own r i (a, inl e, o) = ap F.own (sym e) ∙ o
    touched_own r i (a, inr j, o) = go (in_append (ties t r) (pulls t r) a j)
      where
        go : In a (ties t r) ⊎ In a (pulls t r) → F.own (tag t (key_of t r)) ≡ true
        go (inl k) = sym ((W.owns t r i).0 a k) ∙ o
        go (inr k) = (W.owns t r i).1 a k o

    -- an edit inside the part leaves a key outside it alone
    untouched : (k : Key t) → F.own (tag t k) ≡ false → (e : Edit (Row t) (Key t)) → Ok F t e → Touches (key_of t) e (b t) k → ⊥
    untouched k n (put r) h e = let z : F.own (tag t k) ≡ true = ap (λ (j : Key t). F.own (tag t j)) e ∙ h.0 in never (cc)
    untouched k n (drop j) h e = let z : F.own (tag t k) ≡ true = ap (λ (j : Key t). F.own (tag t j)) e ∙ h in never (cc)
    untouched k n (sift p) h e =
        let z : F.own (tag t k) ≡ true = ap (λ (j : Key t). F.own (tag t j)) e.2 ∙ touched_own e.0 e.1 (h e.0 e.3) in
        never (cc)

    pub moved-edit : (es : Edits t) → All (Ok F t) es → Moved F b (apply t es b)
    moved-edit es h = record {
      sorted = update-one (λ u l. Sorted (key_of u) (cmp u) l) t (changed t es) b W.sorted (sorted-acts (key_of t) (cmp t) (linear t) es (b t) (W.sorted t));
      frame = update-one (λ u l. (k : Key u) → F.own (tag u k) ≡ false → at (key_of u) (cmp u) k l ≡ at (key_of u) (cmp u) k (b u)) t (changed t es) b (λ u k n. refl)
          (λ k n. at-acts-other (key_of t) (cmp t) (linear t) es (b t) k (λ e i. untouched k n e (all_in (Ok F t) es h e i)));
      rows = update-one (λ u l. (r : Row u) → In r l → ((x : Row u) × In x (b u) × Same u x r) ⊎ Ok F u (put r)) t (changed t es) b (λ u r i. inl (r, i, same_self u r))
          (λ r i. elim (in_acts (key_of t) (cmp t) es (b t) r i) [ inl j ↦ inr (all_in (Ok F t) es h (put r) j) | inr j ↦ inl (r, j, same_self t r) ]);
    }

    pub moved-revise : (g : Row t → Row t) → Fixes F t g → Moved F b (update t (map g) b)
    moved-revise g h = record {
      sorted = update-one (λ u l. Sorted (key_of u) (cmp u) l) t (map g) b W.sorted (sorted_map (key_of t) (cmp t) g (λ r. (h r).0.same_key) (b t) (W.sorted t));
      frame = update-one (λ u l. (k : Key u) → F.own (tag u k) ≡ false → at (key_of u) (cmp u) k l ≡ at (key_of u) (cmp u) k (b u)) t (map g) b (λ u k n. refl)
          (λ k n. at_map (key_of t) (cmp t) g (λ r. (h r).0.same_key) k (b t) ∙ stays k n (at (key_of t) (cmp t) k (b t)) refl);
      rows = update-one (λ u l. (r : Row u) → In r l → ((x : Row u) × In x (b u) × Same u x r) ⊎ Ok F u (put r)) t (map g) b (λ u r i. inl (r, i, same_self u r))
          (λ r i. let z = in_map g (b t) r i in inl (z.0, z.1, subst (λ (v : Row t). Same t z.0 v) (sym z.2) (h z.0).0));
    }
      where
        stays : (k : Key t) → F.own (tag t k) ≡ false → (o : Option (Row t)) → at (key_of t) (cmp t) k (b t) ≡ o → revised g o ≡ o
        stays k n none e = refl
        stays k n (some r) e = go (h r).1
          where
            go : (g r ≡ r) ⊎ Touched F t r → some (g r) ≡ some r
            go (inl p) = ap some p
            go (inr p) =
                let z = at_key (key_of t) (cmp t) (linear t) k (b t) r e in
                let y : F.own (tag t k) ≡ true = ap (λ (j : Key t). F.own (tag t j)) z.1 ∙ touched_own r z.0 p in
                never (cc)
