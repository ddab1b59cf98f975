-- Freshness is locality: a number that a step neither brings nor names stands nowhere after it, if it stood nowhere before.
use mathlib.Core.Path.{◌≡◌, refl, sym, ◌∙◌, ap, subst, subst₃}
use mathlib.Core.Logic.{◌⊎◌, inl, inr}
use mathlib.Core.Bool.{true, false, not}
use mathlib.Core.List.{List, ◌∷◌, ◌++◌}
use Rattle.std.specs.Prelude.{Option, Some as some}
use Prim.Native.Nat.{ℕ}
use borrow.Author.Tests.{not-true}
use Rattle.sorted.specs.Table.{In, put, Sorted}
use Rattle.sorted.proofs.Never.{never}
use Rattle.sorted.proofs.Member.{all_in, in_append}
use Rattle.tables.specs.Tables.{Table, Row, Key, key_of, cmp, Tables}
use Rattle.tables.specs.Labels.{Label, host, same_label, tag, ties, refs, mentions}
use Rattle.shapes.specs.Events.{Message}
use Rattle.wim.specs.Nouns.{Item, Event}
use Rattle.wim.specs.Program.{made, run}
use Rattle.wim.specs.Main.{cookies_in, program}
use Rattle.wim.specs.Step.{fresh_labels}
use Rattle.wim.specs.LocalSteps.{names, home}
use Rattle.invariant.proofs.Numbered.Fresh.{Absent}
use Rattle.invariant.proofs.Rooted.Tests.{fails}
use Rattle.four_rows.proofs.Programs.{none_yet}
use Rattle.either_order.specs.Statement.{LocalStep}
use Rattle.either_order.proofs.Part.{Part, Ok, Same, pulls, pulled-refs, Whole, Moved}
use Rattle.either_order.proofs.Keeps.{moves}
use Rattle.either_order.proofs.Listed.{same-label, label_same, tie_mentioned, ref_mentioned}
use Rattle.either_order.proofs.Seeds.{Seeds, sought, found}
use Rattle.either_order.proofs.Kept.{kept}
use Rattle.either_order.proofs.Known.{home-named, found-stands, sought_named}

-- THE PART 'all but one number'
abbrev but : Label → Part
but l = record { own = λ a. not (same_label a l); other = λ a. same_label a l; apart = λ a e. not-true (same_label a l) e }

not_other : (a l : Label) → (a ≡ l → ⊥) → same_label a l ≡ false
not_other a l h = fails (same_label a l) (λ e. h (same-label a l e))

mine : (a l : Label) → (a ≡ l → ⊥) → not (same_label a l) ≡ true
mine a l h = ap not (not_other a l h)

not_mine : (l : Label) → not (same_label l l) ≡ true → ⊥
not_mine l e = let z : not true ≡ true = ap not (sym (label_same l)) ∙ e in never (cc)

module _ (b : Tables) (s : (t : Table) → Sorted (key_of t) (cmp t) (b t)) (l : Label) (ab : Absent l b) (no-host : (h : ℕ) → (host, h) ≡ l → ⊥) where
  differs : (t : Table) (r : Row t) → In r (b t) → (a : Label) → In a (mentions t r) → a ≡ l → ⊥
  differs t r i a j e = ab.nowhere t r i (subst (λ (v : Label). In v (mentions t r)) e j)

  whole : Whole (but l) b
  whole = record { sorted = s; owns = λ t r i. (λ a j. tie_mine t r i a j ∙ sym (tag_mine t r i), λ a j e. tag_mine t r i); others = λ t r i. (λ a j. tie-other t r i a j ∙ sym (tag-other t r i), λ a j e. absurd (pull_other t r i a j e)) }
    where
      tag_mine : (t : Table) (r : Row t) → In r (b t) → not (same_label (tag t (key_of t r)) l) ≡ true
      tag_mine t r i = mine (tag t (key_of t r)) l (differs t r i (tag t (key_of t r)) (inl refl))

      tag-other : (t : Table) (r : Row t) → In r (b t) → same_label (tag t (key_of t r)) l ≡ false
      tag-other t r i = not_other (tag t (key_of t r)) l (differs t r i (tag t (key_of t r)) (inl refl))

      tie_mine : (t : Table) (r : Row t) → In r (b t) → (a : Label) → In a (ties t r) → not (same_label a l) ≡ true
      tie_mine t r i a j = mine a l (differs t r i a (tie_mentioned t r a j))

      tie-other : (t : Table) (r : Row t) → In r (b t) → (a : Label) → In a (ties t r) → same_label a l ≡ false
      tie-other t r i a j = not_other a l (differs t r i a (tie_mentioned t r a j))

      pull_other : (t : Table) (r : Row t) → In r (b t) → (a : Label) → In a (pulls t r) → same_label a l ≡ true → ⊥
      pull_other t r i a j e = differs t r i a (ref_mentioned t r a (pulled-refs t r a j)) (same-label a l e)

  module _ (e : Event) (unnamed : In l (names e) → ⊥) where
    seeds : Seeds (but l) e b
    seeds = record { home_sees = by_home; home-own = λ a t h k. by_home a h; hosts-own = λ h i. mine (host, h.0) l (no-host h.0); sought_sees = by_sought; found-own = by-found }
      where
        by_home : (a : Label) → home e b ≡ some a → not (same_label a l) ≡ true
        by_home a h = mine a l (λ z. unnamed (subst (λ (v : Label). In v (names e)) z (home-named b a (subst (λ (v : Label). Absent v b) (sym z) ab) e h)))

        by_sought : (a : Label) → In a (sought e) → not (same_label a l) ≡ true
        by_sought a i = mine a l (λ z. unnamed (subst (λ (v : Label). In v (names e)) z (sought_named e a i)))

        by-found : (a : Label) → In a (found e b) → not (same_label a l) ≡ true
        by-found a i = mine a l (λ z. found-stands b a (subst (λ (v : Label). Absent v b) (sym z) ab) e i)

  pub still_absent : (j : Item) → LocalStep j → (In l (fresh_labels j.fresh) → ⊥) → (In l (names j.event) → ⊥) → (c : Tables) (m : Option Message)
      → run (program j.event (cookies_in j.cookies)) b (fresh_labels j.fresh) ≡ made c m → Absent l c
  still_absent j S unbrought unnamed c m e = record { nowhere = λ t r i k. go t r (after.rows t r i) k }
    where
      after : Moved (but l) b c
      after =
          (moves (but l) (program j.event (cookies_in j.cookies)) none_yet b (fresh_labels j.fresh) c m (kept (but l) b whole j.event (cookies_in j.cookies) S.kind S.cookies (seeds j.event unnamed))
          (λ a k. mine a l (λ z. unbrought (subst (λ (v : Label). In v (fresh_labels j.fresh)) z k))) whole e).0

      go : (t : Table) (r : Row t) → ((x : Row t) × In x (b t) × Same t x r) ⊎ Ok (but l) t (put r) → In l (mentions t r) → ⊥
      go t r (inl x) k =
          ab.nowhere t x.0 x.1 (subst₃ (λ (y : Key t) (ts rs : List Label). In l (tag t y ∷ (ts ++ rs))) x.2.same_key x.2.same-ties x.2.same-refs k)
      go t r (inr o) (inl z) = not_mine l (ap (λ (v : Label). not (same_label v l)) z ∙ o.0)
      go t r (inr o) (inr k) =
          elim (in_append (ties t r) (refs t r) l k) [
            | inl q ↦ not_mine l (all_in (λ a. not (same_label a l) ≡ true) (ties t r) o.1 l q)
            | inr q ↦ not_mine l (all_in (λ a. not (same_label a l) ≡ true) (refs t r) o.2 l q)
          ]
