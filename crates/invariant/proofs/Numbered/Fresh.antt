-- Fresh numbers: what refusal 5 tells of the tables before a step, and refusal 6 of those after it.
use mathlib.Core.Path.{◌≡◌, refl, sym, ◌∙◌, ap, subst}
use mathlib.Core.Logic.{inl, inr}
use mathlib.Core.Bool.{Bool, true, false, cond, not}
use mathlib.Core.List.{List, ◌∷◌}
use Rattle.std.specs.Prelude.{Option}
use Prim.Native.Nat.{ℕ, zero, suc, ◌≤◌}
use borrow.Author.Tests.{leb-true, eqb-true, eq-eqb, not-true}
use lib.Dec.{eqb}
use lib.ListN.{length}
use Rattle.sorted.specs.Table.{In}
use Rattle.sorted.proofs.Never.{never}
use Rattle.tables.specs.Tables.{Table, Row, cap, Tables}
use Rattle.tables.specs.Labels.{Kind, window, request, dns, key, document, host, Label, code, same_label, among, mentions, clean, is_fresh}
use Rattle.shapes.specs.Events.{Message}
use Rattle.wim.specs.Nouns.{NotFresh, Full}
use Rattle.wim.specs.Program.{Outcome, refused, made}
use Rattle.wim.specs.Step.{all_fresh, fit, fits, admit}
use Rattle.sorted.proofs.Tests.{and_split, and_both, or_left, or_right}
use Rattle.tables.proofs.Update.{every_one}

-- a label stands in no row
pub record Absent (l : Label) (b : Tables) : Type 0 where
  pub nowhere : (t : Table) (r : Row t) → In r (b t) → In l (mentions t r) → ⊥

pub in_among : (l : Label) (ms : List Label) → In l ms → among l ms ≡ true
in_among l mathlib.Core.List.[] x' = elim x' [ ]
in_among l (m ∷ ms) (inl e) = or_left (same_label l m) (among l ms) same
  where
    same : same_label l m ≡ true
    same = and_both (eqb (code l.0) (code m.0)) (eqb l.1 m.1) (eq-eqb _ _ (ap (λ (x : Label). code x.0) e)) (eq-eqb _ _ (ap (λ (x : Label). x.1) e))
in_among l (m ∷ ms) (inr i) = or_right (same_label l m) (among l ms) (in_among l ms i)

pub clean_absent : (t : Table) (l : Label) (rs : List (Row t)) → clean t l rs ≡ true → (r : Row t) → In r rs → In l (mentions t r) → ⊥
unfolding clean
clean_absent t l mathlib.Core.List.[] e r x3 i = elim x3 [ ]
clean_absent t l (x ∷ rs) e r (inl p) i =
    let z = and_split (not (among l (mentions t x))) (clean t l rs) e in
    let w : among l (mentions t x) ≡ true = in_among l (mentions t x) (subst (λ (y : Row t). In l (mentions t y)) p i) in
    let v : among l (mentions t x) ≡ false = not-true _ z.0 in
    never (cc)
clean_absent t l (x ∷ rs) e r (inr j) i = clean_absent t l rs (and_split (not (among l (mentions t x))) (clean t l rs) e).1 r j i

pub fresh_absent : (b : Tables) (f : List Label) → all_fresh b f ≡ true → (l : Label) → In l f → Absent l b
unfolding all_fresh is_fresh
fresh_absent b mathlib.Core.List.[] e l x'' = elim x'' [ ]
fresh_absent b (m ∷ f) e l (inl p) =
    let z = and_split (is_fresh b m) (all_fresh b f) e in
    subst (λ (x : Label). Absent x b) (sym p) (record { nowhere = λ t. clean_absent t m (b t) (every_one (λ u. clean u m (b u)) z.0 t) })
fresh_absent b (m ∷ f) e l (inr i) = fresh_absent b f (and_split (is_fresh b m) (all_fresh b f) e).1 l i

-- a label of the kind that was asked for
uncode : ℕ → Kind
uncode zero = window
uncode (suc zero) = request
uncode (suc (suc zero)) = dns
uncode (suc (suc (suc zero))) = key
uncode (suc (suc (suc (suc zero)))) = document
uncode (suc (suc (suc (suc (suc n))))) = host

uncoded : (κ : Kind) → uncode (code κ) ≡ κ
unfolding uncode
uncoded window = refl
uncoded request = refl
uncoded dns = refl
uncoded key = refl
uncoded document = refl
uncoded host = refl

pub of_kind : (κ : Kind) (l : Label) → eqb (code κ) (code l.0) ≡ true → (κ, l.1) ≡ l
of_kind κ l e =
    let z : κ ≡ l.0 = sym (uncoded κ) ∙ (ap uncode (eqb-true (code κ) (code l.0) e) ∙ uncoded l.0) in
    λ i. (z i, l.1)

pub fits-sizes : (b : Tables) → fits b ≡ true → (t : Table) → length (b t) ≤ cap t
unfolding fits
fits-sizes b e t = leb-true (length (b t)) (cap t) (every_one (fit b) e t)

-- what an accepted step passed: 5 and 6
pub admitted : (f : List Label) (b : Tables) (o : Outcome) (c : Tables) (m : Option Message) → admit f b o ≡ made c m → (o ≡ made c m) × (all_fresh b f ≡ true) × (fits c ≡ true)
admitted f b (refused r) c m e = never (cc)
admitted f b (made d n) c m e = go (all_fresh b f) (fits d) refl refl e
  where
    go : (x y : Bool) → all_fresh b f ≡ x → fits d ≡ y → cond x (cond y (made d n) (refused Full)) (refused NotFresh) ≡ made c m → (made d n ≡ made c m) × (all_fresh b f ≡ true) × (fits c ≡ true)
    go true true p q h = let z : d ≡ c = cc in (h, p, subst (λ (v : Tables). fits v ≡ true) z q)
    go true false p q h = never (cc)
    go false y p q h = never (cc)
