-- What is judged of every step alike, refusals 5 and 6: the test and the fact.
use mathlib.Core.Path.{◌≡◌, refl, ◌∙◌, ap}
use mathlib.Core.Logic.{◌⊎◌, inl, inr}
use mathlib.Core.Bool.{Bool, true, false, cond, not}
use mathlib.Core.List.{List, [], ◌∷◌}
use Rattle.std.specs.Prelude.{Option}
use Prim.Native.Nat.{ℕ, ◌≤◌}
use native.Mathlib.Omega.{arith}
use borrow.Author.Tests.{le-leb}
use lib.Dec.{eqb}
use lib.ListN.{length}
use Rattle.sorted.specs.Table.{In}
use Rattle.sorted.proofs.Tests.{and_both}
use Rattle.tables.specs.Tables.{Table, Row, cap, Tables}
use Rattle.tables.specs.Labels.{Label, host, code, among, mentions, clean, is_fresh}
use Rattle.tables.proofs.Update.{every_true}
use Rattle.shapes.specs.Events.{Message}
use Rattle.wim.specs.Nouns.{Fresh}
use Rattle.wim.specs.Program.{Outcome, made}
use Rattle.wim.specs.Step.{numbers, given, fresh_labels, all_fresh, fit, fits, admit}
use Rattle.invariant.proofs.Numbered.Fresh.{Absent}
use Rattle.invariant.proofs.Rooted.Tests.{fails}
use Rattle.either_order.proofs.Listed.{among_in}

-- FRESH.
absent_clean : (t : Table) (l : Label) (rs : List (Row t)) → ((r : Row t) → In r rs → In l (mentions t r) → ⊥) → clean t l rs ≡ true
unfolding clean
absent_clean t l [] h = refl
absent_clean t l (x ∷ rs) h =
    and_both (not (among l (mentions t x))) (clean t l rs) (ap not (fails (among l (mentions t x)) (λ e. h x (inl refl) (among_in l (mentions t x) e)))) (absent_clean t l rs (λ r i. h r (inr i)))

absent_fresh : (b : Tables) (l : Label) → Absent l b → is_fresh b l ≡ true
unfolding is_fresh
absent_fresh b l h = every_true (λ t. clean t l (b t)) (λ t. absent_clean t l (b t) (h.nowhere t))

pub all_absent : (b : Tables) (f : List Label) → ((l : Label) → In l f → Absent l b) → all_fresh b f ≡ true
unfolding all_fresh
all_absent b [] h = refl
all_absent b (x ∷ f) h = and_both (is_fresh b x) (all_fresh b f) (absent_fresh b x (h x (inl refl))) (all_absent b f (λ l i. h l (inr i)))

-- no host is brought
given_in : (ls : List Label) (l : Label) → In l (given ls) → In l ls
given_in [] l i = elim i [ ]
given_in (x ∷ ls) l i = go (eqb x.1 0) i (given_in ls l)
  where
    go : (c : Bool) → In l (cond c (given ls) (x ∷ given ls)) → (In l (given ls) → In l ls) → (l ≡ x) ⊎ In l ls
    go true i ih = inr (ih i)
    go false (inl e) ih = inl e
    go false (inr i) ih = inr (ih i)

pub no-host-fresh : (f : Fresh) (h : ℕ) → In (host, h) (fresh_labels f) → ⊥
no-host-fresh f h i = go (given_in (numbers f) (host, h) i)
  where
    go : In (host, h) (numbers f) → ⊥
    go (inl e) = let z : ◌≡◌ {A = ℕ} 5 0 = ap (λ (l : Label). code l.0) e in omega arith
    go (inr (inl e)) = let z : ◌≡◌ {A = ℕ} 5 1 = ap (λ (l : Label). code l.0) e in omega arith
    go (inr (inr (inl e))) = let z : ◌≡◌ {A = ℕ} 5 2 = ap (λ (l : Label). code l.0) e in omega arith
    go (inr (inr (inr (inl e)))) = let z : ◌≡◌ {A = ℕ} 5 3 = ap (λ (l : Label). code l.0) e in omega arith
    go (inr (inr (inr (inr (inr x5))))) = elim x5 [ ]
    go (inr (inr (inr (inr (inl e))))) = let z : ◌≡◌ {A = ℕ} 5 4 = ap (λ (l : Label). code l.0) e in omega arith

-- ROWS.
pub sizes-fit : (b : Tables) → ((t : Table) → length (b t) ≤ cap t) → fits b ≡ true
unfolding fits
sizes-fit b h = every_true (fit b) (λ t. le-leb (length (b t)) (cap t) (h t))

-- AN ACCEPTED STEP is an accepted run with fresh numbers and rows enough.
pub admits : (f : List Label) (b : Tables) (o : Outcome) (c : Tables) (m : Option Message) → o ≡ made c m → all_fresh b f ≡ true → fits c ≡ true → admit f b o ≡ made c m
admits f b o c m e p q = ap (admit f b) e ∙ (rw (p, q))
