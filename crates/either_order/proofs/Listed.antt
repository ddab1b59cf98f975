-- Labels and hosts in lists: the test and the fact.
use mathlib.Core.Path.{◌≡◌, refl, ◌∙◌, ap}
use mathlib.Core.Logic.{inl, inr}
use mathlib.Core.Bool.{Bool, true, false, ◌||◌}
use mathlib.Core.List.{List, [], ◌∷◌}
use borrow.Author.Tests.{eqb-true, eq-eqb}
use lib.Dec.{eqb}
use Rattle.sorted.specs.Table.{In}
use Rattle.sorted.proofs.Never.{never}
use Rattle.sorted.proofs.Member.{in_left, in_right}
use Rattle.sorted.proofs.Tests.{and_left, and_right, and_both, or_one, or_left, or_right}
use Rattle.tables.specs.Tables.{Table, Row}
use Rattle.tables.specs.Labels.{Label, code, same_label, among, ties, refs, mentions}
use Rattle.tables.specs.Rows.{same_host}
use Rattle.wim.specs.Nouns.{Host}
use Rattle.invariant.proofs.Numbered.Fresh.{of_kind}

-- LABELS.
pub same-label : (l m : Label) → same_label l m ≡ true → l ≡ m
same-label l m e =
    let k : (l.0, m.1) ≡ m = of_kind l.0 m (and_left (eqb (code l.0) (code m.0)) (eqb l.1 m.1) e) in
    let n : l.1 ≡ m.1 = eqb-true l.1 m.1 (and_right (eqb (code l.0) (code m.0)) (eqb l.1 m.1) e) in
    (λ i. (l.0, n i)) ∙ k

pub label_same : (l : Label) → same_label l l ≡ true
label_same l = and_both (eqb (code l.0) (code l.0)) (eqb l.1 l.1) (eq-eqb (code l.0) (code l.0) refl) (eq-eqb l.1 l.1 refl)

pub among_in : (l : Label) (f : List Label) → among l f ≡ true → In l f
among_in l [] e = never (cc)
among_in l (m ∷ f) e = elim (or_one (same_label l m) (among l f) e) [ inl p ↦ inl (same-label l m p) | inr p ↦ inr (among_in l f p) ]

-- HOSTS.
abbrev pub host_one_of : Host → List Host → Bool
host_one_of h [] = false
host_one_of h (g ∷ gs) = same_host h g || host_one_of h gs

pub host_in : (h : Host) (hs : List Host) → host_one_of h hs ≡ true → In h hs
host_in h [] e = never (cc)
host_in h (g ∷ hs) e = elim (or_one (same_host h g) (host_one_of h hs) e) [ inl p ↦ inl (λ i. record { 0 = eqb-true h.0 g.0 p i }) | inr p ↦ inr (host_in h hs p) ]

pub in_hosts : (h : Host) (hs : List Host) → In h hs → host_one_of h hs ≡ true
in_hosts h [] x' = elim x' [ ]
in_hosts h (g ∷ hs) (inl e) = or_left (same_host h g) (host_one_of h hs) (eq-eqb h.0 g.0 (ap (λ (x : Host). x.0) e))
in_hosts h (g ∷ hs) (inr i) = or_right (same_host h g) (host_one_of h hs) (in_hosts h hs i)

-- what a row ties together or refers to stands in it
pub tie_mentioned : (t : Table) (r : Row t) (a : Label) → In a (ties t r) → In a (mentions t r)
tie_mentioned t r a i = inr (in_left (ties t r) (refs t r) a i)

pub ref_mentioned : (t : Table) (r : Row t) (a : Label) → In a (refs t r) → In a (mentions t r)
ref_mentioned t r a i = inr (in_right (ties t r) (refs t r) a i)
