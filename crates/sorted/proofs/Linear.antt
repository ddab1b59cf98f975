-- Numbers, truth values and keys of two parts are linearly ordered by their comparisons.
use mathlib.Core.Path.{◌≡◌, refl, sym, ◌∙◌, ap}
use mathlib.Core.Logic.{◌⊎◌, inl, inr}
use mathlib.Core.Bool.{Bool, true, false, cond}
use Prim.Native.Nat.{ℕ, ◌<◌}
use native.Mathlib.Omega.{arith}
use borrow.Author.Tests.{ltb-true, ltb-false}
use lib.Dec.{ltb}
use Rattle.std.specs.declared.cmp.Ordering.{Ordering as Order}
use Rattle.std.specs.declared.cmp.Ordering.TheVariants.{Less as Before, Equal as Same, Greater as After}
use Rattle.sorted.specs.Order.{cmpℕ, cmp_bool, then, lex, same, Linear}
use Rattle.sorted.proofs.Never.{never}

-- NUMBERS.
abbrev pick : Bool → Bool → Order
pick d e = cond d Before (cond e After Same)

pub before-lt : (x y : ℕ) → cmpℕ x y ≡ Before → x < y
before-lt x y h = go (ltb x y) (ltb y x) refl h
  where
    go : (d e : Bool) → ltb x y ≡ d → pick d e ≡ Before → x < y
    go true e q p = ltb-true x y q
    go false true q p = never (cc)
    go false false q p = never (cc)

pub lt-before : (x y : ℕ) → x < y → cmpℕ x y ≡ Before
lt-before x y h = go (ltb x y) (ltb y x) refl
  where
    go : (d e : Bool) → ltb x y ≡ d → pick d e ≡ Before
    go true e q = refl
    go false e q = let z = ltb-false x y q in absurd (omega arith)

pub same-is : (x y : ℕ) → cmpℕ x y ≡ Same → x ≡ y
same-is x y h = go (ltb x y) (ltb y x) refl refl h
  where
    go : (d e : Bool) → ltb x y ≡ d → ltb y x ≡ e → pick d e ≡ Same → x ≡ y
    go true e q r p = never (cc)
    go false true q r p = never (cc)
    go false false q r p = let u = ltb-false x y q in let v = ltb-false y x r in omega arith

pub self-same : (x : ℕ) → cmpℕ x x ≡ Same
self-same x = go (ltb x x) refl
  where
    go : (d : Bool) → ltb x x ≡ d → pick d d ≡ Same
    go true q = let z = ltb-true x x q in absurd (omega arith)
    go false q = refl

pub after-lt : (x y : ℕ) → cmpℕ x y ≡ After → y < x
after-lt x y h = go (ltb x y) (ltb y x) refl h
  where
    go : (d e : Bool) → ltb y x ≡ e → pick d e ≡ After → y < x
    go true e q p = never (cc)
    go false true q p = ltb-true y x q
    go false false q p = never (cc)

pub linearℕ : Linear ℕ cmpℕ
linearℕ =
    record {
      self = self-same;
      eq = same-is;
      trans = λ x y z p q. lt-before x z (let u = before-lt x y p in let v = before-lt y z q in omega arith);
      turn = λ x y p. lt-before y x (after-lt x y p);
    }

-- TRUTH VALUES.
pub linear_bool : Linear Bool cmp_bool
linear_bool = record { self = self; eq = eq; trans = trans; turn = turn }
  where
    self : (x : Bool) → cmp_bool x x ≡ Same
    self true = refl
    self false = refl

    eq : (x y : Bool) → cmp_bool x y ≡ Same → x ≡ y
    eq true true p = refl
    eq true false p = never (cc)
    eq false true p = never (cc)
    eq false false p = refl

    trans : (x y z : Bool) → cmp_bool x y ≡ Before → cmp_bool y z ≡ Before → cmp_bool x z ≡ Before
    trans true true z p q = never (cc)
    trans true false z p q = never (cc)
    trans false true true p q = never (cc)
    trans false true false p q = never (cc)
    trans false false z p q = never (cc)

    turn : (x y : Bool) → cmp_bool x y ≡ After → cmp_bool y x ≡ Before
    turn true true p = never (cc)
    turn true false p = refl
    turn false true p = never (cc)
    turn false false p = never (cc)

-- KEYS OF TWO PARTS.
module _ {K L : Type 0} {c : K → K → Order} {d : L → L → Order} (P : Linear K c) (Q : Linear L d) where
  -- what the answer for the pair says of those for its parts
  part-before : (a b : Order) → then a b ≡ Before → (a ≡ Before) ⊎ ((a ≡ Same) × (b ≡ Before))
  part-before Before b h = inl refl
  part-before Same b h = inr (refl, h)
  part-before After b h = never (cc)

  part_same : (a b : Order) → then a b ≡ Same → (a ≡ Same) × (b ≡ Same)
  part_same Before b h = never (cc)
  part_same Same b h = (refl, h)
  part_same After b h = never (cc)

  part-after : (a b : Order) → then a b ≡ After → (a ≡ After) ⊎ ((a ≡ Same) × (b ≡ After))
  part-after After b h = inl refl
  part-after Same b h = inr (refl, h)
  part-after Before b h = never (cc)

  lex-trans : (x y z : K × L) → lex c d x y ≡ Before → lex c d y z ≡ Before → lex c d x z ≡ Before
  lex-trans x y z p q = go (part-before (c x.0 y.0) (d x.1 y.1) p) (part-before (c y.0 z.0) (d y.1 z.1) q)
    where
      go : (c x.0 y.0 ≡ Before) ⊎ ((c x.0 y.0 ≡ Same) × (d x.1 y.1 ≡ Before)) → (c y.0 z.0 ≡ Before) ⊎ ((c y.0 z.0 ≡ Same) × (d y.1 z.1 ≡ Before)) → lex c d x z ≡ Before
      go (inl a) (inl b) = ap (λ (w : Order). then w (d x.1 z.1)) (P.trans x.0 y.0 z.0 a b)
      go (inl a) (inr b) = let e : y.0 ≡ z.0 = P.eq y.0 z.0 b.0 in ap (λ (w : Order). then w (d x.1 z.1)) (ap (λ (w : K). c x.0 w) (sym e) ∙ a)
      go (inr a) (inl b) = let e : x.0 ≡ y.0 = P.eq x.0 y.0 a.0 in ap (λ (w : Order). then w (d x.1 z.1)) (ap (λ (w : K). c w z.0) e ∙ b)
      go (inr a) (inr b) =
          let e : x.0 ≡ y.0 = P.eq x.0 y.0 a.0 in
          let s : c x.0 z.0 ≡ Same = ap (λ (w : K). c w z.0) e ∙ b.0 in
          ap (λ (w : Order). then w (d x.1 z.1)) s ∙ Q.trans x.1 y.1 z.1 a.1 b.1

  lex-turn : (x y : K × L) → lex c d x y ≡ After → lex c d y x ≡ Before
  lex-turn x y p = go (part-after (c x.0 y.0) (d x.1 y.1) p)
    where
      go : (c x.0 y.0 ≡ After) ⊎ ((c x.0 y.0 ≡ Same) × (d x.1 y.1 ≡ After)) → lex c d y x ≡ Before
      go (inl a) = ap (λ (w : Order). then w (d y.1 x.1)) (P.turn x.0 y.0 a)
      go (inr a) =
          let e : x.0 ≡ y.0 = P.eq x.0 y.0 a.0 in
          let s : c y.0 x.0 ≡ Same = ap (λ (w : K). c w x.0) (sym e) ∙ P.self x.0 in
          ap (λ (w : Order). then w (d y.1 x.1)) s ∙ Q.turn x.1 y.1 a.1

  pub linear_lex : Linear (K × L) (lex c d)
  linear_lex =
      record {
        self = λ x. ap (λ (w : Order). then w (d x.1 x.1)) (P.self x.0) ∙ Q.self x.1;
        eq = λ x y p. let h = part_same (c x.0 y.0) (d x.1 y.1) p in λ i. (P.eq x.0 y.0 h.0 i, Q.eq x.1 y.1 h.1 i);
        trans = lex-trans;
        turn = lex-turn;
      }

-- THE TEST OF TWO KEYS is true exactly where they are equal.
module _ {K : Type 0} {cmp : K → K → Order} (O : Linear K cmp) where
  pub same_self : (k : K) → same (cmp k k) ≡ true
  same_self k = ap same (O.self k)

  pub same-eq : (j k : K) → same (cmp j k) ≡ true → j ≡ k
  same-eq j k h = go (cmp j k) refl h
    where
      go : (c : Order) → cmp j k ≡ c → same c ≡ true → j ≡ k
      go Before e p = never (cc)
      go Same e p = O.eq j k e
      go After e p = never (cc)

  pub same_ne : (j k : K) → (j ≡ k → ⊥) → same (cmp j k) ≡ false
  same_ne j k h = go (same (cmp j k)) refl
    where
      go : (c : Bool) → same (cmp j k) ≡ c → c ≡ false
      go true e = absurd (h (same-eq j k e))
      go false e = refl
