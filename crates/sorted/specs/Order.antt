-- The order of keys, by one comparison.
use Rattle.std.specs.Prelude.{◌≡◌, Bool, true, false, cond, ℕ, ltb}
use Rattle.std.specs.declared.cmp.Ordering.{Ordering as Order}
use Rattle.std.specs.declared.cmp.Ordering.TheVariants.{Less as Before, Equal as Same, Greater as After}

abbrev pub cmpℕ : ℕ → ℕ → Order
cmpℕ x y = cond (ltb x y) Before (cond (ltb y x) After Same)

abbrev pub bit : Bool → ℕ
bit b = cond b 1 0

-- false before true
abbrev pub cmp_bool : Bool → Bool → Order
cmp_bool a b = cmpℕ (bit a) (bit b)

-- the first answer decides, unless it is Same
abbrev pub then : Order → Order → Order
then Before d = Before
then Same d = d
then After d = After

-- a key of two parts: the first decides, then the second; of three parts: the second part is such a key
abbrev pub lex : {K L : Type 0} → (K → K → Order) → (L → L → Order) → K × L → K × L → Order
lex c d x y = then (c x.0 y.0) (d x.1 y.1)

abbrev pub same : Order → Bool
same Before = false
same Same = true
same After = false

abbrev pub after : Order → Bool
after Before = false
after Same = false
after After = true

-- what a comparison has to satisfy, for tables in its order to be determined by their rows
pub record Linear (K : Type 0) (cmp : K → K → Order) : Type 0 where
  pub self : (x : K) → cmp x x ≡ Same
  pub eq : (x y : K) → cmp x y ≡ Same → x ≡ y
  pub trans : (x y z : K) → cmp x y ≡ Before → cmp y z ≡ Before → cmp x z ≡ Before
  pub turn : (x y : K) → cmp x y ≡ After → cmp y x ≡ Before
