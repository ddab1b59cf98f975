-- Tables in a memory of numbers: a count, and behind it the rows, `width` numbers each.
use Rattle.std.specs.Prelude.{◌≡◌, Bool, false, List, [], ◌∷◌, ◌++◌, map, ℕ, zero, suc, ◌+◌, ◌*◌, ◌-◌, ◌≤◌, ◌<◌, length, get_or, take, drop}
use Rattle.std.specs.declared.cmp.Ordering.{Ordering as Order}
use Rattle.sorted.specs.Table.{keep, insert, Sought, Offered}

-- how many numbers a memory has
abbrev pub total : ℕ
total = 10240

-- where a table lies, and what the numbers of a row say: any numbers say something
pub record Layout (A : Type 0) : Type 0 where
  pub base : ℕ
  pub width : ℕ
  pub capacity : ℕ
  pub decode : List ℕ → A

-- n rows of w numbers
unfoldable pub chunks : ℕ → ℕ → List ℕ → List (List ℕ)
chunks w zero l = []
chunks w (suc n) l = take w l ∷ chunks w n (drop w l)

module _ {A : Type 0} (t : Layout A) where
  -- all rows that there is room for, and those that count
  abbrev pub rows : List ℕ → List A
  rows m = map t.decode (chunks t.width t.capacity (drop (t.base + 1) m))

  abbrev pub count : List ℕ → ℕ
  count m = get_or m t.base 0

  abbrev pub table : List ℕ → List A
  table m = take (count m) (rows m)

  -- where row i starts
  abbrev pub place : ℕ → ℕ
  place i = t.base + 1 + i * t.width

  -- where the table ends
  abbrev pub end : ℕ
  end = t.base + 1 + t.capacity * t.width

-- these numbers from p on
abbrev pub over : List ℕ → ℕ → List ℕ → List ℕ
over m p c = take p m ++ (c ++ drop (p + length c) m)

-- the numbers from p to e moved up by w; those from p to p + w stay as they were
abbrev pub shifted : List ℕ → ℕ → ℕ → ℕ → List ℕ
shifted m p e w = take (p + w) m ++ (take (e - p) (drop p m) ++ drop (e + w) m)

-- THE MOVES OF NUMBERS, for any places and lengths.
-- c is written from p on where there is room for all of it; else nothing changes
pub record Stored (m : List ℕ) (p : ℕ) (c n : List ℕ) : Type 0 where
  pub fits : p + length c ≤ length m → n ≡ over m p c
  pub beyond : length m < p + length c → n ≡ m

-- w numbers from p on are copied to q, which is not above; else nothing changes
pub record Carried (m : List ℕ) (p q w : ℕ) (n : List ℕ) : Type 0 where
  pub fits : q ≤ p → p + w ≤ total → n ≡ over m q (take w (drop p m))
  pub upward : p < q → n ≡ m
  pub beyond : total < p + w → n ≡ m

-- the numbers from p to e are moved up by w where there is room; else nothing changes
pub record Lifted (m : List ℕ) (p e w : ℕ) (n : List ℕ) : Type 0 where
  pub fits : p ≤ e → e + w ≤ total → n ≡ shifted m p e w
  pub downward : e < p → n ≡ m
  pub beyond : total < e + w → n ≡ m

-- the numbers before b and from e on are as they were, and no less
pub record Within (b e : ℕ) (m n : List ℕ) : Type 0 where
  pub len : length n ≡ length m
  pub before : take b n ≡ take b m
  pub behind : drop e n ≡ drop e m

-- WHAT THE CODE'S FUNCTIONS ENSURE, of any table.
module _ {A : Type 0} (t : Layout A) where
  -- r is row i; behind the last there is what no numbers say
  pub record Read (m : List ℕ) (i : ℕ) (r : A) : Type 0 where
    pub is : r ≡ get_or (rows t m) i (t.decode [])

  -- r is that part of row i
  pub record Glimpsed {H : Type 0} (f : A → H) (m : List ℕ) (i : ℕ) (r : H) : Type 0 where
    pub is : r ≡ f (get_or (rows t m) i (t.decode []))

  -- the place of a row among those that count
  pub record Found (c : A → Order) (m : List ℕ) (at : ℕ) (hit : Bool) (used : ℕ) : Type 0 where
    pub is : Sought c (count t m) t.capacity (rows t m) at hit used

  -- only rows that pass stay, and nothing else changes
  pub record Kept (p : A → Bool) (m n : List ℕ) : Type 0 where
    pub rows : table t n ≡ keep p (table t m)
    pub rest : Within t.base (end t) m n

  -- a row goes in, if there is room; nothing else changes, and nothing at all where there is none
  pub record Put {K : Type 0} (key : A → K) (cmp : K → K → Order) (r : A) (m n : List ℕ) (done : Bool) : Type 0 where
    pub rows : Offered t.capacity (insert key cmp r (table t m)) (table t n) done
    pub same : done ≡ false → n ≡ m
    pub rest : Within t.base (end t) m n

  -- each row is changed in its place, and nothing else
  pub record Revised (f : A → A) (m n : List ℕ) : Type 0 where
    pub rows : table t n ≡ map f (table t m)
    pub rest : Within t.base (end t) m n

  -- what stands at row i now is read as r, and nothing else changed
  pub record Written (r : A) (i : ℕ) (m n : List ℕ) : Type 0 where
    pub is : n ≡ over m (place t i) (take t.width (drop (place t i) n))
    pub len : length (take t.width (drop (place t i) n)) ≡ t.width
    pub reads : t.decode (take t.width (drop (place t i) n)) ≡ r

  -- no row is left, and nothing else changes
  pub record Cleared (m n : List ℕ) : Type 0 where
    pub rows : table t n ≡ []
    pub rest : Within t.base (end t) m n
