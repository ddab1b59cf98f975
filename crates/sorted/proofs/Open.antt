-- A row goes in: the loop that moves the rows from p on up by one, and what comes of it for a table.
use mathlib.Core.Path.{◌≡◌, refl, sym, ap, ◌∙◌}
use mathlib.Core.Bool.{Bool, true, false, cond, false≢true, true≢false}
use mathlib.Core.List.{List, [], ◌∷◌}
use Prim.Native.Nat.{ℕ, zero, suc, ◌+◌, ◌≤◌, ◌<◌, min}
use native.Mathlib.Nat.{add-suc, not-suc-le-zero, le_of_suc-le-suc}
use native.Mathlib.Numerals.{add-one}
use native.Mathlib.Omega.{arith}
use borrow.Author.Tests.{le-leb, lt-leb}
use lib.Dec.{leb}
use lib.ListN.{length, get_or, take, drop, set, length-set, length-append, length-take, length-drop}
use lib.Seq.{drop-cons, take-suc-set, drop-set-lt, take_all, take-append-le, take-set-lt, take-take, append_snoc}
use Rattle.std.specs.declared.cmp.Ordering.{Ordering as Order}
use Rattle.std.specs.declared.cmp.Ordering.TheVariants.{Less as Before, Equal as Same, Greater as After}
use Rattle.sorted.specs.Order.{same, after}
use Rattle.sorted.specs.Table.{opened, lower, has, insert, place, stand, Sought, Offered}
use Rattle.sorted.proofs.Seek.{hit-below, lower-within}

-- THE LOOP: `hold` is the row that stands next at i.
pub record Opening {A : Type 0} (p : ℕ) (r : A) (capacity : ℕ) (rows₀ rows : List A) (hold : A) (i : ℕ) : Type 0 where
  pub len : length rows ≡ capacity
  pub all : opened i hold rows ≡ opened p r rows₀

module _ {A : Type 0} {p : ℕ} {r : A} {capacity : ℕ} {rows₀ : List A} where
  pub open_start : length rows₀ ≡ capacity → Opening p r capacity rows₀ rows₀ r p
  open_start l = record { len = l; all = refl }

  module _ {rows : List A} {hold : A} {i : ℕ} (s : Opening p r capacity rows₀ rows hold i) where
    pub open_next : (d : A) → i < capacity → Opening p r capacity rows₀ (set rows i hold) (get_or rows i d) (i + 1)
    open_next d h =
        let l : i < length rows = omega (arith, s.len) in
        let e : opened (i + 1) (get_or rows i d) (set rows i hold) ≡ opened i hold rows =
        rw (add-one, take-suc-set rows i hold l, drop-set-lt (suc i) rows i hold (omega arith), append_snoc, drop-cons rows i d l)
        in
        record { len = length-set rows i hold ∙ s.len; all = e ∙ s.all }

    pub open_end : capacity ≤ i → rows ≡ take capacity (opened p r rows₀)
    open_end h =
        let l : length rows ≡ capacity = s.len in
        let t : take i rows ≡ rows = take_all i rows (omega arith) in
        sym (rw (← s.all, t, take-append-le capacity rows (hold ∷ drop i rows) (omega arith)) (take_all capacity rows (omega arith)))

-- WHERE A ROW GOES: in the place of the one with its key, or before the first above it.
module _ {A K : Type 0} (key : A → K) (cmp : K → K → Order) (r : A) where
  insert-hit : (l : List A) → has (stand key cmp r) l ≡ true → insert key cmp r l ≡ set l (lower (stand key cmp r) l) r
  unfolding lower has insert
  insert-hit [] h = absurd (false≢true h)
  insert-hit (x ∷ l) h = go (stand key cmp r x) (λ e. insert-hit l e) h
    where
      go : (o : Order) → (has (stand key cmp r) l ≡ true → insert key cmp r l ≡ set l (lower (stand key cmp r) l) r)
          → cond (after o) (has (stand key cmp r) l) (same o) ≡ true
          → place key cmp o r x l (insert key cmp r l) ≡ set (x ∷ l) (cond (after o) (suc (lower (stand key cmp r) l)) 0) r
      go After ih e = ap {B = List A} (λ (t : List A). x ∷ t) (ih e)
      go Same ih e = refl
      go Before ih e = absurd (false≢true e)

  insert_miss : (l : List A) → has (stand key cmp r) l ≡ false → insert key cmp r l ≡ opened (lower (stand key cmp r) l) r l
  unfolding lower has insert
  insert_miss [] h = refl
  insert_miss (x ∷ l) h = go (stand key cmp r x) (λ e. insert_miss l e) h
    where
      go : (o : Order) → (has (stand key cmp r) l ≡ false → insert key cmp r l ≡ opened (lower (stand key cmp r) l) r l)
          → cond (after o) (has (stand key cmp r) l) (same o) ≡ false
          → place key cmp o r x l (insert key cmp r l) ≡ opened (cond (after o) (suc (lower (stand key cmp r) l)) 0) r (x ∷ l)
      go After ih e = ap {B = List A} (λ (t : List A). x ∷ t) (ih e)
      go Same ih e = absurd (true≢false e)
      go Before ih e = refl

take_opened : {A : Type 0} (p n : ℕ) (r : A) (l : List A) → p ≤ n → take (suc n) (opened p r l) ≡ opened p r (take n l)
take_opened zero n r l h = refl
take_opened (suc p) zero r l h = absurd (not-suc-le-zero h)
take_opened (suc p) (suc n) r [] h = refl
take_opened {A} (suc p) (suc n) r (x ∷ xs) h = ap {B = List A} (λ (t : List A). x ∷ t) (take_opened p n r xs (le_of_suc-le-suc h))

length_opened : {A : Type 0} (p : ℕ) (r : A) (l : List A) → length (opened p r l) ≡ suc (length l)
length_opened p r l = simp (length-append, length-take, length-drop, add-suc) (omega arith)

-- what the search gave
module _ {A : Type 0} {c : A → Order} {count capacity n at : ℕ} {hit : Bool} {rows : List A} (s : Sought c count capacity rows at hit n) where
  used : n ≡ min count capacity
  used = s.size ∙ length-take count rows ∙ ap (min count) s.len

  there-below : hit ≡ true → at < n
  there-below h = omega (arith, s.place, s.size, hit-below c (take count rows) (sym s.there ∙ h))

  -- a place that is found is below the capacity, as an index asks
  pub at-below : hit ≡ true → at < capacity
  at-below h = omega (arith, there-below h, used)

-- THE THREE WAYS OF A PUT.
module _ {A K : Type 0} (key : A → K) (cmp : K → K → Order) (r : A) {count capacity n at : ℕ} {hit : Bool} {rows : List A}
    (s : Sought (stand key cmp r) count capacity rows at hit n) where
  pub put-over : hit ≡ true → Offered capacity (insert key cmp r (take count rows)) (take count (set rows at r)) true
  put-over h =
      let c : at < count = omega (arith, there-below s h, used s) in
      let e : insert key cmp r (take count rows) ≡ set (take count rows) at r = insert-hit key cmp r (take count rows) (sym s.there ∙ h) ∙ (rw s.place) in
      let f : leb (length (insert key cmp r (take count rows))) capacity ≡ true = rw (e, length-set, ← s.size) (le-leb n capacity (omega (arith, used s))) in
      record { rows = λ _. rw e (take-set-lt count rows at r c); had = sym f }

  pub put-new : hit ≡ false → n < capacity → Offered capacity (insert key cmp r (take count rows)) (take (n + 1) (take capacity (opened at r rows))) true
  put-new h b =
      let c : count ≡ n = omega (arith, used s) in
      let p : at ≤ n = omega (arith, s.place, s.size, lower-within (stand key cmp r) (take count rows)) in
      let e : insert key cmp r (take count rows) ≡ opened at r (take count rows) = insert_miss key cmp r (take count rows) (sym s.there ∙ h) ∙ (rw s.place) in
      let f : leb (length (insert key cmp r (take count rows))) capacity ≡ true = rw (e, length_opened at r (take count rows), ← s.size) (le-leb (suc n) capacity (omega arith)) in
      record { rows = λ _. rw (e, c, take-take (n + 1) capacity (opened at r rows) (omega arith), add-one) (take_opened at n r rows p); had = sym f }

  pub put_full : hit ≡ false → capacity ≤ n → Offered capacity (insert key cmp r (take count rows)) (take count rows) false
  put_full h b =
      let f : leb (length (insert key cmp r (take count rows))) capacity ≡ false =
      rw (insert_miss key cmp r (take count rows) (sym s.there ∙ h), length_opened (lower (stand key cmp r) (take count rows)) r (take count rows), ← s.size) (lt-leb (suc n) capacity (omega arith))
      in
      record { rows = λ e. absurd (false≢true e); had = sym f }
