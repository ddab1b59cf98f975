-- The loop that puts a row for each member of a short array into a table, up to the first that finds no room.
use mathlib.Core.Path.{◌≡◌, sym, ap, ◌∙◌}
use mathlib.Core.Bool.{true, false, false≢true}
use mathlib.Core.List.{List, [], map}
use Prim.Native.Nat.{ℕ, zero-le, ◌+◌, ◌≤◌, ◌<◌, min}
use native.Mathlib.Omega.{arith}
use borrow.Author.Tests.{leb-true, le-leb}
use lib.Dec.{leb}
use lib.ListN.{length, get_or, take, drop}
use Rattle.std.specs.declared.cmp.Ordering.{Ordering as Order}
use Rattle.sorted.specs.Table.{put, insert, acts, Offered}
use Rattle.sorted.proofs.Edits.{puts-only, no_room}
use Rattle.sorted.proofs.Count.{all-rows, next_row, no_row}

-- for `count` of the `few` members a row, that `make` makes, is to go into the table `start`; those before i are in `now`
pub record Putting {A R K : Type 0} (key : R → K) (cmp : K → K → Order) (make : A → R) (capacity count few n : ℕ) (items : List A) (start now : List R) (i : ℕ) : Type 0 where
  pub len : length items ≡ few
  pub counts : n ≡ min count few
  pub within : i ≤ n
  pub fits : length now ≤ capacity
  pub all : acts key cmp (map (λ (a : A). put (make a)) (drop i (take n items))) now ≡ acts key cmp (map (λ (a : A). put (make a)) (take count items)) start

module _ {A R K : Type 0} (key : R → K) (cmp : K → K → Order) (make : A → R) (capacity count few n : ℕ) (items : List A) (start : List R) where
  abbrev puts : List A → List R → List R
  puts l m = acts key cmp (map (λ (a : A). put (make a)) l) m

  pub put-start : length items ≡ few → n ≡ min count few → length start ≤ capacity → Putting key cmp make capacity count few n items start start 0
  put-start l e h = record { len = l; counts = e; within = zero-le; fits = h; all = ap (λ (r : List A). puts r start) (all-rows count few n items l e) }

  module _ {i : ℕ} {now : List R} (s : Putting key cmp make capacity count few n items start now i) where
    passed : (d : A) → i < n → puts (drop (i + 1) (take n items)) (insert key cmp (make (get_or items i d)) now) ≡ puts (take count items) start
    passed d h = ap (λ (r : List A). puts r now) (sym (next_row count few n items s.len s.counts i d h)) ∙ s.all

    pub put_next : (d : A) (next : List R) → i < n → next ≡ insert key cmp (make (get_or items i d)) now → leb (length (insert key cmp (make (get_or items i d)) now)) capacity ≡ true → Putting key cmp make capacity count few n items start next (i + 1)
    put_next d next h e k =
        let g : length next ≤ capacity = rw e (leb-true _ _ k) in
        record {
          len = s.len;
          counts = s.counts;
          within = omega arith;
          fits = g;
          all = ap (λ (m : List R). puts (drop (i + 1) (take n items)) m) e ∙ passed d h;
        }

    pub put-stop : (d : A) (given : List R) → i < n → leb (length (insert key cmp (make (get_or items i d)) now)) capacity ≡ false → Offered capacity (puts (take count items) start) given false
    put-stop d given h e =
        let rest : List A = drop (i + 1) (take n items) in
        let f : leb (length (puts (take count items) start)) capacity ≡ false =
        rw (← passed d h) (no_room key cmp capacity (map (λ (a : A). put (make a)) rest) (insert key cmp (make (get_or items i d)) now) (puts-only K make rest) e)
        in
        record { had = sym f; rows = λ z. absurd (false≢true z) }

    pub put-end : n ≤ i → Offered capacity (puts (take count items) start) now true
    put-end h =
        let e : drop i (take n items) ≡ [] = no_row count few n items s.len s.counts i h in
        let f : now ≡ puts (take count items) start = rw e at s.all in
        record { had = rw (← f) (sym (le-leb (length now) capacity s.fits)); rows = λ _. f }
