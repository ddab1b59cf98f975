-- What one table's code ensures carries the memory on; two that carry it on do so one after the other; and what the last memory says of refusal 6.
use mathlib.Core.Path.{◌≡◌, refl, sym, ◌∙◌, ap, subst}
use mathlib.Core.Logic.{inl, inr}
use mathlib.Core.Bool.{Bool, true, false, not, ◌&&◌, true≢false, false≢true}
use mathlib.Core.List.{List, [], ◌∷◌, ◌++◌, map}
use Prim.Native.Nat.{ℕ, ◌≤◌}
use native.Mathlib.Nat.{le_refl}
use native.Mathlib.Omega.{arith}
use borrow.Author.Tests.{leb-true, leb-false, lt-leb}
use lib.Dec.{leb, eqb}
use lib.ListN.{length, length-map}
use Rattle.std.proofs.Common.{append_assoc}
use Rattle.std.proofs.Math.Bool.{and_assoc, and_comm, and-true}
use Rattle.sorted.specs.Table.{In, put, sift, keep, insert}
use Rattle.sorted.proofs.Tests.{and_left, and_right, and_both}
use Rattle.sorted.proofs.Edits.{puts_only, length_puts}
use Rattle.sorted.proofs.Member.{length_keep}
use Rattle.tables.specs.Tables.{Table, Row, key_of, cmp, cap, index, Tables, Edits, update, changed, apply}
use Rattle.tables.proofs.Update.{update-one, updated, spared, every_true, every_false}
use Rattle.memory.specs.Rows.{Kept, Put, Revised, Cleared}
use Rattle.wim.specs.Step.{fit, fits}
use Rattle.browser.specs.View.{laid, view}
use Rattle.browser.proofs.Changes.{capacities, view-fits, view-kept, view_revised, view_cleared, view-put}
use Rattle.stepping.specs.Holds.{Holds, apart_from, apart, Carries}

-- LISTS OF TABLES.
differs : (t u : Table) (us : List Table) → apart_from t us ≡ true → In u us → eqb (index t) (index u) ≡ false
differs t u [] e x'' = elim x'' [ ]
differs t u (v ∷ us) e (inl p) = go (eqb (index t) (index v)) refl (and_left (not (eqb (index t) (index v))) (apart_from t us) e)
  where
    go : (b : Bool) → eqb (index t) (index v) ≡ b → not b ≡ true → eqb (index t) (index u) ≡ false
    go true q n = absurd (false≢true n)
    go false q n = ap (λ (x : Table). eqb (index t) (index x)) p ∙ q
differs t u (v ∷ us) e (inr i) = differs t u us (and_right (not (eqb (index t) (index v))) (apart_from t us) e) i

apart_from-append : (t : Table) (p ts : List Table) → apart_from t p ≡ true → apart_from t ts ≡ true → apart_from t (p ++ ts) ≡ true
apart_from-append t [] ts e f = f
apart_from-append t (u ∷ p) ts e f =
    let other = not (eqb (index t) (index u)) in
    and_both other (apart_from t (p ++ ts)) (and_left other (apart_from t p) e) (apart_from-append t p ts (and_right other (apart_from t p) e) f)

apart_append : (m p ts : List Table) → apart m p ≡ true → apart m ts ≡ true → apart m (p ++ ts) ≡ true
apart_append [] p ts e f = refl
apart_append (t ∷ m) p ts e f =
    and_both (apart_from t (p ++ ts)) (apart m (p ++ ts))
    (apart_from-append t p ts (and_left (apart_from t p) (apart m p) e) (and_left (apart_from t ts) (apart m ts) f))
    (apart_append m p ts (and_right (apart_from t p) (apart m p) e) (and_right (apart_from t ts) (apart m ts) f))

apart-split : (n m ts : List Table) → apart (n ++ m) ts ≡ true → (apart n ts ≡ true) × (apart m ts ≡ true)
apart-split [] m ts e = (refl, e)
apart-split (t ∷ n) m ts e =
    let z = apart-split n m ts (and_right (apart_from t ts) (apart (n ++ m) ts) e) in
    (and_both (apart_from t ts) (apart n ts) (and_left (apart_from t ts) (apart (n ++ m) ts) e) z.0, z.1)

-- ONE AFTER THE OTHER.
-- what changes nothing
pub carries_same : {g : Tables → Tables} {ds : List Table} → ((w : Tables) → g w ≡ w) → (m : List ℕ) → Carries g [] ds m m true
carries_same e m = record { carry = λ ts w x a h. subst (λ (b : Tables). Holds ts b m x) (sym (e w)) h }

pub carries-none : (m : List ℕ) → Carries (λ w. w) [] [] m m true
carries-none m = carries_same (λ w. refl) m

pub carries-then : {f g : Tables → Tables} {p q n m : List Table} {k l o : List ℕ} {a b : Bool} → apart m p ≡ true → Carries f p n k l a → Carries g q m l o b → Carries (λ w. g (f w)) (q ++ p) (n ++ m) k o (a && b)
carries-then {f} {g} {p} {q} {n} {m} {k} {l} {o} {a} {b} z x y = record { carry = go }
  where
    go : (ts : List Table) (w : Tables) (v : Bool) → apart (n ++ m) ts ≡ true → Holds ts w k v → Holds ((q ++ p) ++ ts) (g (f w)) o ((a && b) && v)
    go ts w v s h =
        let i = apart-split n m ts s in
        subst (λ (c : Bool). Holds ((q ++ p) ++ ts) (g (f w)) o c) (sym (and_assoc b a v) ∙ ap (◌&& v) (and_comm b a))
        (subst (λ (us : List Table). Holds us (g (f w)) o (b && (a && v))) (sym (append_assoc q p ts)) (y.carry (p ++ ts) (f w) (a && v) (apart_append m p ts z i.1) (x.carry ts w v i.0 h)))

-- the room said in another way
pub room_as : {f : Tables → Tables} {p n : List Table} {k l : List ℕ} {a b : Bool} → a ≡ b → Carries f p n k l a → Carries f p n k l b
room_as {f} {p} {n} {k} {l} e = subst (λ (x : Bool). Carries f p n k l x) e

-- a change, and behind it one that wants no room
pub then_roomy : {f g : Tables → Tables} {p q n m : List Table} {k l o : List ℕ} {a : Bool} → apart m p ≡ true → Carries f p n k l a → Carries g q m l o true → Carries (λ w. g (f w)) (q ++ p) (n ++ m) k o a
then_roomy {a = a} z x y = room_as (and-true a) (carries-then z x y)

-- A change may be said to touch more tables than it does.
module _ {f : Tables → Tables} {m n : List ℕ} {room : Bool} (t : Table) where
  -- it puts nothing into t
  pub and-puts : {ds : List Table} → Carries f [] ds m n room → Carries f (t ∷ []) ds m n room
  and-puts c = record { carry = λ ts w x a h. let z = c.carry ts w x a h in record { rows = z.rows; long = λ e. let l = z.long e in (l.0, inr l.1, l.2) } }

  -- it takes nothing from t
  pub and_drops : {ps : List Table} → Carries f ps [] m n room → Carries f ps (t ∷ []) m n room
  and_drops c = record { carry = λ ts w x a h. c.carry ts w x refl h }

-- LENGTHS. Puts make no table shorter, a change of one table leaves the lengths of the others, revised rows are as many.
long-put : (t : Table) (es : Edits t) (w : Tables) → puts_only es ≡ true → (u : Table) → length (w u) ≤ length (apply t es w u)
long-put t es w o = update-one (λ u l. length (w u) ≤ length l) t (changed t es) w (λ u. le_refl _) (length_puts (key_of t) (cmp t) es (w t) o)

long-revise : (t : Table) (g : Row t → Row t) (w : Tables) (u : Table) → length (w u) ≤ length (update t (map g) w u)
long-revise t g w = update-one (λ u l. length (w u) ≤ length l) t (map g) w (λ u. le_refl _) (let e = length-map (w t) g in omega arith)

still_long : (a b c : ℕ) → leb a c ≡ false → a ≤ b → leb b c ≡ false
still_long a b c e h = let z = leb-false a c e in lt-leb b c (omega arith)

-- of a memory's table no more is kept than the table has room for
pub kept-few : (t : Table) (p : Row t → Bool) (m : List ℕ) → length (keep p (view m t)) ≤ cap t
kept-few t p m = let k = length_keep p (view m t) in let l = leb-true (length (view m t)) (cap t) (view-fits m t) in omega arith

-- A PUT into one table: `done` says whether there was room.
pub puts-carry : (t : Table) (es : Edits t) (m n : List ℕ) (done : Bool) → puts_only es ≡ true
    → done ≡ leb (length (changed t es (view m t))) (cap t)
    → (done ≡ true → view n ≡ apply t es (view m))
    → Carries (apply t es) (t ∷ []) [] m n done
puts-carry t es m n done o had rows = record { carry = λ ts w x a h. go ts w h done refl x refl }
  where
    go : (ts : List Table) (w : Tables) {x : Bool} → Holds ts w m x → (d : Bool) → done ≡ d → (y : Bool) → x ≡ y → Holds (t ∷ ts) (apply t es w) n (done && x)
    go ts w {x} h true q true p = record { rows = λ z. rows q ∙ ap (apply t es) (h.rows p); long = λ z. let v : (done && x) ≡ true = rw (q, p) in absurd (true≢false (sym v ∙ z)) }
    go ts w {x} h false q true p = record {
      rows = λ z. let v : (done && x) ≡ false = rw q in absurd (true≢false (sym z ∙ v));
      long = λ z. (t, inl refl, ap (λ (l : List (Row t)). leb (length l) (cap t)) (updated t (changed t es) w) ∙ ap (λ (b : Tables). leb (length (changed t es (b t))) (cap t)) (sym (h.rows p)) ∙ sym had ∙ q);
    }
    go ts w {x} h d q false p = record {
      rows = λ z. let v : x ≡ true = and_right done x z in absurd (true≢false (sym v ∙ p));
      long = λ z. let l = h.long p in (l.0, inr l.1, still_long _ _ _ l.2 (long-put t es w o l.0));
    }

-- no edits
pub unedited : (t : Table) (w : Tables) → apply t [] w ≡ w
unedited t w = λ k u. update-one (λ v l. l ≡ w v) t (changed t []) w (λ v. refl) refl u k

-- ROWS TAKEN from one table, or rows of one table REVISED: there is always room.
pub drop-carries : (t : Table) (g : List (Row t) → List (Row t)) (m n : List ℕ) → view n ≡ update t g (view m) → Carries (update t g) [] (t ∷ []) m n true
drop-carries t g m n rows = record { carry = λ ts w x a h. record { rows = λ z. rows ∙ ap (update t g) (h.rows z); long = longer ts w x a h } }
  where
    longer : (ts : List Table) (w : Tables) (x : Bool) → apart (t ∷ []) ts ≡ true → Holds ts w m x → x ≡ false → (u : Table) × In u ts × (leb (length (update t g w u)) (cap u) ≡ false)
    longer ts w x a h z =
        let l = h.long z in
        (l.0, l.1, ap (λ (r : List (Row l.0)). leb (length r) (cap l.0)) (spared t l.0 g w (differs t l.0 ts (and_left (apart_from t ts) true a) l.1)) ∙ l.2)

pub revise-carries : (t : Table) (g : Row t → Row t) (m n : List ℕ) → view n ≡ update t (map g) (view m) → Carries (update t (map g)) [] [] m n true
revise-carries t g m n rows = record { carry = λ ts w x a h. record { rows = λ z. rows ∙ ap (update t (map g)) (h.rows z); long = λ z. let l = h.long z in (l.0, l.1, still_long _ _ _ l.2 (long-revise t g w l.0)) } }

-- FROM A TABLE'S OWN CONTRACT.
module _ (t : Table) {m n : List ℕ} where
  pub put-carries : {r : Row t} {done : Bool} → Put (laid t) (key_of t) (cmp t) r m n done → Carries (apply t (put r ∷ [])) (t ∷ []) [] m n done
  put-carries {r} {done} p = puts-carry t (put r ∷ []) m n done refl (p.rows.had ∙ ap (leb (length (insert (key_of t) (cmp t) r (view m t)))) (capacities t)) (view-put t p)

  pub keep-carries : {p : Row t → Bool} → Kept (laid t) p m n → Carries (apply t (sift p ∷ [])) [] (t ∷ []) m n true
  keep-carries {p} k = drop-carries t (keep p) m n (view-kept t k)

  pub revised_carries : {g : Row t → Row t} → Revised (laid t) g m n → Carries (update t (map g)) [] [] m n true
  revised_carries {g} k = revise-carries t g m n (view_revised t k)

  pub cleared_carries : Cleared (laid t) m n → Carries (apply t (sift (λ r. false) ∷ [])) [] (t ∷ []) m n true
  cleared_carries k = drop-carries t (keep (λ r. false)) m n (view_cleared t k)

-- A ROW THAT DEPENDS ON THE TABLES. Where there was room before, the memory says them; where there was none, a table is too long, whatever is put.
module _ (t : Table) (row : Tables → Row t) where
  pub dependent_carries : {m n : List ℕ} {done : Bool} → Put (laid t) (key_of t) (cmp t) (row (view m)) m n done → Carries (λ w. apply t (put (row w) ∷ []) w) (t ∷ []) [] m n done
  dependent_carries {m} {n} {done} p = record { carry = λ ts w x a h. go ts w h x refl }
    where
      go : (ts : List Table) (w : Tables) {x : Bool} → Holds ts w m x → (y : Bool) → x ≡ y → Holds (t ∷ ts) (apply t (put (row w) ∷ []) w) n (done && x)
      go ts w {x} h true q = subst (λ (v : Tables). Holds (t ∷ ts) (apply t (put (row v) ∷ []) w) n (done && x)) (h.rows q) ((put-carries t p).carry ts w x refl h)
      go ts w {x} h false q = record {
        rows = λ z. absurd (true≢false (sym (and_right done x z) ∙ q));
        long = λ z. let l = h.long q in (l.0, inr l.1, still_long _ _ _ l.2 (long-put t (put (row w) ∷ []) w refl l.0));
      }

-- FROM THE START OF A STEP.
apart_none : (ts : List Table) → apart ts [] ≡ true
apart_none [] = refl
apart_none (t ∷ ts) = apart_none ts

pub held : {f : Tables → Tables} {p n : List Table} {k l : List ℕ} {a : Bool} → Carries f p n k l a → Holds (p ++ []) (f (view k)) l a
held {f} {p} {n} {k} {l} {a} x = subst (λ (c : Bool). Holds (p ++ []) (f (view k)) l c) (and-true a) (x.carry [] (view k) true (apart_none n) (record { rows = λ _. refl; long = λ z. absurd (true≢false z) }))

-- THE END: whether the tables fit is what was said of room.
pub room_fits : {ts : List Table} {w : Tables} {m : List ℕ} {room : Bool} → Holds ts w m room → fits w ≡ room
unfolding fits
room_fits {ts} {w} {m} {room} h = go room refl
  where
    go : (x : Bool) → room ≡ x → fits w ≡ room
    go true p = ap fits (sym (h.rows p)) ∙ every_true (fit (view m)) (view-fits m) ∙ sym p
    go false p = let l = h.long p in every_false (fit w) l.0 l.2 ∙ sym p
