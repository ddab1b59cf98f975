-- A program that puts at most four rows into a table, whatever it is told: it is never refused with 6 where every table has four free rows.
use mathlib.Core.Path.{◌≡◌, refl, sym, ap}
use mathlib.Core.Bool.{Bool, true, false, cond, true≢false}
use mathlib.Core.List.{List, [], ◌∷◌, map}
use Rattle.std.specs.Prelude.{Option}
use Prim.Native.Nat.{ℕ, ◌+◌, ◌≤◌}
use native.Mathlib.Omega.{arith}
use borrow.Author.Tests.{eq-eqb, le-leb, leb-true}
use lib.Dec.{eqb, leb}
use lib.ListN.{length, length-map}
use Rattle.sorted.proofs.Never.{never}
use Rattle.sorted.proofs.Edits.{adds, length_acts}
use Rattle.tables.specs.Tables.{Table, Row, key_of, cmp, cap, index, Tables, Edits, update, changed, apply}
use Rattle.tables.specs.Labels.{Label, code, every}
use Rattle.tables.proofs.Update.{update-one, every_true, every_one}
use Rattle.shapes.specs.Events.{Message}
use Rattle.wim.specs.Nouns.{Refusal, BadText, BadShape, Lacking, Stopped, NotFresh, Full, NoRoom, Closed}
use Rattle.wim.specs.Program.{Observed, observed, Program, ask, edit, revise, bring, refuse, done, Outcome, refused, made, run}
use Rattle.wim.specs.Step.{all_fresh, fit, fits, admit}

abbrev pub is_full : Refusal → Bool
is_full BadText = false
is_full BadShape = false
is_full (Lacking m) = false
is_full Stopped = false
is_full NotFresh = false
is_full Full = true
is_full NoRoom = false
is_full Closed = false

-- so many rows of one table
abbrev pub on : Table → ℕ → Table → ℕ
on u m t = cond (eqb (index u) (index t)) m 0

-- n: rows put so far; m: by this edit at most
abbrev pub Adds : (Table → ℕ) → Program → Type 0
Adds n (ask q k) = (x : Observed q) → Adds n (k x)
Adds n (edit t es p) = (m : ℕ) × (adds es ≤ m) × Adds (λ u. n u + on t m u) p
Adds n (revise t g p) = Adds n p
Adds n (bring κ k) = (x : ℕ) → Adds n (k x)
Adds n (refuse r) = (is_full r ≡ false)
Adds n (done m) = (t : Table) → n t ≤ 4

-- a closed budget is checked by computing
pub four : (n : Table → ℕ) → every (λ t. leb (n t) 4) ≡ true → (t : Table) → n t ≤ 4
four n e t = leb-true (n t) 4 (every_one (λ t. leb (n t) 4) e t)

-- WHAT SUCH A PROGRAM COMES TO.
data Short (b : Tables) (n : Table → ℕ) : Outcome → Type 0 where
  turned_away : (r : Refusal) → is_full r ≡ false → Short b n (refused r)
  grown : (c : Tables) (m : Option Message) → ((t : Table) → length (c t) + n t ≤ length (b t) + 4) → Short b n (made c m)

pub longer : (t : Table) (es : Edits t) (b : Tables) (m : ℕ) → adds es ≤ m → (u : Table) → length (apply t es b u) ≤ on t m u + length (b u)
longer t es b m h = update-one (λ u l. length l ≤ on t m u + length (b u)) t (changed t es) b (λ u. omega arith)
    (let v = length_acts (key_of t) (cmp t) es (b t) in let e : on t m t ≡ m = ap (λ (c : Bool). cond c m 0) (eq-eqb (index t) (index t) refl) in omega arith)

pub as_long : (t : Table) (g : Row t → Row t) (b : Tables) (u : Table) → length (update t (map g) b u) ≡ length (b u)
as_long t g b = update-one (λ u l. length l ≡ length (b u)) t (map g) b (λ u. refl) (length-map (b t) g)

from : (a b : Tables) (k n : Table → ℕ) {o : Outcome} → ((t : Table) → length (a t) + n t ≤ length (b t) + k t) → Short a k o → Short b n o
from a b k n h (turned_away r e) = turned_away r e
from a b k n h (grown c m g) = grown c m (λ t. let x = h t in let y = g t in omega arith)

short : (p : Program) (n : Table → ℕ) (b : Tables) (f : List Label) → Adds n p → Short b n (run p b f)
unfolding run
short (ask q k) n b f h = short (k (observed q b)) n b f (h (observed q b))
short (edit t es p) n b f h =
    from (apply t es b) b (λ u. n u + on t h.0 u) n (λ u. let x = longer t es b h.0 h.1 u in omega arith) (short p (λ u. n u + on t h.0 u) (apply t es b) f h.2)
short (revise t g p) n b f h = from (update t (map g) b) b n n (λ u. let x = as_long t g b u in omega arith) (short p n (update t (map g) b) f h)
short (bring κ k) n b [] h = turned_away NotFresh refl
short (bring κ k) n b (l ∷ f) h = go (eqb (code κ) (code l.0)) (short (k l.1) n b f (h l.1))
  where
    go : (x : Bool) → Short b n (run (k l.1) b f) → Short b n (cond x (run (k l.1) b f) (refused NotFresh))
    go true s = s
    go false s = turned_away NotFresh refl
short (refuse r) n b f h = turned_away r h
short (done m) n b [] h = grown b m (λ t. let x = h t in omega arith)
short (done m) n b (l ∷ f) h = turned_away NotFresh refl

-- FOUR FREE ROWS in every table.
abbrev pub Roomy : Tables → Type 0
Roomy b = (t : Table) → length (b t) + 4 ≤ cap t

pub never-full : (p : Program) → Adds (λ t. 0) p → (b : Tables) → Roomy b → (f : List Label) → admit f b (run p b f) ≡ refused Full → ⊥
unfolding fits
never-full p h b r f = go (short p (λ t. 0) b f h)
  where
    judged : (c : Tables) (m : Option Message) (x y : Bool) → y ≡ true → cond x (cond y (made c m) (refused Full)) (refused NotFresh) ≡ refused Full → ⊥
    judged c m true true p e = never (cc)
    judged c m true false p e = true≢false (sym p)
    judged c m false y p e = never (cc)

    go : {o : Outcome} → Short b (λ t. 0) o → admit f b o ≡ refused Full → ⊥
    go (turned_away Full q) e = true≢false q
    go (turned_away BadText q) e = never (cc)
    go (turned_away BadShape q) e = never (cc)
    go (turned_away (Lacking m) q) e = never (cc)
    go (turned_away Stopped q) e = never (cc)
    go (turned_away NotFresh q) e = never (cc)
    go (turned_away NoRoom q) e = never (cc)
    go (turned_away Closed q) e = never (cc)
    go (grown c m g) e = judged c m (all_fresh b f) (every (fit c)) (every_true (fit c) (λ t. let x = g t in let y = r t in le-leb (length (c t)) (cap t) (omega arith))) e
