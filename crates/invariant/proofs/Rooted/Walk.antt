-- The walk along a program: what holds of the tables at its end, whatever fresh numbers it is given.
use mathlib.Core.Path.{◌≡◌, refl, sym, ap, subst, subst₂}
use mathlib.Core.Logic.{inl, inr}
use mathlib.Core.Bool.{Bool, true, false, cond}
use mathlib.Core.List.{List, [], ◌∷◌, map}
use Rattle.std.specs.Prelude.{Option, None as none, Some as some}
use Prim.Native.Nat.{ℕ}
use lib.Dec.{eqb}
use Rattle.sorted.specs.Table.{In}
use Rattle.sorted.proofs.Never.{never}
use Rattle.tables.specs.Tables.{Tables, update, apply}
use Rattle.tables.specs.Labels.{code, Label}
use Rattle.shapes.specs.Events.{Message}
use Rattle.wim.specs.Nouns.{Missing, NotFresh}
use Rattle.wim.specs.Program.{observed, Program, ask, edit, revise, bring, refuse, done, needs, stop_if, refuse_unless, Outcome, refused, made, run}
use Rattle.invariant.proofs.Numbered.Fresh.{of_kind}

-- `P` holds of the tables and of the message at the end, where fresh numbers are brought of which `F` is known
abbrev pub Ends : (Tables → Option Message → Type 0) → (Label → Type 0) → Program → Tables → Type 0
Ends P F (ask q k) b = Ends P F (k (observed q b)) b
Ends P F (edit t es p) b = Ends P F p (apply t es b)
Ends P F (revise t g p) b = Ends P F p (update t (map g) b)
Ends P F (bring κ k) b = (n : ℕ) → F (κ, n) → Ends P F (k n) b
Ends P F (refuse r) b = Unit {0}
Ends P F (done m) b = P b m

-- A RUN OF SUCH A PROGRAM ends as it says.
pub ends-run : (P : Tables → Option Message → Type 0) (F : Label → Type 0) (p : Program) (b : Tables) (f : List Label) → Ends P F p b → ((l : Label) → In l f → F l) → (c : Tables) (m : Option Message) → run p b f ≡ made c m → P c m
unfolding run
ends-run P F (ask q k) b f h x c m e = ends-run P F (k (observed q b)) b f h x c m e
ends-run P F (edit t es p) b f h x c m e = ends-run P F p (apply t es b) f h x c m e
ends-run P F (revise t g p) b f h x c m e = ends-run P F p (update t (map g) b) f h x c m e
ends-run P F (bring κ k) b [] h x c m e = never (cc)
ends-run P F (bring κ k) b (l ∷ f) h x c m e = go (eqb (code κ) (code l.0)) refl e (λ y. ends-run P F (k l.1) b f y (λ j i. x j (inr i)) c m)
  where
    go : (t : Bool) → eqb (code κ) (code l.0) ≡ t → cond t (run (k l.1) b f) (refused NotFresh) ≡ made c m → (Ends P F (k l.1) b → run (k l.1) b f ≡ made c m → P c m) → P c m
    go true g e ih = ih (h l.1 (subst F (sym (of_kind κ l g)) (x l (inl refl)))) e
    go false g e ih = never (cc)
ends-run P F (refuse r) b f h x c m e = never (cc)
ends-run P F (done o) b [] h x c m e = subst₂ P (ap tables e) (ap message e) h
  where
    tables : Outcome → Tables
    tables (refused r) = b
    tables (made d o) = d

    message : Outcome → Option Message
    message (refused r) = o
    message (made d o) = o
ends-run P F (done o) b (l ∷ f) h x c m e = never (cc)

-- of the tables alone
abbrev pub Keeps : (Tables → Type 0) → (Label → Type 0) → Program → Tables → Type 0
Keeps P F p b = Ends (λ c m. P c) F p b

module _ (P : Tables → Type 0) (F : Label → Type 0) where
  pub kept_run : (p : Program) (b : Tables) (f : List Label) → Keeps P F p b → ((l : Label) → In l f → F l) → (c : Tables) (m : Option Message) → run p b f ≡ made c m → P c
  kept_run p b f h x c m e = ends-run (λ c m. P c) F p b f h x c m e

  -- WHERE A PROGRAM MAY REFUSE, what goes on must keep.
  pub kept-needs : {A : Type 0} (m : Missing) (o : Option A) (k : A → Program) (b : Tables) → ((x : A) → o ≡ some x → Keeps P F (k x) b) → Keeps P F (needs m o k) b
  kept-needs m none k b h = tt
  kept-needs m (some x) k b h = h x refl

  pub kept-unless : (t : Bool) (m : Missing) (p : Program) (b : Tables) → Keeps P F p b → Keeps P F (refuse_unless t m p) b
  kept-unless true m p b h = h
  kept-unless false m p b h = tt

  pub kept-stop : (t : Bool) (p : Program) (b : Tables) → Keeps P F p b → Keeps P F (stop_if t p) b
  kept-stop true p b h = tt
  kept-stop false p b h = h
