-- A program is orderly if, wherever it is run on the way through a step, it ends with every number brought once: the rules by which that is seen,
-- one for each command of a program.
use mathlib.Core.Path.{◌≡◌, refl, sym, subst}
use mathlib.Core.Logic.{inl, inr}
use mathlib.Core.Bool.{Bool, true, false, cond}
use mathlib.Core.List.{List, [], ◌∷◌}
use Rattle.std.specs.Prelude.{Option, None as none, Some as some}
use Prim.Native.Nat.{ℕ}
use lib.Dec.{eqb}
use Rattle.sorted.specs.Table.{In, put}
use Rattle.sorted.proofs.Never.{never}
use Rattle.tables.specs.Tables.{Table, documents, Row, Tables, Edits, apply}
use Rattle.tables.specs.Labels.{Kind, code, Label}
use Rattle.shapes.specs.Events.{Message}
use Rattle.wim.specs.Nouns.{Document, Refusal, NotFresh, Missing}
use Rattle.wim.specs.Program.{Query, Observed, observed, Program, ask, edit, revise, bring, refuse, done, needs, stop_if, refuse_unless, refused, made, run}
use Rattle.invariant.proofs.Numbered.Fresh.{Absent, of_kind}
use Rattle.invariant.proofs.Numbered.Once.{Once}
use Rattle.invariant.proofs.Numbered.Kept.{Was, Kept, Stays, cuts, cuts_none, kept-edit, kept-revise, once_kept}

-- run on b with fresh numbers that stood nowhere in a
abbrev pub Ends : Tables → Program → Tables → Type 0
Ends a p b = (f : List Label) (c : Tables) (m : Option Message) → ((l : Label) → In l f → Absent l a) → run p b f ≡ made c m → Once c

-- on the way through a step that began with a
abbrev pub Orderly : Tables → Program → Type 0
Orderly a p = (b : Tables) → Kept a b → Ends a p b

module _ {a : Tables} where
  -- ENDS.
  pub ends-done : (m : Option Message) (b : Tables) → Once b → Ends a (done m) b
  unfolding run
  ends-done m b O [] c n h e = let z : b ≡ c = cc in subst Once z O
  ends-done m b O (l ∷ f) c n h e = never (cc)

  pub ends-bring : (κ : Kind) (k : ℕ → Program) (b : Tables) → ((n : ℕ) → Absent (κ, n) a → Ends a (k n) b) → Ends a (bring κ k) b
  unfolding run
  ends-bring κ k b g [] c m h e = never (cc)
  ends-bring κ k b g (l ∷ f) c m h e = go (eqb (code κ) (code l.0)) refl e
    where
      go : (t : Bool) → eqb (code κ) (code l.0) ≡ t → cond t (run (k l.1) b f) (refused NotFresh) ≡ made c m → Once c
      go true q x = g l.1 (subst (λ (v : Label). Absent v a) (sym (of_kind κ l q)) (h l (inl refl))) f c m (λ v i. h v (inr i)) x
      go false q x = never (cc)

  pub ends-edit : (t : Table) (es : Edits t) (p : Program) (b : Tables) → Ends a p (apply t es b) → Ends a (edit t es p) b
  unfolding run
  ends-edit t es p b g = g

  -- COMMANDS.
  pub orderly_done : (m : Option Message) → Orderly a (done m)
  orderly_done m b K = ends-done m b (once_kept K)

  pub orderly_refuse : (r : Refusal) → Orderly a (refuse r)
  unfolding run
  orderly_refuse r b K f c m h e = never (cc)

  pub orderly_ask : (q : Query) (k : Observed q → Program) → ((x : Observed q) → Orderly a (k x)) → Orderly a (ask q k)
  unfolding run
  orderly_ask q k g b K = g (observed q b) b K

  pub orderly_bring : (κ : Kind) (k : ℕ → Program) → ((n : ℕ) → Absent (κ, n) a → Orderly a (k n)) → Orderly a (bring κ k)
  orderly_bring κ k g b K = ends-bring κ k b (λ n h. g n h b K)

  pub orderly_edit : (t : Table) (es : Edits t) (p : Program) → ((r : Row t) → In (put r) es → Was a t r) → Orderly a p → Orderly a (edit t es p)
  orderly_edit t es p h g b K = ends-edit t es p b (g (apply t es b) (kept-edit t es h K))

  pub orderly_cut : (t : Table) (es : Edits t) (p : Program) → cuts es ≡ true → Orderly a p → Orderly a (edit t es p)
  orderly_cut t es p e = orderly_edit t es p (λ r i. absurd (cuts_none es e r i))

  pub orderly_revise : (f : Document → Document) (p : Program) → Stays f → Orderly a p → Orderly a (revise documents f p)
  unfolding run
  orderly_revise f p h g b K = g _ (kept-revise f h K)

  -- WHERE A PROGRAM MAY STOP.
  pub orderly_needs : {A : Type 0} (m : Missing) (o : Option A) (k : A → Program) → ((x : A) → Orderly a (k x)) → Orderly a (needs m o k)
  orderly_needs m none k g = orderly_refuse _
  orderly_needs m (some x) k g = g x

  pub orderly_stop : (t : Bool) (p : Program) → Orderly a p → Orderly a (stop_if t p)
  orderly_stop true p g = orderly_refuse _
  orderly_stop false p g = g

  pub orderly_unless : (t : Bool) (m : Missing) (p : Program) → Orderly a p → Orderly a (refuse_unless t m p)
  orderly_unless true m p g = g
  orderly_unless false m p g = orderly_refuse _
