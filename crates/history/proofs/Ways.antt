-- What programs do that begin with these looks, on any tables and fresh numbers. No code stands here.
use mathlib.Core.Path.{◌≡◌, refl, sym, ◌∙◌, ap}
use mathlib.Core.Bool.{Bool, true, false}
use mathlib.Core.List.{List, []}
use Rattle.std.specs.Prelude.{Option, None as none, Some as some, Ok, Err}
use Prim.Native.Nat.{ℕ}
use Rattle.types.specs.declared.Fresh.{Fresh}
use Rattle.types.specs.declared.WindowNumber.{WindowNumber}
use Rattle.types.specs.declared.refusals.Missing.TheVariants.{NoWindow, NoDocument}
use Rattle.types.specs.declared.refusals.Refusal.TheVariants.{Lacking, Stopped, NotFresh}
use Rattle.types.specs.declared.rows.Document.{Document}
use Rattle.tables.specs.Tables.{Table, documents, Tables}
use Rattle.tables.specs.Labels.{Label}
use Rattle.wim.specs.Walks.{documents_of, active_among}
use Rattle.wim.specs.Program.{Program, ask, observed, reached, active, needs, Outcome, refused, made, run, ◌>>=◌}
use Rattle.wim.specs.History.{neighbour, moved, nav_back, nav_forward}
use Rattle.wim.specs.Step.{fresh_labels}
use Rattle.browser.specs.View.{view}
use Rattle.stepping.specs.Brings.{Brings}
use Rattle.stepping.specs.Gives.{Performed, concluded}
use Rattle.stepping.specs.Holds.{Carries}
use Rattle.stepping.specs.Performs.{Performs}
use Rattle.stepping.specs.Wanted.{Unwanted}
use Rattle.stepping.proofs.Carry.{then_roomy}
use Rattle.stepping.proofs.Ways.{refuses, unfresh, silently, performs_as}
use Rattle.sending.proofs.Cancelling.{bare_cancels_nothing}
use Rattle.history.specs.declared.Towards.{Towards}
use Rattle.history.specs.declared.Towards.TheVariants.{Before, After}
use Rattle.history.specs.Display.{Display, display, display_at}
use Rattle.history.specs.Directions.{nav, near, places, way, turn, turned, going}

-- A PROGRAM THAT BEGINS WITH THE LOOK AT A REACHED WINDOW. `displayed w k` of the definitions is `looking w (λ top. k)`, and RUNSCRIPT begins so too.
abbrev pub looking : WindowNumber → (WindowNumber → Document → Program) → Program
looking w k = do
  found ← ask (reached w)
  top ← needs NoWindow found
  current ← ask (active w)
  needs NoDocument current (k top)

-- what it does then
abbrev pub goes_further : (WindowNumber → Document → Program) → Tables → List Label → Display → Outcome
goes_further k b f (Err m) = refused (Lacking m)
goes_further k b f (Ok x) = run (k x.0 x.1) b f

module _ (w : WindowNumber) (k : WindowNumber → Document → Program) (b : Tables) (f : List Label) where
  ran_document : (top : WindowNumber) (d : Option Document) → run (needs NoDocument d (k top)) b f ≡ goes_further k b f (display (some top) d)
  unfolding run
  ran_document top none = refl
  ran_document top (some d) = refl

  ran_window : (top : Option WindowNumber) → run (needs NoWindow top (λ t. ask (active w) (λ d. needs NoDocument d (k t)))) b f ≡ goes_further k b f (display top (observed (active w) b))
  unfolding run
  ran_window none = refl
  ran_window (some top) = ran_document top (observed (active w) b)

  ran_look : run (looking w k) b f ≡ goes_further k b f (display_at w b)
  unfolding run
  ran_look = ran_window (observed (reached w) b)

  pub display-goes : (s : Display) → s ≡ display_at w b → run (looking w k) b f ≡ goes_further k b f s
  display-goes s e = ran_look ∙ ap (goes_further k b f) (sym e)

-- NAVBACK AND NAVFORWARD, once the history has been looked at.
module _ (storing : Program → Program) (w : WindowNumber) where
  moves : (ds : List Document) (o : Option Document) → moved w storing ds o ≡ going storing w (places (active_among ds) o)
  unfolding moved
  moves ds none = refl
  moves ds (some e) = refl

  pub goes : (q : Towards) (b : Tables) (f : List Label) → run (nav q w storing) b f ≡ run (going storing w (way q w (b documents))) b f
  unfolding run observed nav_back nav_forward
  goes Before b f = let ds = documents_of (b documents) w in ap (λ (p : Program). run p b f) (moves ds (neighbour (near Before) ds (active_among ds)))
  goes After b f = let ds = documents_of (b documents) w in ap (λ (p : Program). run p b f) (moves ds (neighbour (near After) ds (active_among ds)))

-- 3 to 6: CANCELNAV with a bare number takes nothing
pub ran : (w : WindowNumber) (from to : ℕ) (b : Tables) → run (turn w from to) b [] ≡ made (turned w from to b) none
unfolding run
ran w from to b = ap (λ (c : Tables). made c none) (bare_cancels_nothing w (turned w from to b))

-- a program that comes to NAVBACK or NAVFORWARD, on any tables
leads : (p : Program) (storing : Program → Program) (w : WindowNumber) (q : Towards) (b : Tables) (f : List Label) {l : Option (ℕ × ℕ)} → run p b f ≡ run (nav q w storing) b f → l ≡ way q w (b documents) → run p b f ≡ run (going storing w l) b f
leads p storing w q b f s e = s ∙ goes storing w q b f ∙ ap (λ (o : Option (ℕ × ℕ)). run (going storing w o) b f) (sym e)

-- A STEP that comes to NAVBACK or NAVFORWARD, and stores something before the history is turned. 2: "if possible; otherwise stop"
module _ (p : Program) (storing : Program → Program) (w : WindowNumber) (q : Towards) (f : Fresh) {m : List ℕ} {r : Performed} (s : run p (view m) (fresh_labels f) ≡ run (nav q w storing) (view m) (fresh_labels f)) where
  pub nowhere : none ≡ way q w (view m documents) → r ≡ Err Stopped → Performs p f m m r
  unfolding run
  nowhere e a = refuses p f (leads p storing w q (view m) (fresh_labels f) s e) a

  module _ (from to : ℕ) (e : some (from, to) ≡ way q w (view m documents)) {b : Bool} (u : Unwanted f b) where
    turning : {n : List ℕ} → Performs (storing (turn w from to)) f m n r → Performs p f m n r
    turning = performs_as p (storing (turn w from to)) (leads p storing w q (view m) (fresh_labels f) s e)

    pub turns_stale : Brings [] (storing (turn w from to)) → b ≡ false → r ≡ Err NotFresh → Performs p f m m r
    turns_stale k z a = turning (unfresh (storing (turn w from to)) f u k z a)

    pub turns_over : {n o : List ℕ} {g : Tables → Tables} {puts drops : List Table} {room : Bool} → run (storing (turn w from to)) (view m) [] ≡ run (turn w from to) (g (view m)) [] → b ≡ true
        → Carries g puts drops m n room → Carries (turned w from to) [] [] n o true → r ≡ concluded room none → Performs p f m o r
    turns_over {g = g} k z c d a = turning (silently (storing (turn w from to)) f u (k ∙ ran w from to (g (view m))) z (then_roomy refl c d) a)
