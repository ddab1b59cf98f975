-- The three ways in which a step's code ends: the program refuses (3, 4), the fresh numbers are not those (5), or they are, and 6 is left.
use mathlib.Core.Path.{◌≡◌, refl, sym, ◌∙◌, ap, subst}
use mathlib.Core.Bool.{Bool, true, false, cond, not, ◌&&◌, false≢true}
use mathlib.Core.List.{List, [], ◌∷◌}
use Rattle.std.specs.Prelude.{Option, None, Err}
use Prim.Native.Nat.{ℕ}
use lib.Dec.{eqb}
use Rattle.types.specs.declared.Fresh.{Fresh}
use Rattle.types.specs.declared.Wants.{Wants}
use Rattle.types.specs.declared.refusals.Refusal.{Refusal}
use Rattle.types.specs.declared.refusals.Refusal.TheVariants.{NotFresh, Full}
use Rattle.tables.specs.Tables.{Table, Tables}
use Rattle.tables.specs.Labels.{Label}
use Rattle.shapes.specs.Events.{Message}
use Rattle.wim.specs.Program.{Query, Observed, observed, Program, ask, Outcome, refused, made, run}
use Rattle.wim.specs.Step.{numbers, given, fresh_labels, all_fresh, fits, fitted, admit}
use Rattle.stepping.specs.Wanted.{kinds, picked, exactly, ready, wants_nothing, Unwanted}
use Rattle.stepping.specs.Brings.{Brings}
use Rattle.stepping.proofs.Exact.{unready, readied, five}
use Rattle.browser.specs.View.{view}
use Rattle.stepping.specs.Holds.{Holds, Carries}
use Rattle.stepping.specs.Gives.{Performed, Answers, concluded}
use Rattle.stepping.specs.Performs.{Performs}
use Rattle.stepping.proofs.Carry.{held, room_fits}

-- what is refused, with nothing changed
declines : (m : List ℕ) {why : Refusal} {r : Performed} → r ≡ Err why → Answers m (refused why) m r
declines m e = record { is = (e, λ _. refl) }

-- 6, or made
concludes : {ts : List Table} {w : Tables} {m n : List ℕ} {room : Bool} (x : Option Message) {r : Performed} → Holds ts w n room → r ≡ concluded room x → Answers m (fitted (made w x)) n r
concludes {ts} {w} {m} {n} {room} x {r} h e = go room refl
  where
    go : (y : Bool) → room ≡ y → Answers m (cond (fits w) (made w x) (refused Full)) n r
    go true p = let z : fits w ≡ true = room_fits h ∙ p in rw z record { is = (e ∙ ap (λ (b : Bool). concluded b x) p, h.rows p) }
    go false p = let z : fits w ≡ false = room_fits h ∙ p in rw z record { is = (e ∙ ap (λ (b : Bool). concluded b x) p, λ k. absurd (false≢true k)) }

module _ (p : Program) (f : Fresh) {m : List ℕ} {r : Performed} where
  pub refuses : {why : Refusal} → run p (view m) (fresh_labels f) ≡ refused why → r ≡ Err why → Performs p f m m r
  refuses e a = record { answers = subst (λ (o : Outcome). Answers m (admit (fresh_labels f) (view m) o) m r) (sym e) (declines m a) }

  pub stales : (w : Wants) → Brings (kinds (picked w f)) p → ready w f (view m) ≡ false → r ≡ Err NotFresh → Performs p f m m r
  stales w k e a = record { answers = subst (λ (o : Outcome). Answers m o m r) (sym (unready p w f (view m) k e)) (declines m a) }

  pub ends : {n : List ℕ} {room : Bool} {x : Option Message} {g : Tables → Tables} {puts drops : List Table} (w : Wants) → ready w f (view m) ≡ true
      → run p (view m) (picked w f) ≡ made (g (view m)) x → Carries g puts drops m n room → r ≡ concluded room x → Performs p f m n r
  ends {n} {x = x} w e s c a = record { answers = subst (λ (o : Outcome). Answers m o n r) (sym (readied p w f (view m) e ∙ ap fitted s)) (concludes x (held c) a) }

-- WHERE NO NUMBER IS BROUGHT the code asks whether none is given: 5, or what is changed, in silence.
pub unwanted : {f : Fresh} {x y : Bool} → Unwanted f x → (b : Tables) → x ≡ y → ready wants_nothing f b ≡ y
unwanted u b e = sym (u.is b) ∙ e

module _ (p : Program) (f : Fresh) {m : List ℕ} {r : Performed} {x : Bool} (u : Unwanted f x) where
  pub unfresh : Brings [] p → x ≡ false → r ≡ Err NotFresh → Performs p f m m r
  unfresh k e a = stales p f wants_nothing k (unwanted u (view m) e) a

  pub silently : {n : List ℕ} {room : Bool} {g : Tables → Tables} {puts drops : List Table}
      → run p (view m) [] ≡ made (g (view m)) None → x ≡ true → Carries g puts drops m n room → r ≡ concluded room None → Performs p f m n r
  silently s e c a = ends p f wants_nothing (unwanted u (view m) e) s c a

-- a program of a value that is told
pub performs-at : {A : Type 0} (p : A → Program) {x y : A} {f : Fresh} {m n : List ℕ} {r : Performed} → x ≡ y → Performs (p y) f m n r → Performs (p x) f m n r
performs-at {A} p {f = f} {m} {n} {r} e = subst (λ (z : A). Performs (p z) f m n r) (sym e)

-- a program that begins with another's answer known
pub performs_as : (p q : Program) {f : Fresh} {m n : List ℕ} {r : Performed} → run p (view m) (fresh_labels f) ≡ run q (view m) (fresh_labels f) → Performs q f m n r → Performs p f m n r
performs_as p q {f} {m} {n} {r} e a = record { answers = subst (λ (o : Outcome). Answers m (admit (fresh_labels f) (view m) o) n r) (sym e) a.answers }

-- a program that asks goes on with the answer
pub asked : (q : Query) (k : Observed q → Program) (b : Tables) (f : List Label) (o : Observed q) → o ≡ observed q b → run (ask q k) b f ≡ run (k o) b f
unfolding run
asked q k b f o e = ap (λ (x : Observed q). run (k x) b f) (sym e)

-- NO NUMBER: whether none is given.
none_of : List Label → Bool
none_of [] = true
none_of (l ∷ ls) = eqb l.1 0 && none_of ls

abbrev flagless : List Label → List Bool
flagless [] = []
flagless (l ∷ ls) = false ∷ flagless ls

none-exactly : (ls : List Label) → none_of ls ≡ exactly (flagless ls) ls
unfolding none_of
none-exactly [] = refl
none-exactly (l ∷ ls) = go (eqb l.1 0) (none-exactly ls)
  where
    go : (x : Bool) → none_of ls ≡ exactly (flagless ls) ls → (x && none_of ls) ≡ (cond x (not false) false && exactly (flagless ls) ls)
    go true e = e
    go false e = refl

none-fresh : (b : Tables) (ls : List Label) → none_of ls ≡ (none_of ls && all_fresh b (given ls))
unfolding none_of all_fresh
none-fresh b [] = refl
none-fresh b (l ∷ ls) = go (eqb l.1 0) (none-fresh b ls)
  where
    go : (x : Bool) → none_of ls ≡ (none_of ls && all_fresh b (given ls)) → (x && none_of ls) ≡ ((x && none_of ls) && all_fresh b (cond x (given ls) (l ∷ given ls)))
    go true e = e
    go false e = refl

pub wants_none : (f : Fresh) (b : Tables) {x : Bool} → x ≡ (eqb f.window.0 0 && (eqb f.request.0 0 && (eqb f.dns.0 0 && (eqb f.key.0 0 && eqb f.document.0 0)))) → x ≡ ready wants_nothing f b
unfolding none_of
wants_none f b e = e ∙ five (eqb f.window.0 0) (eqb f.request.0 0) (eqb f.dns.0 0) (eqb f.key.0 0) (eqb f.document.0 0) ∙ none-fresh b (numbers f) ∙ ap (◌&& all_fresh b (fresh_labels f)) (none-exactly (numbers f))
