-- A program that asks goes on with the answer; one that refuses has refused. No code stands here.
use mathlib.Core.Path.{◌≡◌, refl}
use mathlib.Core.List.{List}
use Rattle.std.specs.Prelude.{Err}
use Prim.Native.Nat.{ℕ}
use Rattle.types.specs.declared.Fresh.{Fresh}
use Rattle.types.specs.declared.refusals.Refusal.{Refusal}
use Rattle.wim.specs.Program.{Query, Observed, observed, Program, ask, refuse, run}
use Rattle.wim.specs.Step.{fresh_labels}
use Rattle.browser.specs.View.{view}
use Rattle.stepping.specs.Gives.{Performed}
use Rattle.stepping.specs.Performs.{Performs}
use Rattle.stepping.proofs.Ways.{performs_as, refuses, asked}

pub asks : (q : Query) (k : Observed q → Program) {f : Fresh} {m n : List ℕ} {r : Performed} (o : Observed q) → o ≡ observed q (view m) → Performs (k o) f m n r → Performs (ask q k) f m n r
asks q k {f} {m} o e h = performs_as (ask q k) (k o) (asked q k (view m) (fresh_labels f) o e) h

pub declined : (why : Refusal) (f : Fresh) {m : List ℕ} {r : Performed} → r ≡ Err why → Performs (refuse why) f m m r
unfolding run
declined why f e = refuses (refuse why) f refl e
