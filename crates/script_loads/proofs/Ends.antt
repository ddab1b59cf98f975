-- How a command ends that loads something, whatever change of its own its closure makes. No code stands here.
use mathlib.Core.Path.{◌≡◌, refl, sym, subst, ◌∙◌}
use mathlib.Core.Bool.{Bool, true, false, ◌&&◌}
use mathlib.Core.List.{List, [], ◌∷◌, ◌++◌}
use Prim.Native.Nat.{ℕ}
use denote.Ref.{MutBor}
use Rattle.std.specs.Prelude.{Err}
use Rattle.types.specs.declared.Sending.{Sending}
use Rattle.types.specs.declared.Wants.{Wants}
use Rattle.types.specs.declared.refusals.Refusal.TheVariants.{NotFresh}
use Rattle.tables.specs.Tables.{cookies, local_storage, session_storage, Tables}
use Rattle.tables.specs.Labels.{Label}
use Rattle.wim.specs.Program.{Program, Outcome, run}
use Rattle.browser.specs.View.{view}
use Rattle.stepping.specs.Gives.{Performed}
use Rattle.stepping.specs.Holds.{Carries}
use Rattle.stepping.specs.Performs.{Performs}
use Rattle.stepping.specs.Wanted.{picked, ready}
use Rattle.stepping.proofs.Carry.{room_as, carries-then}
use Rattle.stepping.proofs.Ways.{stales}
use Rattle.sending.specs.Sends.{Sends}
use Rattle.sending.proofs.Ways.{ends-sending}
use Rattle.storing.specs.declared.scene.Scene.{Scene}
use Rattle.storing.specs.Stored.{storing, stored}
use Rattle.script_loads.specs.Change.{Does, sends}

stored-first : (s : Scene) (p : Program) (b : Tables) (ls : List Label) → run (storing s p) b ls ≡ run p (stored s b) ls
unfolding run
stored-first s p b ls = refl

module _ {F : Type 0} {post : F → MutBor (List ℕ) → Bool → MutBor (List ℕ) → Type 0} {change : F} {ls : List Label} {rest : Tables → Outcome} (s : Scene) (p : Program) (h : Does post change ls rest p) where
  pub ran_behind : (b : Tables) → run (storing s p) b ls ≡ rest (h.does (stored s b))
  ran_behind b = stored-first s p b ls ∙ h.ran (stored s b)

  -- the store and the change, one after the other
  pub carried : {m m₁ : List ℕ} {a b room : Bool} {k l : MutBor (List ℕ)} → room ≡ (a && b)
      → Carries (stored s) (session_storage ∷ local_storage ∷ cookies ∷ []) (local_storage ∷ session_storage ∷ []) m m₁ a → post change k b l → k.now ≡ m₁
      → Carries (λ w. h.does (stored s w)) (h.puts ++ (session_storage ∷ local_storage ∷ cookies ∷ [])) ((local_storage ∷ session_storage ∷ []) ++ h.drops) m l.now room
  carried {m} {a = a} {b} {k = k} {l} f c d z =
      room_as (sym f) (carries-then h.clear (subst (λ (x : List ℕ). Carries (stored s) (session_storage ∷ local_storage ∷ cookies ∷ []) (local_storage ∷ session_storage ∷ []) m x a) (sym z) c) (h.carries k l b d))

module _ {F : Type 0} {post : F → MutBor (List ℕ) → Bool → MutBor (List ℕ) → Type 0} {change : F} (wants : Wants) (s : Scene) (o : Sending) (p : Program) (h : Does post change (picked wants s.fresh) (sends o s.fresh) p) {m : List ℕ} where
  pub stale : ready wants s.fresh (view m) ≡ false → Performs (storing s p) s.fresh m m (Err NotFresh)
  stale e = stales (storing s p) s.fresh wants h.brings e refl

  pub over : {m₁ n : List ℕ} {a b room : Bool} {r : Performed} {k l : MutBor (List ℕ)} → ready wants s.fresh (view m) ≡ true → room ≡ (a && b)
      → Carries (stored s) (session_storage ∷ local_storage ∷ cookies ∷ []) (local_storage ∷ session_storage ∷ []) m m₁ a
      → post change k b l → k.now ≡ m₁ → Sends room o s.fresh l.now n r → Performs (storing s p) s.fresh m n r
  over e f c d z q = ends-sending (storing s p) s.fresh o wants e (ran_behind s p h (view m)) (carried s p h f c d z) q
