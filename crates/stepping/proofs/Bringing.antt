-- Programs that refuse nothing more and bring numbers of known kinds: where the fresh numbers are not those, or one stands somewhere, it is 5.
use mathlib.Core.Path.{◌≡◌, refl, sym, ap, ◌∙◌}
use mathlib.Core.Bool.{Bool, true, false, cond, ◌&&◌}
use mathlib.Core.List.{List, [], ◌∷◌, map}
use Rattle.std.specs.Prelude.{Option}
use lib.Dec.{eqb}
use Rattle.types.specs.declared.refusals.Refusal.TheVariants.{NotFresh}
use Rattle.tables.specs.Tables.{Tables, update, apply}
use Rattle.tables.specs.Labels.{Kind, code, Label}
use Rattle.shapes.specs.Events.{Message}
use Rattle.wim.specs.Program.{observed, Program, ask, edit, revise, bring, refuse, done, Outcome, refused, made, run}
use Rattle.wim.specs.Step.{all_fresh, fitted, admit}
use Rattle.stepping.specs.Brings.{Brings}

-- the fresh numbers have these kinds
abbrev pub matches : List Kind → List Label → Bool
matches [] [] = true
matches [] (l ∷ f) = false
matches (κ ∷ ks) [] = false
matches (κ ∷ ks) (l ∷ f) = eqb (code κ) (code l.0) && matches ks f

-- it is made where they do, and else it is 5
data Met (ok : Bool) : Outcome → Type 0 where
  went : (c : Tables) (m : Option Message) → ok ≡ true → Met ok (made c m)
  short : ok ≡ false → Met ok (refused NotFresh)

met : (p : Program) (ks : List Kind) → Brings ks p → (b : Tables) (f : List Label) → Met (matches ks f) (run p b f)
unfolding run
met (ask q k) ks h b f = met (k (observed q b)) ks (h (observed q b)) b f
met (edit t es p) ks h b f = met p ks h (apply t es b) f
met (revise t g p) ks h b f = met p ks h (update t (map g) b) f
met (bring κ k) [] h b f = absurd h
met (bring κ k) (κ' ∷ ks) h b [] = short refl
met (bring κ k) (κ' ∷ ks) h b (l ∷ f) = rw h.0 (go (eqb (code κ') (code l.0)) (met (k l.1) ks (h.1 l.1) b f))
  where
    go : (e : Bool) → Met (matches ks f) (run (k l.1) b f) → Met (e && matches ks f) (cond e (run (k l.1) b f) (refused NotFresh))
    go true r = r
    go false r = short refl
met (refuse r) ks h b f = absurd h
met (done m) [] h b [] = went b m refl
met (done m) [] h b (l ∷ f) = short refl
met (done m) (κ ∷ ks) h b f = absurd h

pub stale : (p : Program) (ks : List Kind) → Brings ks p → (b : Tables) (f : List Label) → (matches ks f && all_fresh b f) ≡ false → admit f b (run p b f) ≡ refused NotFresh
stale p ks h b f e = go (met p ks h b f)
  where
    go : {o : Outcome} → Met (matches ks f) o → admit f b o ≡ refused NotFresh
    go (short q) = refl
    go (went c m q) = let z : all_fresh b f ≡ false = sym (ap (◌&& all_fresh b f) q) ∙ e in rw z

-- the fresh numbers are good: what is left is 6
pub fresh-fitted : (f : List Label) (b : Tables) (o : Outcome) → all_fresh b f ≡ true → admit f b o ≡ fitted o
fresh-fitted f b (refused r) e = refl
fresh-fitted f b (made c m) e = rw e
