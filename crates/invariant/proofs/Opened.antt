-- An accepted step of a browser is one of its tables; the browser was open. So the tables of a browser that accepted steps have made are made by them.
use mathlib.Core.Path.{◌≡◌, refl, sym, ◌∙◌, ap}
use mathlib.Core.Bool.{Bool, true, false, cond}
use Rattle.std.specs.Prelude.{Option}
use Rattle.sorted.proofs.Never.{never}
use Rattle.shapes.specs.Events.{Message}
use Rattle.wim.specs.Nouns.{Item, Closed}
use Rattle.wim.specs.Program.{Outcome, refused, made}
use Rattle.wim.specs.Step.{Browser, declined, accepted, closes, concluded, step_tables, step}
use Rattle.wim.specs.Invariant.{MadeTables, untouched, stepped}
use Rattle.wim.specs.Made.{Made, empty, next}

pub opened : (i : Item) (b c : Browser) (m : Option Message) → step i b ≡ accepted c m → (b.closed ≡ false) × (step_tables i b.tables ≡ made c.tables m) × (c.closed ≡ closes i.event)
unfolding step
opened i b c m e = go b.closed (step_tables i b.tables) refl refl e
  where
    go : (x : Bool) (o : Outcome) → b.closed ≡ x → step_tables i b.tables ≡ o → cond x (declined Closed) (concluded (closes i.event) o) ≡ accepted c m
        → (b.closed ≡ false) × (step_tables i b.tables ≡ made c.tables m) × (c.closed ≡ closes i.event)
    go true o p q h = never (cc)
    go false (refused r) p q h = never (cc)
    go false (made d n) p q h =
        let z : record { tables = d; closed = closes i.event } ≡ c = cc in
        let y : n ≡ m = cc in
        (p, q ∙ (λ k. made (z k).tables (y k)), ap (λ (x : Browser). x.closed) (sym z))

pub made-tables : {b : Browser} → Made b → MadeTables b.tables
made-tables empty = untouched
made-tables (next {b = b} {c = c} i m r e) = stepped i m (made-tables r) (opened i b c m e).1
