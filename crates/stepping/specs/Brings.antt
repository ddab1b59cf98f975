-- Which fresh numbers a program takes, whatever it is told.
use Rattle.std.specs.Prelude.{◌≡◌, List, [], ◌∷◌, ℕ}
use Rattle.tables.specs.Labels.{Kind, code}
use Rattle.wim.specs.Program.{Observed, Program, ask, edit, revise, bring, refuse, done}

-- the program refuses nothing and brings numbers of these kinds, in this order
abbrev pub Brings : List Kind → Program → Type 0
Brings ks (ask q k) = (x : Observed q) → Brings ks (k x)
Brings ks (edit t es p) = Brings ks p
Brings ks (revise t g p) = Brings ks p
Brings [] (bring κ k) = ⊥
Brings (κ' ∷ ks) (bring κ k) = (code κ ≡ code κ') × ((n : ℕ) → Brings ks (k n))
Brings ks (refuse r) = ⊥
Brings [] (done m) = Unit {0}
Brings (κ ∷ ks) (done m) = ⊥
