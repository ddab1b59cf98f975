use Rattle.std.proofs.Common.{◌≡◌, Bool, ℕ, ◌≤◌, ◌++◌, length}
use lib.ListN.{take, drop}
use Rattle.types.specs.declared.cookies.Cookie.{Cookie}
use Rattle.types.specs.Lists.{cookies_in}
use Rattle.storing.specs.Setting.{sifted}
use Rattle.storing.proofs.setting.kept.Given as goal

abbrev pub invariant-loop-i : goal.invariant-loop-i
invariant-loop-i g l =
    (l.count ≤ l.i) × (length l.rows ≡ 4)
    × ((p : Cookie → ℕ → Bool) → ((c : Cookie) (i : ℕ) (b : Bool) → goal.F-post g l.test c i b → b ≡ p c i)
    → take l.count l.rows ++ sifted p l.i (drop l.i (take l.i-end l.few.rows)) ≡ sifted p 0 (cookies_in l.few))
