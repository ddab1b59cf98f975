-- Which cookies may be set at all: by a script `allowed` of Definition 36, by an answer all but those with a bad prefix (Definition 37).
use Rattle.std.specs.Prelude.{Bool, cond, not, ◌&&◌, ◌||◌, List, [], ◌∷◌, ℕ, ◌+◌}
use Rattle.types.specs.declared.Protocol.{Protocol}
use Rattle.types.specs.declared.cookies.Cookie.{Cookie}
use Rattle.wim.specs.Cookies.{bad_prefix}

abbrev pub may_set : Bool → Protocol → Cookie → Bool
may_set script p c = not ((script && c.httponly) || bad_prefix p c)

-- of some cookies those that pass a test, which is told of each the place behind it
abbrev pub sifted : (Cookie → ℕ → Bool) → ℕ → List Cookie → List Cookie
sifted p i [] = []
sifted p i (c ∷ cs) = cond (p c (i + 1)) (c ∷ sifted p (i + 1) cs) (sifted p (i + 1) cs)
