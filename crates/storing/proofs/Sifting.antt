-- What is kept of few cookies by a test that asks for no place, and by one that looks at those behind.
use mathlib.Core.Path.{◌≡◌, refl, ap}
use mathlib.Core.Bool.{Bool, true, false, cond, not}
use mathlib.Core.List.{List, [], ◌∷◌}
use Prim.Native.Nat.{ℕ, zero, suc, ◌+◌}
use native.Mathlib.Numerals.{add-one}
use lib.ListN.{drop}
use Rattle.types.specs.declared.cookies.Cookie.{Cookie}
use Rattle.sorted.specs.Table.{keep}
use Rattle.wim.specs.Cookies.{named, latest}
use Rattle.storing.specs.Setting.{sifted}

pub sifted-keep : (q : Cookie → Bool) (i : ℕ) (cs : List Cookie) → sifted (λ c k. q c) i cs ≡ keep q cs
unfolding keep
sifted-keep q i [] = refl
sifted-keep q i (c ∷ cs) = ap (λ (l : List Cookie). cond (q c) (c ∷ l) l) (sifted-keep q (i + 1) cs)

-- what is behind the first
behind : (i : ℕ) (all : List Cookie) (c : Cookie) (cs : List Cookie) → drop i all ≡ c ∷ cs → drop (suc i) all ≡ cs
behind zero all c cs e = ap (drop 1) e
behind (suc i) [] c cs e = ap (drop 1) e
behind (suc i) (x ∷ all) c cs e = behind i all c cs e

-- Whether no cookie behind has the name.
module _ (all : List Cookie) where
  sifted-rest : (i : ℕ) (cs : List Cookie) → drop i all ≡ cs → sifted (λ c k. not (named c.name (drop k all))) i cs ≡ latest cs
  sifted-rest i [] e = refl
  sifted-rest i (c ∷ cs) e =
      let t : drop (i + 1) all ≡ cs = rw add-one (behind i all c cs e) in
      rw (t, sifted-rest (i + 1) cs t) (turned (named c.name cs))
    where
      turned : (b : Bool) → cond (not b) (c ∷ latest cs) (latest cs) ≡ cond b (latest cs) (c ∷ latest cs)
      turned true = refl
      turned false = refl

  pub sifted-latest : sifted (λ c k. not (named c.name (drop k all))) 0 all ≡ latest all
  sifted-latest = sifted-rest 0 all refl
