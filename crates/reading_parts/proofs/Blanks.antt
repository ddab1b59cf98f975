-- Arrays whose rows past the count are blank: they stay so as cookies are put in.
use mathlib.Core.Path.{◌≡◌, ap, ◌∙◌}
use mathlib.Core.List.{List, [], ◌∷◌}
use Prim.Native.Nat.{ℕ, zero, suc, ◌+◌, ◌<◌}
use native.Mathlib.Omega.{arith}
use native.Mathlib.Numerals.{add-one}
use lib.ListN.{length, take, set}
use lib.Seq.{length-take-le}
use Rattle.sorted.proofs.Never.{never}
use Rattle.sorted.specs.Table.{fill}
use Rattle.shapes.specs.Nouns.{Cookie, SetCookies}
use Rattle.shapes.specs.Items.{cookie_of, blank_cookie, set_cookies}
use Rattle.csexp.proofs.Filling.{Filling}

module _ {A : Type 0} (b : A) where
  pub set-fill : (n : ℕ) (l : List A) (c : ℕ) (v : A) → c < n → fill b n (take c l) ≡ l → fill b n (take (suc c) (set l c v)) ≡ set l c v
  set-fill zero l c v h e = absurd (omega arith)
  set-fill (suc n) [] zero v h e = never (cc)
  set-fill (suc n) [] (suc c) v h e = never (cc)
  set-fill (suc n) (x ∷ l) zero v h e = let t : fill b n [] ≡ l = cc in ap (λ (r : List A). v ∷ r) t
  set-fill (suc n) (x ∷ l) (suc c) v h e = let t : fill b n (take c l) ≡ l = cc in ap (λ (r : List A). x ∷ r) (set-fill n l c v (omega arith) t)

-- the cookies so far, and blank ones behind them
pub record Blank (rows : List Cookie) (count : ℕ) : Type 0 where
  pub behind : fill blank_cookie 4 (take count rows) ≡ rows

pub blank-more : {rows : List Cookie} {count : ℕ} (v : Cookie) → count < 4 → Blank rows count → Blank (set rows count v) (count + 1)
blank-more {rows} {count} v h b = record { behind = rw (add-one count) (set-fill blank_cookie 4 rows count v h b.behind) }

abbrev made : List Cookie → ℕ → SetCookies
made rows count = record { rows = rows; count = count }

pub blank-whole : {rows : List Cookie} {count : ℕ} {s : List ℕ} {p₀ p : ℕ} → Filling cookie_of 4 s p₀ rows count p → Blank rows count
    → set_cookies (take count rows) ≡ record { rows = rows; count = count }
blank-whole {rows} {count} f b =
    let n : length (take count rows) ≡ count = length-take-le count rows (let l = f.long in let m = f.fits in omega arith) in
    let e : fill blank_cookie 4 (take count rows) ≡ rows = b.behind in
    ap (λ (l : List Cookie). made l (length (take count rows))) e ∙ ap (made rows) n
