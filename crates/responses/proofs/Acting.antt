-- Headers acted upon: one edit after the other.
use mathlib.Core.Path.{◌≡◌, refl, sym, subst}
use mathlib.Core.Bool.{Bool, true, not, ◌&&◌}
use mathlib.Core.List.{List, [], ◌∷◌}
use Prim.Native.Nat.{ℕ}
use Rattle.types.specs.declared.answers.Answer.{Answer}
use Rattle.types.specs.declared.cookies.Cookie.{Cookie}
use Rattle.types.specs.declared.rows.Waiting.{Waiting}
use Rattle.sorted.specs.Table.{keep, drop}
use Rattle.tables.specs.Tables.{cookies, pending_requests, sts, apply}
use Rattle.wim.specs.Cookies.{bad_prefix, store_all, add_cookies}
use Rattle.wim.specs.Response.{strict_host}
use Rattle.stepping.specs.Holds.{Carries}
use Rattle.stepping.proofs.Carry.{carries-then, room_as}
use Rattle.responses.specs.Acted.{acted}

pub acts : (w : Waiting) (a : Answer) (new : List Cookie) {good : List Cookie} {k l m n : List ℕ} {x y r : Bool}
    → Carries (apply pending_requests (drop w.request.number.0 ∷ [])) [] (pending_requests ∷ []) k l true
    → good ≡ keep (λ (c : Cookie). not (bad_prefix w.url.protocol c)) new
    → Carries (apply cookies (store_all w.request.host good)) (cookies ∷ []) [] l m x
    → Carries (apply sts (strict_host w a)) (sts ∷ []) [] m n y
    → r ≡ (x && y)
    → Carries (acted w a new) (sts ∷ cookies ∷ []) (pending_requests ∷ []) k n r
unfolding add_cookies
acts w a new {l = l} {m} {x = x} drops g puts strict e =
    room_as (sym e)
    (carries-then refl
    (carries-then refl drops (subst (λ (c : List Cookie). Carries (apply cookies (store_all w.request.host c)) (cookies ∷ []) [] l m x) g puts))
    strict)
