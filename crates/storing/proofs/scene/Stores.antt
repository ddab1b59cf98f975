-- What every script step stores, put together from its four changes.
use mathlib.Core.Path.{◌≡◌, refl, sym, subst}
use mathlib.Core.Bool.{Bool, true, ◌&&◌}
use mathlib.Core.List.{List, [], ◌∷◌, map}
use Prim.Native.Nat.{ℕ}
use Rattle.types.specs.declared.Origin.{Origin}
use Rattle.types.specs.Lists.{cookies_in}
use Rattle.tables.specs.Tables.{documents, cookies, local_storage, session_storage, Tables, update, apply}
use Rattle.tables.specs.Rows.{origin_of, with_state, changing}
use Rattle.wim.specs.Cookies.{store_all}
use Rattle.wim.specs.Script.{store_local, store_session}
use Rattle.stepping.specs.Holds.{Carries}
use Rattle.stepping.proofs.Carry.{carries-then, then_roomy, room_as}
use Rattle.storing.specs.declared.scene.Scene.{Scene}
use Rattle.storing.specs.Stored.{stored}

pub stores : (s : Scene) (o : Origin) {m m₁ m₂ m₃ n : List ℕ} {a b c r : Bool} → o ≡ origin_of s.document
    → Carries (apply cookies (store_all o.host (cookies_in s.merged))) (cookies ∷ []) [] m m₁ a
    → Carries (apply local_storage (store_local o s.output.local)) (local_storage ∷ []) (local_storage ∷ []) m₁ m₂ b
    → Carries (apply session_storage (store_session o s.top s.output.session)) (session_storage ∷ []) (session_storage ∷ []) m₂ m₃ c
    → Carries (update documents (map (changing s.document.number (with_state s.output.state)))) [] [] m₃ n true
    → r ≡ ((a && b) && c)
    → Carries (stored s) (session_storage ∷ local_storage ∷ cookies ∷ []) (local_storage ∷ session_storage ∷ []) m n r
stores s o {m} {n = n} {a} {b} {c} e h i j k t =
    room_as (sym t)
    (subst (λ (p : Origin). Carries
    (λ (w : Tables). update documents (map (changing s.document.number (with_state s.output.state)))
    (apply session_storage (store_session p s.top s.output.session) (apply local_storage (store_local p s.output.local) (apply cookies (store_all p.host (cookies_in s.merged)) w))))
    (session_storage ∷ local_storage ∷ cookies ∷ []) (local_storage ∷ session_storage ∷ []) m n ((a && b) && c)) e
    (then_roomy refl (carries-then refl (carries-then refl h i) j) k))
