-- How a step ends that sends. No code stands here.
use mathlib.Core.Path.{◌≡◌, refl, ◌∙◌}
use mathlib.Core.Bool.{Bool, true}
use mathlib.Core.List.{List, [], ◌∷◌}
use Rattle.std.specs.Prelude.{Some as some}
use Prim.Native.Nat.{ℕ}
use Rattle.types.specs.declared.Fresh.{Fresh}
use Rattle.types.specs.declared.Wants.{Wants}
use Rattle.types.specs.declared.Sending.{Sending}
use Rattle.tables.specs.Tables.{Table, Tables}
use Rattle.tables.specs.Labels.{request, dns}
use Rattle.shapes.specs.Events.{resolve}
use Rattle.wim.specs.Program.{Program, made, run}
use Rattle.wim.specs.Sending.{send}
use Rattle.browser.specs.View.{view}
use Rattle.stepping.specs.Gives.{Performed}
use Rattle.stepping.specs.Holds.{Carries}
use Rattle.stepping.specs.Performs.{Performs}
use Rattle.stepping.specs.Wanted.{picked, ready, wants_send}
use Rattle.stepping.proofs.Sends.{numbers_of}
use Rattle.stepping.proofs.Carry.{carries-none, carries-then}
use Rattle.stepping.proofs.Ways.{ends}
use Rattle.sending.specs.Sends.{sent, Sends}

-- what the program `send` makes of the tables
pub ran_send : (o : Sending) (q n : ℕ) (w : Tables) → run (send o) w ((request, q) ∷ ((dns, n) ∷ [])) ≡ made (sent o q n w) (some (resolve o.url.host (record { 0 = n })))
unfolding run send sent
ran_send o q n w = refl

-- A step that has changed the tables by g, and goes on by HTTP_SEND.
pub ends-sending : (p : Program) (f : Fresh) (o : Sending) {m m₁ m₂ : List ℕ} {r : Performed} {g : Tables → Tables} {puts drops : List Table} {room : Bool} (w : Wants) → ready w f (view m) ≡ true
    → run p (view m) (picked w f) ≡ run (send o) (g (view m)) (numbers_of f)
    → Carries g puts drops m m₁ room → Sends room o f m₁ m₂ r → Performs p f m m₂ r
ends-sending p f o {m} {g = g} w e s c k = ends p f w e (s ∙ ran_send o f.request.0 f.dns.0 (g (view m))) (carries-then refl c k.carries) k.concludes

-- One that sends and does nothing else.
pub sends_only : (f : Fresh) (o : Sending) {m n : List ℕ} {r : Performed} → ready wants_send f (view m) ≡ true → Sends true o f m n r → Performs (send o) f m n r
sends_only f o {m} e k = ends-sending (send o) f o wants_send e refl (carries-none m) k
