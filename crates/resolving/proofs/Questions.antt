-- The ways through a DNS answer, on any tables and fresh numbers. No code stands here.
use mathlib.Core.Path.{◌≡◌, refl, sym, ◌∙◌, ap, subst}
use mathlib.Core.Bool.{Bool, true, false, not}
use mathlib.Core.List.{List, [], ◌∷◌}
use Rattle.std.specs.Prelude.{Option, None as none, Some as some}
use Prim.Native.Nat.{ℕ}
use Rattle.types.specs.declared.Address.{Address}
use Rattle.types.specs.declared.Protocol.TheVariants.{Plain, Secure}
use Rattle.types.specs.declared.answers.DnsAnswer.{DnsAnswer}
use Rattle.types.specs.declared.Fresh.{Fresh}
use Rattle.types.specs.declared.refusals.Missing.TheVariants.{NoQuestion, Mismatch}
use Rattle.types.specs.declared.refusals.Refusal.TheVariants.{Lacking}
use Rattle.types.specs.Perhaps.{Seal}
use Rattle.std.specs.Prelude.{None as Keyless, Some as Keyed}
use Rattle.types.specs.declared.rows.Question.{Question}
use Rattle.types.specs.declared.rows.Waiting.{Waiting}
use Rattle.sorted.specs.Order.{same}
use Rattle.sorted.specs.Table.{at}
use Rattle.tables.specs.Tables.{pending_dns, pending_requests, key_of, cmp, Tables}
use Rattle.tables.specs.Labels.{Label}
use Rattle.tables.specs.Rows.{same_host}
use Rattle.shapes.specs.Events.{unsealed, sealed}
use Rattle.wim.specs.Program.{ask, observed, question, refuse_unless, refused, made, run}
use Rattle.wim.specs.Main.{waiting_of, go_out, resolved}
use Rattle.memory.specs.Rows.{Kept, Put}
use Rattle.layouts.specs.Tables.{questions_in, requests_in}
use Rattle.pending_dns.specs.Tidied.{tidied}
use Rattle.pending_requests.specs.Tidied.{tidied as tidied_waiting}
use Rattle.stepping.specs.Brings.{Brings}
use Rattle.stepping.specs.Holds.{Carries}
use Rattle.stepping.specs.Wanted.{kinds, picked, wants_nothing, wants_key}
use Rattle.stepping.proofs.Carry.{then_roomy, put-carries, keep-carries}
use Rattle.resolving.specs.Waits.{handed_over}

-- THE QUESTION is looked up by its number, and its host is compared.
module _ (a : DnsAnswer) (b : Tables) (f : List Label) where
  pub no-question : none ≡ at (key_of pending_dns) (cmp pending_dns) a.number.0 (b pending_dns) → run (ask (question a.number) (resolved a)) b f ≡ refused (Lacking NoQuestion)
  unfolding run observed resolved
  no-question e = ap (λ (o : Option Question). run (resolved a o) b f) (sym e)

  module _ {q : Question} (e : some q ≡ at (key_of pending_dns) (cmp pending_dns) a.number.0 (b pending_dns)) where
    ran_found : run (ask (question a.number) (resolved a)) b f ≡ run (resolved a (some q)) b f
    unfolding run observed
    ran_found = ap (λ (o : Option Question). run (resolved a o) b f) (sym e)

    ran_host : (x : Bool) → same_host a.host q.request.host ≡ x → run (resolved a (some q)) b f ≡ run (refuse_unless x Mismatch (go_out q.url.protocol q a.address)) b f
    unfolding resolved
    ran_host x t = ap (λ (y : Bool). run (refuse_unless y Mismatch (go_out q.url.protocol q a.address)) b f) t

    pub another-host : same_host a.host q.request.host ≡ false → run (ask (question a.number) (resolved a)) b f ≡ refused (Lacking Mismatch)
    unfolding run
    another-host t = ran_found ∙ ran_host false t

    pub its_host : same_host a.host q.request.host ≡ true → run (ask (question a.number) (resolved a)) b f ≡ run (go_out q.url.protocol q a.address) b f
    its_host t = ran_found ∙ ran_host true t

-- OVER P no number is brought, over S a key.
module _ (q : Question) (address : Address) (f : Fresh) where
  pub brings_plain : Brings (kinds (picked wants_nothing f)) (go_out Plain q address)
  unfolding go_out
  brings_plain = tt

  pub brings_sealed : Brings (kinds (picked wants_key f)) (go_out Secure q address)
  unfolding go_out
  brings_sealed = (refl, λ k. tt)

  pub ran_plain : (b : Tables) → run (go_out Plain q address) b (picked wants_nothing f) ≡ made (handed_over q Keyless address b) (some (unsealed address q.request))
  unfolding run go_out
  ran_plain b = refl

  pub ran_sealed : (b : Tables) → run (go_out Secure q address) b (picked wants_key f) ≡ made (handed_over q (Keyed f.key) address b) (some (sealed address f.key q.request))
  unfolding run go_out
  ran_sealed b = refl

-- WHAT IS HANDED OVER: rows that are taken want no room; of a tidy question the row is the definitions' own.
pub hands : (q : Question) (seal : Seal) (address : Address) {row : Waiting} {m n o : List ℕ} {room : Bool} → row ≡ waiting_of q seal address
    → Put requests_in (key_of pending_requests) (cmp pending_requests) (tidied_waiting row) m n room
    → Kept questions_in (λ (r : Question). not (same (cmp pending_dns (key_of pending_dns q) (key_of pending_dns r)))) n o
    → Carries (handed_over (tidied q) seal address) (pending_requests ∷ []) (pending_dns ∷ []) m o room
hands q seal address {row} {m} {n} {o} {room} e p k =
    then_roomy refl (put-carries pending_requests (subst (λ (x : Waiting). Put requests_in (key_of pending_requests) (cmp pending_requests) (tidied_waiting x) m n room) e p)) (keep-carries pending_dns k)

pub of_tidy : (q : Question) (seal : Seal) (address : Address) {m n : List ℕ} {room : Bool} → tidied q ≡ q
    → Carries (handed_over (tidied q) seal address) (pending_requests ∷ []) (pending_dns ∷ []) m n room → Carries (handed_over q seal address) (pending_requests ∷ []) (pending_dns ∷ []) m n room
of_tidy q seal address {m} {n} {room} e c = subst (λ (r : Question). Carries (handed_over r seal address) (pending_requests ∷ []) (pending_dns ∷ []) m n room) e c
