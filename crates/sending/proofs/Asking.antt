-- The question that is put is the one that the definitions put; it depends on the tables, and so does the change.
use mathlib.Core.Path.{◌≡◌, ◌∙◌, ap, subst}
use mathlib.Core.Bool.{Bool, cond, ◌&&◌}
use mathlib.Core.List.{List, [], ◌∷◌, map}
use Prim.Native.Nat.{ℕ, ◌≤◌}
use native.Mathlib.Omega.{arith}
use lib.ListN.{length, length-map}
use Rattle.types.specs.declared.Url.{Url}
use Rattle.types.specs.declared.Sending.{Sending}
use Rattle.types.specs.declared.cookies.Jar.{Jar}
use Rattle.types.specs.declared.rows.HostCookie.{HostCookie}
use Rattle.types.specs.declared.rows.Question.{Question}
use Rattle.sorted.specs.Table.{keep, is_some, at}
use Rattle.tables.specs.Tables.{cookies, pending_dns, sts as strict_hosts, key_of, cmp, Tables}
use Rattle.tables.specs.Rows.{jar, pair_of, same_host, goes_over}
use Rattle.wim.specs.Program.{observed}
use Rattle.wim.specs.Sending.{secured, question_of}
use Rattle.memory.specs.Rows.{Put}
use Rattle.layouts.proofs.Pairs.{tidy-jar}
use Rattle.layouts.specs.Tables.{questions_in}
use Rattle.browser.specs.View.{view}
use Rattle.pending_dns.specs.Tidied.{tidied}
use Rattle.stepping.specs.Holds.{Carries}
use Rattle.stepping.proofs.Carry.{kept-few, dependent_carries}
use Rattle.sending.specs.Sends.{url_from, chosen_from, question_from, sent}

-- ITS HEADER IS TIDY: a memory has no more cookies than a header has room for.
few : (o : Sending) (m : List ℕ) → length (chosen_from o (view m)) ≤ 64
unfolding observed
few o m =
    let p : HostCookie → Bool = λ r. same_host r.host o.url.host && goes_over (url_from o (view m)).protocol r.cookie in
    let a : length (map pair_of (keep p (view m cookies))) ≡ length (keep p (view m cookies)) = length-map (keep p (view m cookies)) pair_of in
    let b : length (keep p (view m cookies)) ≤ 64 = kept-few cookies p m in
    omega arith

tidy-question : (o : Sending) (q n : ℕ) (m : List ℕ) → tidied (question_from o q n (view m)) ≡ question_from o q n (view m)
tidy-question o q n m = ap (λ (j : Jar). question_of o (url_from o (view m)) j q n) (tidy-jar (chosen_from o (view m)) (few o m))

-- WHAT IS PUT is that question.
pub sends : (o : Sending) (q n : ℕ) {m m₁ : List ℕ} {row : Question} {done : Bool} → row ≡ question_from o q n (view m) → Put questions_in (key_of pending_dns) (cmp pending_dns) (tidied row) m m₁ done → Carries (sent o q n) (pending_dns ∷ []) [] m m₁ done
unfolding sent
sends o q n {m} {m₁} {row} {done} i k =
    dependent_carries pending_dns (question_from o q n) (subst (λ (r : Question). Put questions_in (key_of pending_dns) (cmp pending_dns) r m m₁ done) (ap tidied i ∙ tidy-question o q n m) k)

-- what the code puts together is that question
pub question-is : (o : Sending) (q n : ℕ) (w : Tables) {sts : Bool} {url : Url} {header : Jar} {row : Question}
    → row ≡ question_of o url header q n
    → header ≡ jar (map pair_of (keep (λ (r : HostCookie). same_host r.host o.url.host && goes_over url.protocol r.cookie) (w cookies)))
    → url ≡ cond sts (secured o.url) o.url
    → sts ≡ is_some (at (key_of strict_hosts) (cmp strict_hosts) o.url.host.0 (w strict_hosts))
    → row ≡ question_from o q n w
unfolding observed
question-is o q n w {sts} {url} {header} {row} a b c d =
    let e : url ≡ url_from o w = c ∙ ap (λ (x : Bool). cond x (secured o.url) o.url) d in
    a ∙ ap (λ (h : Jar). question_of o url h q n) b
    ∙ ap (λ (u : Url). question_of o u (jar (map pair_of (keep (λ (r : HostCookie). same_host r.host o.url.host && goes_over u.protocol r.cookie) (w cookies)))) q n) e
