-- What a memory holds is tidy: a question that is found was read from its numbers.
use mathlib.Core.Path.{◌≡◌, sym, ap, subst}
use mathlib.Core.Logic.{inl, inr}
use mathlib.Core.Bool.{Bool}
use mathlib.Core.List.{List, [], ◌∷◌, map}
use Prim.Native.Nat.{ℕ, zero, suc}
use Rattle.std.specs.Prelude.{Some as some}
use lib.ListN.{take, drop}
use Rattle.types.specs.declared.cookies.Jar.{Jar}
use Rattle.types.specs.declared.rows.Question.{Question}
use Rattle.sorted.specs.Table.{In, find}
use Rattle.sorted.proofs.Member.{find_in}
use Rattle.memory.specs.Rows.{chunks, count, table}
use Rattle.layouts.proofs.Pairs.{tidy-read}
use Rattle.layouts.specs.Rows.{question_of}
use Rattle.layouts.specs.Tables.{questions_in}
use Rattle.pending_dns.specs.Tidied.{with_jar, tidied}

-- what holds of all that numbers can say holds of each row
said : {A : Type 0} (P : A → Type 0) (decode : List ℕ → A) → ((c : List ℕ) → P (decode c)) → (n : ℕ) (l : List (List ℕ)) (x : A) → In x (take n (map decode l)) → P x
said P decode h zero l x i = absurd i
said P decode h (suc n) [] x i = absurd i
said P decode h (suc n) (c ∷ l) x (inl e) = subst P (sym e) (h c)
said P decode h (suc n) (c ∷ l) x (inr i) = said P decode h n l x i

tidy-row : (c : List ℕ) → tidied (question_of c) ≡ question_of c
tidy-row c = ap (λ (j : Jar). with_jar j (question_of c)) (tidy-read 27 c)

pub tidy-found : (m : List ℕ) (p : Question → Bool) (q : Question) → some q ≡ find p (table questions_in m) → tidied q ≡ q
tidy-found m p q e =
    said (λ (r : Question). tidied r ≡ r) question_of tidy-row (count questions_in m) (chunks 220 16 (drop 2631 m)) q
    (find_in p (table questions_in m) q (sym e)).0
