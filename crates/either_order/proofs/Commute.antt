-- Two programs that keep to parts which do not meet may run in either order.
use mathlib.Core.Path.{◌≡◌, refl, sym, ◌∙◌, ap, fun_ext}
use mathlib.Core.Bool.{Bool, true, false, not}
use mathlib.Core.List.{List}
use Rattle.std.specs.Prelude.{Option}
use Prim.Native.Nat.{◌+◌, ◌≤◌}
use native.Mathlib.Omega.{arith}
use borrow.Author.Tests.{not-true}
use lib.ListN.{length}
use Rattle.sorted.specs.Table.{Sorted, at}
use Rattle.sorted.proofs.Equal.{ext, same_at, only_ext}
use Rattle.tables.specs.Tables.{Table, Key, key_of, cmp, Tables}
use Rattle.tables.specs.Labels.{Label, tag}
use Rattle.shapes.specs.Events.{Message}
use Rattle.wim.specs.Program.{Program, made, run}
use Rattle.tables.proofs.Update.{linear}
use Rattle.four_rows.proofs.Programs.{none_yet}
use Rattle.either_order.proofs.Part.{Part, sees, Level, Whole, Moved, whole-moved}
use Rattle.either_order.proofs.Keeps.{Keeps, Owns, moves, AlikeIn, agree, keeps_alike, made_alike}

abbrev pub side : (mine theirs : Label → Bool) → ((l : Label) → mine l ≡ true → theirs l ≡ false) → Part
side mine theirs D = record { own = mine; other = theirs; apart = D }

module _ (own₁ own₂ : Label → Bool) (D₁ : (l : Label) → own₁ l ≡ true → own₂ l ≡ false) (D₂ : (l : Label) → own₂ l ≡ true → own₁ l ≡ false) where
  abbrev F₁ : Part
  F₁ = side own₁ own₂ D₁

  abbrev F₂ : Part
  F₂ = side own₂ own₁ D₂

  turned : (b : Tables) → Whole F₂ b → Whole F₁ b
  turned b W = record { sorted = W.sorted; owns = W.others; others = W.owns }

  -- what the second does is not seen by the first
  unseen : (b c : Tables) → Whole F₂ b → Moved F₂ b c → AlikeIn F₁ b c
  unseen b c W m t = only_ext (key_of t) (cmp t) (linear t) (λ k. sees F₁ (tag t k)) (b t) (c t) (W.sorted t) (m.sorted t) (λ k q. sym (m.frame t k (not-true (own₂ (tag t k)) q)))

  -- the first after the second
  after : (b c : Tables) (p : Program) (f : List Label) (b₁ : Tables) (m : Option Message) → Whole F₂ b → Moved F₂ b c → Keeps F₁ none_yet p b → Owns F₁ f → run p b f ≡ made b₁ m
      → (d : Tables) × (run p c f ≡ made d m) × AlikeIn F₁ b₁ d × Moved F₁ c d × ((t : Table) → length (d t) ≤ length (c t) + 4)
  after b c p f b₁ m W mv kp ow e =
      let x : Whole F₁ b = turned b W in
      let y : Whole F₁ c = turned c (whole-moved F₂ b c W mv) in
      let al : AlikeIn F₁ b c = unseen b c W mv in
      let ag = made_alike F₁ (run p b f) b₁ m (run p c f) e (agree F₁ p none_yet b c f x y al kp ow) in
      let mo = moves F₁ p none_yet c f ag.0 m (keeps_alike F₁ p none_yet b c x y al kp) ow y ag.1 in
      (ag.0, ag.1, ag.2, mo.0, λ t. let u = mo.1 t in omega arith)

-- THE THEOREM OF PROGRAMS: two sets of labels that do not meet, each level in the browser; two programs, each of which owns one set and
-- looks at nothing of the other's. Either may run first.
pub commute : (own₁ own₂ : Label → Bool) (D₁ : (l : Label) → own₁ l ≡ true → own₂ l ≡ false) (D₂ : (l : Label) → own₂ l ≡ true → own₁ l ≡ false)
    (b : Tables) → ((t : Table) → Sorted (key_of t) (cmp t) (b t)) → Level own₁ b → Level own₂ b
    → (p₁ p₂ : Program) (f₁ f₂ : List Label) → Keeps (side own₁ own₂ D₁) none_yet p₁ b → Keeps (side own₂ own₁ D₂) none_yet p₂ b
    → Owns (side own₁ own₂ D₁) f₁ → Owns (side own₂ own₁ D₂) f₂
    → (b₁ b₂ : Tables) (m₁ m₂ : Option Message) → run p₁ b f₁ ≡ made b₁ m₁ → run p₂ b f₂ ≡ made b₂ m₂
    → (c : Tables) × (run p₂ b₁ f₂ ≡ made c m₂) × (run p₁ b₂ f₁ ≡ made c m₁) × ((t : Table) → length (c t) ≤ length (b t) + 8)
commute own₁ own₂ D₁ D₂ b s L₁ L₂ p₁ p₂ f₁ f₂ k₁ k₂ o₁ o₂ b₁ b₂ m₁ m₂ e₁ e₂ =
    let W₁ : Whole (side own₁ own₂ D₁) b = record { sorted = s; owns = L₁; others = L₂ } in
    let W₂ : Whole (side own₂ own₁ D₂) b = record { sorted = s; owns = L₂; others = L₁ } in
    let x = moves (side own₁ own₂ D₁) p₁ none_yet b f₁ b₁ m₁ k₁ o₁ W₁ e₁ in
    let y = moves (side own₂ own₁ D₂) p₂ none_yet b f₂ b₂ m₂ k₂ o₂ W₂ e₂ in
    let u = after own₂ own₁ D₂ D₁ b b₁ p₂ f₂ b₂ m₂ W₁ x.0 k₂ o₂ e₂ in
    let v = after own₁ own₂ D₁ D₂ b b₂ p₁ f₁ b₁ m₁ W₂ y.0 k₁ o₁ e₁ in
    let same : v.0 ≡ u.0 = fun_ext (λ t. table t v.0 u.0 x.0 y.0 u.3 v.3 u.2 v.2) in
    (u.0, u.1, v.1 ∙ ap (λ (d : Tables). made d m₁) same, λ t. let a = u.4 t in let c = x.1 t in omega arith)
  where
    -- key by key: owned by the first, by the second, or by neither
    table : (t : Table) (c₂₁ c₁₂ : Tables) → Moved (side own₁ own₂ D₁) b b₁ → Moved (side own₂ own₁ D₂) b b₂ → Moved (side own₂ own₁ D₂) b₁ c₁₂ → Moved (side own₁ own₂ D₁) b₂ c₂₁
        → AlikeIn (side own₂ own₁ D₂) b₂ c₁₂ → AlikeIn (side own₁ own₂ D₁) b₁ c₂₁ → c₂₁ t ≡ c₁₂ t
    table t c₂₁ c₁₂ x y mu mv a₂ a₁ = ext (key_of t) (cmp t) (linear t) (c₂₁ t) (c₁₂ t) (mv.sorted t) (mu.sorted t) (λ k. go k (own₁ (tag t k)) (own₂ (tag t k)) refl refl)
      where
        go : (k : Key t) (p q : Bool) → own₁ (tag t k) ≡ p → own₂ (tag t k) ≡ q → at (key_of t) (cmp t) k (c₂₁ t) ≡ at (key_of t) (cmp t) k (c₁₂ t)
        go k true q h g =
            let n : own₂ (tag t k) ≡ false = D₁ (tag t k) h in
            sym (same_at (key_of t) (cmp t) (linear t) (λ j. not (own₂ (tag t j))) (b₁ t) (c₂₁ t) (a₁ t) k (ap not n)) ∙ sym (mu.frame t k n)
        go k false true h g = mv.frame t k h ∙ same_at (key_of t) (cmp t) (linear t) (λ j. not (own₁ (tag t j))) (b₂ t) (c₁₂ t) (a₂ t) k (ap not h)
        go k false false h g = (mv.frame t k h ∙ y.frame t k g) ∙ sym (mu.frame t k g ∙ x.frame t k h)
