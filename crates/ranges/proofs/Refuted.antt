-- Rows that no range lets in: 0 stands for none, so it is no number, no place and no stored value of a row.
use mathlib.Core.Path.{◌≡◌, refl}
use Prim.Native.Nat.{ℕ, ◌≤◌}
use native.Mathlib.Omega.{arith}
use Rattle.wim.specs.Nouns.{Origin, Posted, Window, Document, Stored, StrictHost}
use Rattle.wim.specs.Ranges.{WindowIn, DocumentIn, StoredIn, NewsIn, StrictHostIn}

pub record ZeroIsNone : Type 0 where
  pub no-window-zero : (r : Window) → r.number.0 ≡ 0 → WindowIn r → ⊥
  pub no-document-zero : (d : Document) → d.number.0 ≡ 0 → DocumentIn d → ⊥
  pub no-place-zero : (d : Document) → d.place ≡ 0 → DocumentIn d → ⊥
  pub no-value-zero : (v : Stored) → v.0 ≡ 0 → StoredIn v → ⊥
  pub no_sender_zero : (o : Origin) (message : ℕ) → NewsIn (Posted (record { 0 = 0 }) o message) → ⊥
  pub no-host-zero : (r : StrictHost) → r.host.0 ≡ 0 → StrictHostIn r → ⊥

below_one : (n : ℕ) → n ≡ 0 → 1 ≤ n → ⊥
below_one n e h = omega arith

pub zero-is-none : ZeroIsNone
zero-is-none = record {
  no-window-zero = λ r e i. below_one r.number.0 e i.number.low;
  no-document-zero = λ d e i. below_one d.number.0 e i.number.low;
  no-place-zero = λ d e i. below_one d.place e i.place;
  no-value-zero = λ v e i. below_one v.0 e i.low;
  no_sender_zero = λ o message i. below_one 0 refl i.0.low;
  no-host-zero = λ r e i. below_one r.host.0 e i.host.low;
}
