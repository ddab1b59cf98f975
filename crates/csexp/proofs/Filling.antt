-- A list of at most `room` terms, read into an array by a loop: what the loop's invariant says, and a law for each thing that a turn does.
--     begun · done · full · broken · more
use mathlib.Core.Path.{◌≡◌, refl, sym, ap, ap₂, subst, ◌∙◌}
use mathlib.Core.List.{List, [], ◌∷◌, ◌++◌, append-nil}
use Rattle.std.specs.Prelude.{Option, None as none, Some as some, option_map, option_and_then}
use Rattle.std.specs.Option.{option_or}
use Prim.Native.Nat.{ℕ, zero, suc, ◌+◌, ◌-◌, ◌≤◌, ◌<◌}
use native.Mathlib.Omega.{arith}
use native.Mathlib.Numerals.{add-one}
use native.Mathlib.Nat.{sub-zero}
use lib.ListN.{length, take, set, length-set}
use lib.Seq.{take-suc-set, append_snoc}
use Rattle.csexp.specs.declared.At.{At}
use Rattle.csexp.specs.At.{ends, mark_at}
use Rattle.csexp.specs.Decode.{Decoder, up_to}
use Rattle.csexp.specs.Answers.{value_at, fields_at}
use Rattle.csexp.proofs.Steps.{full_at, counted}

-- what was found, with these before it
abbrev pub behind_these : {A : Type 0} → List A → Option (At (List A)) → Option (At (List A))
behind_these front m = option_map (λ l. ends (front ++ l.value) l.next) m

abbrev with_one : {A : Type 0} → At A → Option (At (List A)) → Option (At (List A))
with_one a m = option_map (λ l. ends (a.value ∷ l.value) l.next) m

-- `count` terms from p₀ on stand in `items`, and the others stand from p on
pub record Filling {A : Type 0} (d : Decoder A) (room : ℕ) (s : List ℕ) (p₀ : ℕ) (items : List A) (count p : ℕ) : Type 0 where
  pub fits : count ≤ room
  pub long : length items ≡ room
  pub go_on : fields_at (up_to room d) s p₀ ≡ behind_these (take count items) (fields_at (up_to (room - count) d) s p)

pub begun : {A : Type 0} {d : Decoder A} {room : ℕ} {s : List ℕ} {p : ℕ} {items : List A} → length items ≡ room → Filling d room s p items 0 p
begun {A} {d} {room} {s} {p} {items} e = record {
  fits = omega arith;
  long = e;
  go_on = go (fields_at (up_to room d) s p) ∙ ap (λ (n : ℕ). behind_these (take 0 items) (fields_at (up_to n d) s p)) (sym (sub-zero room));
}
  where
    go : (m : Option (At (List A))) → m ≡ behind_these [] m
    go none = refl
    go (some l) = refl

module _ {A : Type 0} {d : Decoder A} {room : ℕ} {s : List ℕ} {p₀ : ℕ} {items : List A} {count p : ℕ} where
  pub done : {e : ℕ} → Filling d room s p₀ items count p → mark_at 41 s p ≡ some e → fields_at (up_to room d) s p₀ ≡ some (ends (take count items) e)
  done {e} f m =
      f.go_on ∙ ap (behind_these (take count items)) (here (room - count)) ∙ ap (λ (l : List A). some (ends l e)) (append-nil (take count items))
    where
      here : (n : ℕ) → fields_at (up_to n d) s p ≡ some (ends [] e)
      here zero = full_at s p d ∙ ap (option_map (λ q. ends [] q)) m
      here (suc n) =
          counted s p n d
          ∙ ap (λ (m : Option ℕ). option_or (option_map (λ q. ends [] q) m) (option_and_then (λ a. with_one a (fields_at (up_to n d) s a.next)) (value_at d s p))) m

  -- there is no room for what stands here
  pub full : Filling d room s p₀ items count p → mark_at 41 s p ≡ none → count ≡ room → fields_at (up_to room d) s p₀ ≡ none
  full f m all =
      f.go_on
      ∙ ap (λ (n : ℕ). behind_these (take count items) (fields_at (up_to n d) s p)) (let z : room - count ≡ 0 = omega arith in z)
      ∙ ap (behind_these (take count items)) (full_at s p d ∙ ap (option_map (λ q. ends [] q)) m)

  one_more : {v : Option (At A)} → Filling d room s p₀ items count p → mark_at 41 s p ≡ none → count < room → value_at d s p ≡ v
      → fields_at (up_to room d) s p₀ ≡ behind_these (take count items) (option_and_then (λ a. with_one a (fields_at (up_to (room - (count + 1)) d) s a.next)) v)
  one_more f m room_for r =
      f.go_on
      ∙ ap (behind_these (take count items))
      (ap (λ (n : ℕ). fields_at (up_to n d) s p) (let e : room - count ≡ suc (room - (count + 1)) = omega arith in e)
      ∙ counted s p (room - (count + 1)) d
      ∙ ap₂ (λ (m : Option ℕ) (v : Option (At A)). option_or (option_map (λ q. ends [] q) m) (option_and_then (λ a. with_one a (fields_at (up_to (room - (count + 1)) d) s a.next)) v)) m r)

  pub broken : Filling d room s p₀ items count p → mark_at 41 s p ≡ none → count < room → value_at d s p ≡ none → fields_at (up_to room d) s p₀ ≡ none
  broken f m room_for r = one_more f m room_for r

  pub more : {a : At A} → Filling d room s p₀ items count p → mark_at 41 s p ≡ none → count < room → value_at d s p ≡ some a
      → Filling d room s p₀ (set items count a.value) (count + 1) a.next
  more {a} f m room_for r = record {
    fits = omega arith;
    long = length-set items count a.value ∙ f.long;
    go_on = one_more f m room_for r ∙ grown (fields_at (up_to (room - (count + 1)) d) s a.next);
  }
    where
      fit : count < length items
      fit = subst (λ (k : ℕ). count < k) (sym f.long) room_for

      longer : (vs : List A) → take count items ++ (a.value ∷ vs) ≡ take (count + 1) (set items count a.value) ++ vs
      longer vs =
          sym (ap (λ (k : ℕ). take k (set items count a.value) ++ vs) (add-one count)
          ∙ ap (λ (l : List A). l ++ vs) (take-suc-set items count a.value fit)
          ∙ append_snoc (take count items) a.value vs)

      grown : (m : Option (At (List A))) → behind_these (take count items) (with_one a m) ≡ behind_these (take (count + 1) (set items count a.value)) m
      grown none = refl
      grown (some l) = ap (λ (vs : List A). some (ends vs l.next)) (longer l.value)
