-- Headers in any order, each at most once, read by a loop.
--     barred · free     a header that is there already, one that is not
--     ended · counted   the headers behind those of h: none, one more
use mathlib.Core.Path.{◌≡◌, refl, ap, ◌∙◌}
use mathlib.Core.Bool.{Bool, true, false, cond}
use mathlib.Core.List.{List}
use Rattle.std.specs.Prelude.{Option, None as none, Some as some, option_map, option_and_then}
use Rattle.std.specs.Option.{option_or}
use Prim.Native.Nat.{ℕ}
use Rattle.csexp.specs.Term.{Term}
use Rattle.csexp.specs.declared.At.{At}
use Rattle.csexp.specs.At.{ends, term_at, mark_at}
use Rattle.csexp.specs.Decode.{Decoder, one}
use Rattle.csexp.specs.Answers.{decode, value_at, fields_at}
use Rattle.csexp.proofs.Places.{at_many}
use Rattle.csexp.proofs.Steps.{opened, passed, closed, mapped, meant, chosen, forward}
use Rattle.shapes.specs.Nouns.{Headers}
use Rattle.shapes.specs.Items.{unless, one_header_of, more_headers}

pub once : {A : Type 0} (s : List ℕ) (at : ℕ) (b : Bool) (d : Decoder A) → value_at (unless b d) s at ≡ cond b none (value_at d s at)
unfolding value_at unless
once {A} s at b d = go b (term_at s at)
  where
    go : (x : Bool) (m : Option (At Term)) → decode (unless x d) m ≡ cond x none (decode d m)
    go true none = refl
    go true (some t) = refl
    go false none = refl
    go false (some t) = refl

pub once_free : {A : Type 0} (s : List ℕ) (at : ℕ) {b : Bool} (d : Decoder A) → b ≡ false → value_at (unless b d) s at ≡ value_at d s at
once_free s at {b} d e = once s at b d ∙ ap (λ (x : Bool). cond x none (value_at d s at)) e

-- the fields that stand behind the headers of h: none, or one header more and those behind it
pub counted : (s : List ℕ) (p : ℕ) (h : Headers)
    → fields_at (more_headers h) s p ≡ option_or (option_map (λ q. ends h q) (mark_at 41 s p)) (option_and_then (λ a. fields_at (more_headers a.value) s a.next) (value_at (one_header_of h) s p))
unfolding fields_at more_headers one
counted s p h =
    at_many s p (more_headers h) (one (one_header_of h) more_headers) h refl refl (λ t ts. refl)
    ∙ ap (option_or (option_map (λ q. ends h q) (mark_at 41 s p))) (passed s p (one_header_of h) more_headers)

-- one header; the loop over them
pub ruleset heading = (opened, passed, closed, mapped, meant, chosen, once)

pub ruleset turns = (counted, forward)
