-- Demand 3 in a player's run.
use mathlib.Core.Path.{◌≡◌, refl, ◌∙◌, ap}
use mathlib.Core.Bool.{Bool, true, false, cond}
use mathlib.Core.List.{List, [], ◌∷◌, ◌++◌}
use Rattle.std.specs.Prelude.{Option}
use Prim.Native.Nat.{ℕ, suc, ◌+◌, ◌-◌, ◌≤◌}
use native.Mathlib.Omega.{arith}
use lib.ListN.{length, take, drop, length-append}
use lib.Seq.{take_at, drop_at}
use Rattle.csexp.specs.Term.{decimal, write}
use Rattle.csexp.specs.Read.{read}
use Rattle.csexp.specs.Limits.{Ending}
use Rattle.std.specs.Prelude.{Some as Whole, None as Broken}
use Rattle.csexp.specs.Limits.{item_bytes, item_levels, ending_of, whole_of}
use Rattle.csexp.proofs.Meaning.{whole-is-written, written-is-ending}
use Rattle.csexp.proofs.Points.{point_3_empty}
use Rattle.sorted.proofs.Never.{never}
use Rattle.shapes.specs.Texts.{unread, item, taken, item_in}
use Rattle.shapes.specs.Events.{Message}
use Rattle.wim.specs.Nouns.{Item, BadText}
use Rattle.wim.specs.Step.{refusal_number, Browser, Result, accepted, step}
use Rattle.wim.specs.Run.{event_line, line, performed, line_of, after, play_from, play}
use Rattle.either_order.specs.Statement.{EitherOrderInARun}
use Rattle.either_order.proofs.EitherOrder.{either_order}
use Rattle.either_order.proofs.FewCookies.{few-read}

-- AN ITEM'S TEXT is whole, and not empty.
item-whole : (s : List ℕ) (i : Item) → item_in s ≡ item i → whole_of item_bytes item_levels s ≡ true
unfolding item_in
item-whole s i e = go (whole_of item_bytes item_levels s) e
  where
    go : (c : Bool) → cond c (taken (read s)) (unread BadText) ≡ item i → c ≡ true
    go true h = refl
    go false h = never (cc)

not_empty : (s : List ℕ) (i : Item) → item_in s ≡ item i → 1 ≤ length s
not_empty [] i e = let w : whole_of item_bytes item_levels [] ≡ true = item-whole [] i e in let z : whole_of item_bytes item_levels [] ≡ false = point_3_empty in never (cc)
not_empty (x ∷ s) i e = omega arith

-- before whatever follows, the first term ends where it ends
item-ends : (s : List ℕ) (i : Item) → item_in s ≡ item i → (r : List ℕ) → ending_of item_bytes item_levels (s ++ r) 0 ≡ Whole (length (s ++ r) - length r)
item-ends s i e r =
    let w = whole-is-written item_bytes item_levels s (item-whole s i e) in
    let fits : length (write w.0) ≤ item_bytes = (let z : length s ≡ length (write w.0) = ap length w.1 in let y = w.2 in omega arith) in
    written-is-ending item_bytes item_levels (s ++ r) 0 w.0 r (ap (λ (l : List ℕ). l ++ r) w.1) fits w.3

-- ONE TURN OF A RUN.
abbrev turn : ℕ → List ℕ → Browser → Ending → List ℕ
turn n l b e =
    elim e as (λ _. List ℕ) [
      | Whole p ↦ (let r = performed (item_in (take p l)) b in line_of r ++ play_from n (drop p l) (after b r))
      | Broken ↦ line (decimal (refusal_number BadText))
    ]

turns : (n x : ℕ) (l : List ℕ) (b : Browser) → play_from (suc n) (x ∷ l) b ≡ turn n (x ∷ l) b (ending_of item_bytes item_levels (x ∷ l) 0)
unfolding play_from
turns n x l b = refl

play-item : (n : ℕ) (s : List ℕ) (i : Item) → item_in s ≡ item i → (r : List ℕ) (b : Browser) → play_from (suc n) (s ++ r) b ≡ line_of (step i b) ++ play_from n r (after b (step i b))
play-item n [] i e r b = let z = not_empty [] i e in absurd (omega arith)
play-item n (x ∷ s) i e r b =
    turns n x (s ++ r) b ∙ (ap (turn n l b) (item-ends (x ∷ s) i e r)
    ∙ (λ k. line_of (performed (read_again k) b) ++ play_from n (left k) (after b (performed (read_again k) b))))
  where
    l : List ℕ
    l = x ∷ (s ++ r)

    p : ℕ
    p = length l - length r

    ends : length (x ∷ s) ≡ p
    ends = let z = length-append (x ∷ s) r in omega arith

    read_again : item_in (take p l) ≡ item i
    read_again = ap item_in (take_at (x ∷ s) r p ends) ∙ e

    left : drop p l ≡ r
    left = drop_at (x ∷ s) r p ends

-- two items and the rest
play-two : (s u : List ℕ) (i j : Item) → item_in s ≡ item i → item_in u ≡ item j → (r : List ℕ) (b c d : Browser) (m k : Option Message) → step i b ≡ accepted c m → step j c ≡ accepted d k
    → (n : ℕ) → length s + (length u + length r) ≡ suc (suc n) → play (s ++ (u ++ r)) b ≡ line (event_line m) ++ (line (event_line k) ++ play_from n r d)
unfolding play
play-two s u i j es eu r b c d m k p q n h =
    ap (λ (x : ℕ). play_from x (s ++ (u ++ r)) b) long ∙ (play-item (suc n) s i es (u ++ r) b ∙ (ap (λ (x : Result). line_of x ++ play_from (suc n) (u ++ r) (after b x)) p
    ∙ ap (λ (x : List ℕ). line (event_line m) ++ x) (play-item n u j eu r c ∙ ap (λ (x : Result). line_of x ++ play_from n r (after c x)) q)))
  where
    long : length (s ++ (u ++ r)) ≡ suc (suc n)
    long = let z = length-append s (u ++ r) in let y = length-append u r in omega arith

pub either_order_in_a_run : EitherOrderInARun
either_order_in_a_run b R free s u i j ri rj li lj A bi bj mi mj ei ej r =
    let z = either_order b R free i j (record { kind = li; cookies = few-read s i ri }) (record { kind = lj; cookies = few-read u j rj }) A bi bj mi mj ei ej in
    let n : ℕ = (length s + (length u + length r)) - 2 in
    let x = not_empty s i ri in
    let y = not_empty u j rj in
    (play_from n r z.0, play-two s u i j ri rj r b bi z.0 mi mj ei z.1 n (omega arith), play-two u s j i rj ri r b bj z.0 mj mi ej z.2 n (omega arith))
