-- How a run goes, and that a portion's lines are its first.
--     play-whole · play_broken     an item and then the others; refusal 1
--     portion_run                  the lines of a portion stand first in the run, whatever follows it
use mathlib.Core.Path.{◌≡◌, refl, sym, ap, ap₂, ◌∙◌}
use mathlib.Core.Bool.{Bool, true, false, cond}
use mathlib.Core.List.{List, [], ◌∷◌, ◌++◌, append_assoc, append-nil}
use Prim.Native.Nat.{ℕ, zero, suc, ◌-◌, ◌≤◌, ◌<◌}
use native.Mathlib.Omega.{arith}
use borrow.Author.Tests.{leb-true}
use lib.Dec.{leb}
use lib.ListN.{length, take, drop, length-drop}
use lib.Seq.{take-append-le, drop-append-le, drop-drop}
use Rattle.csexp.specs.Limits.{Ending}
use Rattle.std.specs.Prelude.{Some as Whole, None as Broken}
use Rattle.csexp.specs.Term.{decimal}
use Rattle.csexp.specs.Limits.{item_bytes, item_levels, ending_of}
use Rattle.types.specs.declared.refusals.Refusal.TheVariants.{BadText}
use Rattle.shapes.specs.Texts.{item_in}
use Rattle.wim.specs.Step.{refusal_number, Browser, Result}
use Rattle.wim.specs.Run.{line, performed, line_of, after, play_from, play}
use Rattle.playing.specs.declared.looking.Halt.{Halt}
use Rattle.playing.specs.declared.looking.Halt.TheVariants.{Stopped, Hungry}
use Rattle.playing.specs.Portions.{Next}
use Rattle.std.specs.Prelude.{Ok as Item, Err as Nothing}
use Rattle.playing.specs.Lines.{last_line}
use Rattle.playing.specs.Portions.{unended, next_in, Portion, halted, joined, portion_from}
use Rattle.playing.specs.Plays.{going_on}
use Rattle.playing.proofs.Firsts.{First, first-term, whole_grows, broken_stays}
use Rattle.playing.proofs.Nexts.{Lacks, full, broken, next-item, next-none}

-- RUNS.
abbrev one : List ℕ
one = line (decimal (refusal_number BadText))

-- what a run prints whose first term ends so
abbrev printed : ℕ → List ℕ → Browser → Ending → List ℕ
printed k s b e =
    elim e as (λ _. List ℕ) [
      | Whole p ↦ (let r = performed (item_in (take p s)) b in line_of r ++ play_from k (drop p s) (after b r))
      | Broken ↦ one
    ]

playing : (k x : ℕ) (s : List ℕ) (b : Browser) → play_from (suc k) (x ∷ s) b ≡ printed k (x ∷ s) b (ending_of item_bytes item_levels (x ∷ s) 0)
unfolding play_from
playing k x s b = refl

first : (s : List ℕ) (p : ℕ) → ending_of item_bytes item_levels s 0 ≡ Whole p → First item_bytes item_levels s p
first s p e = first-term item_bytes item_levels s p e

-- behind an item less is left
shorter : (s : List ℕ) (p k : ℕ) → ending_of item_bytes item_levels s 0 ≡ Whole p → length s ≤ suc k → length (drop p s) ≤ k
shorter s p k e h = let f = first s p e in let a = f.positive in let l = length-drop p s in omega arith

none_left : (k : ℕ) (b : Browser) → play_from k [] b ≡ []
unfolding play_from
none_left zero b = refl
none_left (suc k) b = refl

play-none : (b : Browser) → play [] b ≡ []
unfolding play
play-none b = none_left 0 b

-- the count of items does not matter where it is large enough
play-same : (k j : ℕ) (s : List ℕ) (b : Browser) → length s ≤ k → length s ≤ j → play_from k s b ≡ play_from j s b
play-same zero j [] b hk hj = none_left zero b ∙ sym (none_left j b)
play-same zero j (x ∷ s) b hk hj = absurd (omega arith)
play-same (suc k) j [] b hk hj = none_left (suc k) b ∙ sym (none_left j b)
play-same (suc k) zero (x ∷ s) b hk hj = absurd (omega arith)
play-same (suc k) (suc j) (x ∷ s) b hk hj =
    playing k x s b ∙ go (ending_of item_bytes item_levels (x ∷ s) 0) refl (λ p c l m. play-same k j (drop p (x ∷ s)) c l m) ∙ sym (playing j x s b)
  where
    go : (e : Ending) → ending_of item_bytes item_levels (x ∷ s) 0 ≡ e
        → ((p : ℕ) (c : Browser) → length (drop p (x ∷ s)) ≤ k → length (drop p (x ∷ s)) ≤ j → play_from k (drop p (x ∷ s)) c ≡ play_from j (drop p (x ∷ s)) c)
        → printed k (x ∷ s) b e ≡ printed j (x ∷ s) b e
    go (Whole p) q others =
        ap (λ (l : List ℕ). line_of (performed (item_in (take p (x ∷ s))) b) ++ l) (others p (after b (performed (item_in (take p (x ∷ s))) b)) (shorter (x ∷ s) p k q hk) (shorter (x ∷ s) p j q hj))
    go Broken q others = refl

pub play_broken : (x : ℕ) (s : List ℕ) (b : Browser) → ending_of item_bytes item_levels (x ∷ s) 0 ≡ Broken → play (x ∷ s) b ≡ one
unfolding play
play_broken x s b e = playing (length s) x s b ∙ ap (printed (length s) (x ∷ s) b) e

pub play-whole : (s : List ℕ) (p : ℕ) (b : Browser) → ending_of item_bytes item_levels s 0 ≡ Whole p
    → play s b ≡ line_of (performed (item_in (take p s)) b) ++ play (drop p s) (after b (performed (item_in (take p s)) b))
unfolding play
play-whole [] p b e = let f = first [] p e in let a = f.positive in let w = f.within in absurd (omega arith)
play-whole (x ∷ s) p b e =
    playing (length s) x s b
    ∙ ap (printed (length s) (x ∷ s) b) e
    ∙ ap (λ (l : List ℕ). line_of (performed (item_in (take p (x ∷ s))) b) ++ l)
    (play-same (length s) (length (drop p (x ∷ s))) (drop p (x ∷ s)) (after b (performed (item_in (take p (x ∷ s))) b)) (shorter (x ∷ s) p (length s) e (omega arith)) (omega arith))

-- PORTIONS.
-- no item is played any more
halts : (s more : List ℕ) (last : Bool) {room : ℕ} {h : Halt} (b : Browser) → Lacks s last room h → (last ≡ true → more ≡ []) → play (s ++ more) b ≡ last_line h ++ going_on h (s ++ more) b
halts s more last b (full l) f = refl
halts s more last b (broken l e) f = go s last f e
  where
    ends : (c : Bool) (x : ℕ) (s : List ℕ) → leb item_bytes (length (x ∷ s)) ≡ c → ending_of item_bytes item_levels (x ∷ s) 0 ≡ Broken
        → play ((x ∷ s) ++ more) b ≡ last_line (cond c Stopped Hungry) ++ going_on (cond c Stopped Hungry) ((x ∷ s) ++ more) b
    ends true x s q e = play_broken x (s ++ more) b (broken_stays item_bytes item_levels (x ∷ s) more (leb-true item_bytes (length (x ∷ s)) q) e) ∙ sym (append-nil one)
    ends false x s q e = refl

    go : (s : List ℕ) (last : Bool) → (last ≡ true → more ≡ []) → ending_of item_bytes item_levels s 0 ≡ Broken
        → play (s ++ more) b ≡ last_line (unended s last) ++ going_on (unended s last) (s ++ more) b
    go [] true f e = ap (λ (x : List ℕ). play x b) (f refl) ∙ play-none b
    go [] false f e = refl
    go (x ∷ s) true f e =
        ap (λ (l : List ℕ). play ((x ∷ s) ++ l) b) (f refl) ∙ ap (λ (l : List ℕ). play l b) (append-nil (x ∷ s)) ∙ play_broken x s b e ∙ sym (append-nil one)
    go (x ∷ s) false f e = ends (leb item_bytes (length (x ∷ s))) x s refl e

-- the lines of a portion, and how the run goes on behind it
abbrev pub shown : List ℕ → List ℕ → Portion → List ℕ
shown s more p = p.lines ++ going_on p.halt (drop p.read s ++ more) p.browser

abbrev pub played_on : ℕ → List ℕ → Bool → ℕ → Browser → Next → Portion
played_on k s last room b x =
    elim x as (λ _. Portion) [
      | Item n ↦ (let r = performed (item_in (take n s)) b in joined n (line_of r) (portion_from k (drop n s) last (room - length (line_of r)) (after b r)))
      | Nothing h ↦ halted h b
    ]

pub portion_step : (k : ℕ) (s : List ℕ) (last : Bool) (room : ℕ) (b : Browser) → portion_from (suc k) s last room b ≡ played_on k s last room b (next_in s last room)
unfolding portion_from
portion_step k s last room b = refl

pub portion_run : (k : ℕ) (s more : List ℕ) (last : Bool) (room : ℕ) (b : Browser) → length s < k → (last ≡ true → more ≡ [])
    → play (s ++ more) b ≡ shown s more (portion_from k s last room b)
portion_run zero s more last room b h f = absurd (omega arith)
portion_run (suc k) s more last room b h f =
    go (next_in s last room) refl (λ n room c l. portion_run k (drop n s) more last room c l f) ∙ ap (shown s more) (sym (portion_step k s last room b))
  where
    go : (x : Next) → next_in s last room ≡ x
        → ((n room : ℕ) (c : Browser) → length (drop n s) < k → play (drop n s ++ more) c ≡ shown (drop n s) more (portion_from k (drop n s) last room c))
        → play (s ++ more) b ≡ shown s more (played_on k s last room b x)
    go (Item n) e others =
        let w = (next-item s last room e).whole in
        let f = first s n w in
        let within = f.within in
        let some_bytes = f.positive in
        let left = length-drop n s in
        let r : Result = performed (item_in (take n s)) b in
        let p : Portion = portion_from k (drop n s) last (room - length (line_of r)) (after b r) in
        play-whole (s ++ more) n b (whole_grows item_bytes item_levels s more n w)
        ∙ ap₂ (λ (item left : List ℕ). line_of (performed (item_in item) b) ++ play left (after b (performed (item_in item) b))) (take-append-le n s more within) (drop-append-le n s more within)
        ∙ ap (λ (l : List ℕ). line_of r ++ l) (others n (room - length (line_of r)) (after b r) (omega arith))
        ∙ sym (append_assoc (line_of r) p.lines (going_on p.halt (drop p.read (drop n s) ++ more) p.browser))
        ∙ ap (λ (l : List ℕ). (line_of r ++ p.lines) ++ going_on p.halt (l ++ more) p.browser) (drop-drop p.read n s)
    go (Nothing h) e others = halts s more last b (next-none s last room e) f
