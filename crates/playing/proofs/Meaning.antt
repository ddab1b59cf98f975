-- What the promise of `play` comes to.
--     one_result                       any two results that it allows are the same
--     over-is-run · stopped-is-run     where nothing follows and the run ended, the lines are the whole run
--     play-comes                       a run comes from the browser before to the one behind
--     either_way                       where a read or a write failed, it holds as well
--     written-within · reasons         the lines lie within the buffer, and what was played within the text; why no more was played, so that a caller gets on: with more text, or with room for lines
use Rattle.std.specs.Prelude.{Result as Outcome, Ok, Err, OnErr}
use mathlib.Core.Path.{◌≡◌, refl, sym, ap, ap₂, subst, ◌∙◌}
use mathlib.Core.Bool.{Bool, true, false, cond}
use mathlib.Core.List.{List, [], ◌∷◌, ◌++◌, append-nil}
use Prim.Native.Nat.{ℕ, zero, suc, ◌+◌, ◌-◌, ◌≤◌, ◌<◌}
use native.Mathlib.Omega.{arith}
use borrow.Author.Tests.{leb-false}
use lib.Dec.{leb}
use lib.ListN.{length, take, drop, take-append-drop, length-append, length-take, length-drop}
use Rattle.csexp.specs.Limits.{item_bytes, item_levels}
use Rattle.shapes.specs.Texts.{item_in}
use Rattle.sorted.proofs.Never.{never}
use Rattle.wim.specs.Step.{Browser, Result}
use Rattle.wim.specs.Run.{performed, line_of, after, play}
use Rattle.wim.specs.Made.{RunsTo, begun}
use Rattle.wim.proofs.Made.{runs_on, runs_then}
use Rattle.browser.specs.View.{browser}
use Rattle.playing.specs.declared.looking.Halt.{Halt}
use Rattle.playing.specs.declared.looking.Halt.TheVariants.{Over, Stopped, Hungry, Crowded}
use Rattle.playing.specs.Portions.{Next}
use Rattle.std.specs.Prelude.{Ok as Item, Err as Nothing}
use Rattle.playing.specs.declared.portions.Played.{Played}
use Rattle.playing.specs.Lines.{line_bytes, last_line}
use Rattle.playing.specs.Portions.{unended, next_in, Portion, joined, portion_from, portion_of}
use Rattle.playing.specs.Plays.{saying, going_on, Plays}
use Rattle.playing.proofs.Firsts.{first-term}
use Rattle.playing.proofs.Nexts.{Lacks, full, broken, next-item, next-none}
use Rattle.playing.proofs.Running.{played_on, portion_step}

pub one_result : {text : List ℕ} {last : Bool} {m n out : List ℕ} {r s : Played} {k l out₁ out₂ : List ℕ} → browser m ≡ browser n → Plays text last m out r k out₁ → Plays text last n out s l out₂
    → (r.read ≡ s.read) × (r.written ≡ s.written) × (browser k ≡ browser l) × (r.halt ≡ s.halt) × (out₁ ≡ out₂)
one_result {text} {last} {m} {n} {out} {r} {s} {k} {l} {out₁} {out₂} e u v =
    let same : saying r k out₁ ≡ saying s l out₂ = u.tells ∙ ap (portion_of text last (length out)) e ∙ sym v.tells in
    let lines : take r.written out₁ ≡ take s.written out₂ = ap (λ (p : Portion). p.lines) same in
    let count : r.written ≡ s.written = u.counted ∙ ap length lines ∙ sym v.counted in (
      ap (λ (p : Portion). p.read) same,
      count,
      ap (λ (p : Portion). p.browser) same,
      ap (λ (p : Portion). p.halt) same,
      sym (take-append-drop r.written out₁)
          ∙ ap₂ (λ (x y : List ℕ). x ++ y) lines (u.behind ∙ ap (λ (n : ℕ). drop n out) count ∙ sym v.behind)
          ∙ take-append-drop s.written out₂,
    )

-- nothing follows, and the run ended
module _ {text m out : List ℕ} {r : Played} {k out₂ : List ℕ} (u : Plays text true m out r k out₂) where
  all_of_it : play text (browser m) ≡ take r.written out₂ ++ going_on r.halt (drop r.read text ++ []) (browser k)
  all_of_it = ap (λ (s : List ℕ). play s (browser m)) (sym (append-nil text)) ∙ u.run [] (λ _. refl)

  pub over-is-run : r.halt ≡ Over → play text (browser m) ≡ take r.written out₂
  over-is-run e = all_of_it ∙ ap (λ (h : Halt). take r.written out₂ ++ going_on h (drop r.read text ++ []) (browser k)) e ∙ append-nil (take r.written out₂)

  pub stopped-is-run : r.halt ≡ Stopped → play text (browser m) ≡ take r.written out₂
  stopped-is-run e = all_of_it ∙ ap (λ (h : Halt). take r.written out₂ ++ going_on h (drop r.read text ++ []) (browser k)) e ∙ append-nil (take r.written out₂)

pub written-within : {text : List ℕ} {last : Bool} {m out : List ℕ} {r : Played} {k out₂ : List ℕ} → Plays text last m out r k out₂ → r.written ≤ length out₂
written-within {text} {last} {m} {out} {r} {k} {out₂} u = let c = u.counted in let l = length-take r.written out₂ in omega arith

-- WHERE THE RUN COMES TO.
portion_comes : (k : ℕ) (s : List ℕ) (last : Bool) (room : ℕ) (b : Browser) → RunsTo b (portion_from k s last room b).browser
unfolding portion_from
portion_comes zero s last room b = begun
portion_comes (suc k) s last room b = go (next_in s last room) (λ n m c. portion_comes k (drop n s) last m c)
  where
    go : (x : Next) → ((n m : ℕ) (c : Browser) → RunsTo c (portion_from k (drop n s) last m c).browser) → RunsTo b (played_on k s last room b x).browser
    go (Item n) others = let r : Result = performed (item_in (take n s)) b in runs_then (runs_on (take n s) begun) (others n (room - length (line_of r)) (after b r))
    go (Nothing h) others = begun

pub play-comes : {text : List ℕ} {last : Bool} {m out : List ℕ} {r : Played} {k out₂ : List ℕ} → Plays text last m out r k out₂ → RunsTo (browser m) (browser k)
unfolding portion_of
play-comes {text} {last} {m} {out} u = subst (λ (p : Portion). RunsTo (browser m) p.browser) (sym u.tells) (portion_comes (suc (length text)) text last (length out) (browser m))

pub either_way : {T E P : Type 0} (r : Outcome T E) → P → OnErr r P
either_way (Ok x) p = tt
either_way (Err e) p = p

-- Where nothing was played, and yet a line may have no room, no line was written.
crowded_first : (k : ℕ) (s : List ℕ) (last : Bool) (room : ℕ) (b : Browser) → (portion_from (suc k) s last room b).read ≡ 0 → (portion_from (suc k) s last room b).halt ≡ Crowded → (portion_from (suc k) s last room b).lines ≡ []
crowded_first k s last room b =
    subst (λ (p : Portion). p.read ≡ 0 → p.halt ≡ Crowded → p.lines ≡ []) (sym (portion_step k s last room b)) (go (next_in s last room) refl)
  where
    go : (x : Next) → next_in s last room ≡ x → (played_on k s last room b x).read ≡ 0 → (played_on k s last room b x).halt ≡ Crowded → (played_on k s last room b x).lines ≡ []
    go (Item n) e none h = let some_bytes = (first-term item_bytes item_levels s n (next-item s last room e).whole).positive in absurd (omega arith)
    go (Nothing h) e none crowded = ap last_line crowded

pub crowded-none : {text : List ℕ} {last : Bool} {m out : List ℕ} {r : Played} {k out₂ : List ℕ} → Plays text last m out r k out₂ → r.read ≡ 0 → r.halt ≡ Crowded → r.written ≡ 0
unfolding portion_of
crowded-none {text} {last} {m} {out} {r} {k} {out₂} u none crowded =
    u.counted
    ∙ ap length (ap (λ (p : Portion). p.lines) u.tells ∙ crowded_first (length text) text last (length out) (browser m) (sym (ap (λ (p : Portion). p.read) u.tells) ∙ none) (sym (ap (λ (p : Portion). p.halt) u.tells) ∙ crowded))

-- WHY NO MORE WAS PLAYED.
pub record Reasons (s : List ℕ) (last : Bool) (room : ℕ) (halt : Halt) (read written : ℕ) : Type 0 where
  pub over : halt ≡ Over → (last ≡ true) × (length s ≤ read)
  pub hungry : halt ≡ Hungry → (last ≡ false) × (length s < read + item_bytes)
  pub crowded : halt ≡ Crowded → room < written + line_bytes
  pub within : read ≤ length s

module _ (s : List ℕ) (last : Bool) (room : ℕ) where
  none_left : {h : Halt} (n : ℕ) → Lacks s last room h → Reasons s last room h 0 n
  none_left n (full l) = record { over = λ e. never (cc); hungry = λ e. never (cc); crowded = λ e. omega arith; within = omega arith }
  none_left n (broken l e) = go s last
    where
      by : (c : Bool) (x : ℕ) (s : List ℕ) → leb item_bytes (length (x ∷ s)) ≡ c → Reasons (x ∷ s) false room (cond c Stopped Hungry) 0 n
      by true x s q = record { over = λ e. never (cc); hungry = λ e. never (cc); crowded = λ e. never (cc); within = omega arith }
      by false x s q = let less = leb-false item_bytes (length (x ∷ s)) q in record { over = λ e. never (cc); hungry = λ e. (refl, omega arith); crowded = λ e. never (cc); within = omega arith }

      go : (s : List ℕ) (last : Bool) → Reasons s last room (unended s last) 0 n
      go [] true = record { over = λ e. (refl, omega arith); hungry = λ e. never (cc); crowded = λ e. never (cc); within = omega arith }
      go [] false = record { over = λ e. never (cc); hungry = λ e. (refl, omega arith); crowded = λ e. never (cc); within = omega arith }
      go (x ∷ s) true = record { over = λ e. never (cc); hungry = λ e. never (cc); crowded = λ e. never (cc); within = omega arith }
      go (x ∷ s) false = by (leb item_bytes (length (x ∷ s))) x s refl

abbrev ReasonsOf : List ℕ → Bool → ℕ → Portion → Type 0
ReasonsOf s last room p = Reasons s last room p.halt p.read (length p.lines)

-- an item more before it
one_more : (s : List ℕ) (last : Bool) (room n : ℕ) (l : List ℕ) (p : Portion) → n ≤ length s → ReasonsOf (drop n s) last (room - length l) p → ReasonsOf s last room (joined n l p)
one_more s last room n l p h r =
    let few = length-drop n s in
    let all = length-append l p.lines in
    record {
      over = λ e. let x = r.over e in let y = x.1 in (x.0, omega arith);
      hungry = λ e. let x = r.hungry e in let y = x.1 in (x.0, omega arith);
      crowded = λ e. let x = r.crowded e in omega arith;
      within = let x = r.within in omega arith;
    }

portion_reasons : (k : ℕ) (s : List ℕ) (last : Bool) (room : ℕ) (b : Browser) → length s < k → ReasonsOf s last room (portion_from k s last room b)
portion_reasons zero s last room b h = absurd (omega arith)
portion_reasons (suc k) s last room b h =
    subst (ReasonsOf s last room) (sym (portion_step k s last room b)) (go (next_in s last room) refl (λ n m c l. portion_reasons k (drop n s) last m c l))
  where
    go : (x : Next) → next_in s last room ≡ x → ((n m : ℕ) (c : Browser) → length (drop n s) < k → ReasonsOf (drop n s) last m (portion_from k (drop n s) last m c))
        → ReasonsOf s last room (played_on k s last room b x)
    go (Item n) e others =
        let f = first-term item_bytes item_levels s n (next-item s last room e).whole in
        let some_bytes = f.positive in
        let inside = f.within in
        let few = length-drop n s in
        let r : Result = performed (item_in (take n s)) b in
        one_more s last room n (line_of r) (portion_from k (drop n s) last (room - length (line_of r)) (after b r)) inside (others n (room - length (line_of r)) (after b r) (omega arith))
    go (Nothing h) e others = none_left s last room _ (next-none s last room e)

pub reasons : {text : List ℕ} {last : Bool} {m out : List ℕ} {r : Played} {k out₂ : List ℕ} → Plays text last m out r k out₂ → Reasons text last (length out) r.halt r.read r.written
unfolding portion_of
reasons {text} {last} {m} {out} {r} {k} {out₂} u =
    subst (λ (n : ℕ). Reasons text last (length out) r.halt r.read n) (sym u.counted)
    (subst (ReasonsOf text last (length out)) (sym u.tells) (portion_reasons (suc (length text)) text last (length out) (browser m) (omega arith)))
