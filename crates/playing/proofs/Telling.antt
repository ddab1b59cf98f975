-- What a turn tells, and what the turns tell together.
--     turned-over · turned-crowded · turned-hungry     a turn, by why no more was played
--     Goes · going · goes-begun · goes-turned · goes-over · goes-out      the run so far: at its beginning, a turn later, where it is over, and where no turn is left
use Rattle.std.proofs.Common.{◌≡◌, ℕ, zero, suc, ◌+◌, ◌-◌, ◌*◌, ◌^◌, ◌<◌, ◌≤◌, Bool, true, false, cond, nat_eq, List, [], ◌∷◌, ◌++◌, Option, None, Some, length, take, drop, refl, sym, ap, ap₂, subst, ◌∙◌, arith, append_assoc, append-nil, length-append, length-take-le, length-drop, take-add, take_all, ◌⊎◌, inl, inr}
use Rattle.std.proofs.lemmas.List.{drop-take, take-append-le}
use Rattle.std.specs.Io.KnownBytes.{Appends, Consumes, IsAtEnd}
use Rattle.std.proofs.KnownBytes.{Appends-nil, Appends-trans}
use Rattle.csexp.specs.Limits.{item_bytes}
use Rattle.std.proofs.lemmas.Bool.{eqb-true}
use Rattle.wim.specs.Step.{Browser, empty_browser}
use Rattle.wim.specs.Run.{play_from, play}
use Rattle.browser.specs.View.{browser}
use Rattle.playing.specs.declared.looking.Halt.{Halt}
use Rattle.playing.specs.declared.looking.Halt.TheVariants.{Over, Stopped, Hungry, Crowded}
use Rattle.playing.specs.declared.portions.Played.{Played}
use Rattle.playing.specs.declared.window.Run.{Run}
use Rattle.playing.specs.Lines.{line_bytes}
use Rattle.playing.specs.Plays.{going_on, Plays}
use Rattle.playing.specs.Keeps.{Keeps}
use Rattle.playing.specs.Told.{spoken, left, Ended, ahead, Tells, Turned, Told}
use Rattle.playing.proofs.Meaning.{reasons, crowded-none}

-- what is held behind what was played stands at the front of the window
kept-front : {window : List ℕ} {from to : ℕ} {window₂ : List ℕ} {n : ℕ} → Keeps window from to window₂ n → from ≤ to → to ≤ length window → take n window₂ ≡ drop from (take to window)
kept-front {window} {from} {to} {window₂} {n} k h room =
    let count = k.count in
    let few : length (drop from window) ≡ length window - from = length-drop from window in
    let long : length (take n (drop from window)) ≡ n = length-take-le n (drop from window) (omega arith) in
    let whole : from + n ≡ to = omega arith in
    ap (take n) k.moved
    ∙ take-append-le n (take n (drop from window)) (drop n window) (omega arith)
    ∙ take_all n (take n (drop from window)) (omega arith)
    ∙ sym (drop-take from n window)
    ∙ ap (λ (t : ℕ). drop from (take t window)) whole

one_bit : (b : Bool) → cond b 0 1 ≤ 1
one_bit true = omega arith
one_bit false = omega arith

-- what was played was held
played_held : (window : List ℕ) (held : ℕ) {m out : List ℕ} {last : Bool} {r : Played} {k out₂ : List ℕ} → Plays (take held window) last m out r k out₂ → held ≤ length window → r.read ≤ held
played_held window held u h = let within = (reasons u).within in let long = length-take-le held window h in omega arith

module _ (loud : Bool) (room : ℕ) (old new : Option (List ℕ)) (run : Run) {window m out : List ℕ} {r : Played} {k out₂ window₂ : List ℕ} {n : ℕ}
    (u : Plays (take run.held window) run.last m out r k out₂)
    (written : Appends old new (spoken loud (take r.written out₂)))
    (kept : Keeps window r.read run.held window₂ n)
    (held : run.held ≤ length window)
  where
    inside : r.read ≤ run.held
    inside = played_held window run.held u held

    pub turned-over : ((s : List ℕ) (b : Browser) → going_on r.halt s b ≡ []) → (before : Option (List ℕ)) → Turned loud room old new run window m before (record { held = n; last = run.last; over = true }) window₂ k before
    turned-over none None = tt
    turned-over none (Some rest) = λ ended wide line. (
      rest,
      (
        refl,
        record {
          lines = take r.written out₂;
          written = written;
          goes_on = u.run rest ended ∙ ap (λ (l : List ℕ). take r.written out₂ ++ l) (none (drop r.read (take run.held window) ++ rest) (browser k));
          ended = ended;
          nearer = λ e. absurd (cc);
        },
      ),
    )

    pub turned-crowded : r.halt ≡ Crowded → room ≡ length out → (before : Option (List ℕ)) → Turned loud room old new run window m before (record { held = n; last = run.last; over = false }) window₂ k before
    turned-crowded crowded long None = tt
    turned-crowded crowded long (Some rest) = λ ended wide line. (
      rest,
      (
        refl,
        record {
          lines = take r.written out₂;
          written = written;
          goes_on =
              u.run rest ended
              ∙ ap (λ (h : Halt). take r.written out₂ ++ going_on h (drop r.read (take run.held window) ++ rest) (browser k)) crowded
              ∙ ap (λ (s : List ℕ). take r.written out₂ ++ play (s ++ rest) (browser k)) (sym (kept-front kept inside held));
          ended = ended;
          nearer = λ e. let some_bytes = positive line in let within = inside in let count = kept.count in omega arith;
        },
      ),
    )
      where
        positive : line_bytes ≤ room → 0 < r.read
        positive line = go r.read refl
          where
            go : (i : ℕ) → r.read ≡ i → 0 < i
            go zero e = let full = (reasons u).crowded crowded in let none = crowded-none u e crowded in absurd (omega arith)
            go (suc i) e = omega arith

    pub turned-hungry : (window₃ : List ℕ) (i : ℕ) (before after : Option (List ℕ)) → r.halt ≡ Hungry → length window₃ ≡ length window → take n window₃ ≡ take n window₂ → i ≤ length window₃ - n
        → Consumes before after (take i (drop n window₃)) → (i ≡ 0 → 0 < length (drop n window₃) → IsAtEnd after)
        → Turned loud room old new run window m before (record { held = n + i; last = nat_eq i 0; over = false }) window₃ k after
    turned-hungry window₃ i None after hungry same front few read end = tt
    turned-hungry window₃ i (Some rest) None hungry same front few read end = absurd read
    turned-hungry window₃ i (Some rest) (Some rest₂) hungry same front few read end = λ ended wide line. (
      rest₂,
      (
        refl,
        record {
          lines = take r.written out₂;
          written = written;
          goes_on =
              u.run rest ended
              ∙ ap (λ (h : Halt). take r.written out₂ ++ going_on h (drop r.read (take run.held window) ++ rest) (browser k)) hungry
              ∙ ap (λ (s : List ℕ). take r.written out₂ ++ play s (browser k)) (sym joined);
          ended = λ e. at_end wide i e end;
          nearer = λ e. closer i run.last ((reasons u).hungry hungry).0 read_on;
        },
      ),
    )
      where
        count : n ≡ run.held - r.read
        count = kept.count

        joined : take (n + i) window₃ ++ rest₂ ≡ drop r.read (take run.held window) ++ rest
        joined =
            ap (λ (s : List ℕ). s ++ rest₂) (take-add n i window₃ ∙ ap (λ (s : List ℕ). s ++ take i (drop n window₃)) (front ∙ kept-front kept inside held))
            ∙ append_assoc (drop r.read (take run.held window)) (take i (drop n window₃)) rest₂
            ∙ ap (λ (s : List ℕ). drop r.read (take run.held window) ++ s) (sym read)

        left_behind : length (drop n window₃) ≡ length window₃ - n
        left_behind = length-drop n window₃

        at_end : item_bytes ≤ length window → (j : ℕ) → nat_eq j 0 ≡ true → (j ≡ 0 → 0 < length (drop n window₃) → rest₂ ≡ []) → rest₂ ≡ []
        at_end wide zero e end =
            let short = ((reasons u).hungry hungry).1 in
            let long = length-take-le run.held window held in
            let within = inside in
            let c = count in
            let behind = left_behind in
            end refl (omega arith)
        at_end wide (suc j) e end = let none = eqb-true (suc j) 0 e in absurd (omega arith)

        read_on : length rest ≡ i + length rest₂
        read_on =
            let all = ap length read ∙ length-append (take i (drop n window₃)) rest₂ in
            let behind = left_behind in
            let long = length-take-le i (drop n window₃) (omega arith) in
            omega arith

        closer : (j : ℕ) (b : Bool) → b ≡ false → length rest ≡ j + length rest₂ → (n + j) + 2 * length rest₂ + cond (nat_eq j 0) 0 1 < run.held + 2 * length rest + cond b 0 1
        closer j true e l = absurd (cc)
        closer zero false e l = let within = inside in let c = count in omega arith
        closer (suc j) false e l = let within = inside in let c = count in let bit = one_bit (nat_eq (suc j) 0) in omega arith

-- THE RUN SO FAR: what was told, and what is left.
pub record Goes (loud : Bool) (old new : Option (List ℕ)) (text : List ℕ) (run : Run) (window m rest : List ℕ) (turns : ℕ) : Type 0 where
  pub lines : List ℕ
  pub written : Appends old new (spoken loud lines)
  pub whole : play text empty_browser ≡ lines ++ play (take run.held window ++ rest) (browser m)
  pub ended : Ended run rest
  pub enough : ahead run rest ≤ turns

-- where it is known what the input has left
abbrev pub Going : Bool → Option (List ℕ) → Option (List ℕ) → Option (List ℕ) → Option (List ℕ) → Run → List ℕ → List ℕ → ℕ → Type 0
Going loud old new None after run window m turns = Unit {0}
Going loud old new (Some text) after run window m turns = length text < 2 ^ 63 → (rest : List ℕ) × ((after ≡ Some rest) × Goes loud old new text run window m rest turns)

spoken-none : (loud : Bool) → spoken loud [] ≡ []
spoken-none true = refl
spoken-none false = refl

spoken-more : (loud : Bool) (a b : List ℕ) → spoken loud a ++ spoken loud b ≡ spoken loud (a ++ b)
spoken-more true a b = refl
spoken-more false a b = refl

none_from : (b : Browser) → play_from 0 [] b ≡ []
unfolding play_from
none_from b = refl

play-none : (b : Browser) → play [] b ≡ []
unfolding play
play-none b = none_from b

none_left : (s : List ℕ) → length s ≡ 0 → s ≡ []
none_left [] e = refl
none_left (x ∷ s) e = absurd (omega arith)

pub goes-begun : (loud : Bool) (old text : Option (List ℕ)) (run : Run) (window m : List ℕ) (turns : ℕ) → browser m ≡ empty_browser → run.held ≡ 0 → run.last ≡ false → 2 ^ 64 ≤ turns + 1
    → Going loud old old text text run window m turns
goes-begun loud old None run window m turns e h f t = tt
goes-begun loud old (Some text) run window m turns e h f t = λ few. (
  text,
  (
    refl,
    record {
      lines = [];
      written = subst (Appends old old) (sym (spoken-none loud)) (Appends-nil old);
      whole = ap₂ play (ap (λ (i : ℕ). take i window ++ text) (sym h)) (sym e);
      ended = λ l. absurd (open_ended run.last f l);
      enough = let bit = one_bit run.last in omega arith;
    },
  ),
)
  where
    open_ended : (b : Bool) → b ≡ false → b ≡ true → ⊥
    open_ended true f l = cc
    open_ended false f l = cc

module _ (loud : Bool) (old new new₂ : Option (List ℕ)) (run run₂ : Run) (window m window₂ k : List ℕ) where
  -- what a turn adds to the run so far
  both : {t rest rest₂ : List ℕ} {turns : ℕ} → (g : Goes loud old new t run window m rest turns) (u : Tells loud new new₂ run window m rest run₂ window₂ k rest₂)
      → Appends old new₂ (spoken loud (g.lines ++ u.lines)) × (play t empty_browser ≡ (g.lines ++ u.lines) ++ left run₂ window₂ rest₂ k)
  both {t} {rest} {rest₂} g u = (
    subst (Appends old new₂) (spoken-more loud g.lines u.lines) (Appends-trans old new new₂ _ _ g.written u.written),
    g.whole ∙ ap (λ (l : List ℕ). g.lines ++ l) u.goes_on ∙ sym (append_assoc g.lines u.lines (left run₂ window₂ rest₂ k)),
  )

-- The turns after which a run goes on, that by which it is over, and none.
pub goes-turned : (loud : Bool) (room : ℕ) (old new new₂ text before after : Option (List ℕ)) (run run₂ : Run) (window m window₂ k : List ℕ) (turns : ℕ)
    → Going loud old new text before run window m turns → Turned loud room new new₂ run window m before run₂ window₂ k after → item_bytes ≤ length window → line_bytes ≤ room → run₂.over ≡ false
    → Going loud old new₂ text after run₂ window₂ k (turns - 1)
goes-turned loud room old new new₂ None before after run run₂ window m window₂ k turns g u wide line o = tt
goes-turned loud room old new new₂ (Some t) before after run run₂ window m window₂ k turns g u wide line o = λ few. go (g few)
  where
    go : (rest : List ℕ) × ((before ≡ Some rest) × Goes loud old new t run window m rest turns) → (rest₂ : List ℕ) × ((after ≡ Some rest₂) × Goes loud old new₂ t run₂ window₂ k rest₂ (turns - 1))
    go (rest, (e, h)) = on (subst (λ (b : Option (List ℕ)). Turned loud room new new₂ run window m b run₂ window₂ k after) e u h.ended wide line)
      where
        on : (rest₂ : List ℕ) × ((after ≡ Some rest₂) × Tells loud new new₂ run window m rest run₂ window₂ k rest₂) → (rest₂ : List ℕ) × ((after ≡ Some rest₂) × Goes loud old new₂ t run₂ window₂ k rest₂ (turns - 1))
        on (rest₂, (f, v)) = (
          rest₂,
          (
            f,
            record {
              lines = h.lines ++ v.lines;
              written = (both loud old new new₂ run run₂ window m window₂ k h v).0;
              whole = (both loud old new new₂ run run₂ window m window₂ k h v).1 ∙ ap (λ (b : Bool). (h.lines ++ v.lines) ++ cond b [] (play (take run₂.held window₂ ++ rest₂) (browser k))) o;
              ended = v.ended;
              enough = let enough = h.enough in let less = v.nearer o in omega arith;
            },
          ),
        )

pub goes-over : (loud : Bool) (room : ℕ) (old new new₂ text before after : Option (List ℕ)) (run run₂ : Run) (window m window₂ k : List ℕ) (turns : ℕ)
    → Going loud old new text before run window m turns → Turned loud room new new₂ run window m before run₂ window₂ k after → item_bytes ≤ length window → line_bytes ≤ room → run₂.over ≡ true
    → Told loud text old new₂
goes-over loud room old new new₂ None before after run run₂ window m window₂ k turns g u wide line o = tt
goes-over loud room old new new₂ (Some t) before after run run₂ window m window₂ k turns g u wide line o = λ few. go (g few)
  where
    go : (rest : List ℕ) × ((before ≡ Some rest) × Goes loud old new t run window m rest turns) → Appends old new₂ (spoken loud (play t empty_browser))
    go (rest, (e, h)) = on (subst (λ (b : Option (List ℕ)). Turned loud room new new₂ run window m b run₂ window₂ k after) e u h.ended wide line)
      where
        on : (rest₂ : List ℕ) × ((after ≡ Some rest₂) × Tells loud new new₂ run window m rest run₂ window₂ k rest₂) → Appends old new₂ (spoken loud (play t empty_browser))
        on (rest₂, (f, v)) =
            let all : play t empty_browser ≡ h.lines ++ v.lines =
            (both loud old new new₂ run run₂ window m window₂ k h v).1
            ∙ ap (λ (b : Bool). (h.lines ++ v.lines) ++ cond b [] (play (take run₂.held window₂ ++ rest₂) (browser k))) o
            ∙ append-nil (h.lines ++ v.lines) in
            subst (λ (l : List ℕ). Appends old new₂ (spoken loud l)) (sym all) (both loud old new new₂ run run₂ window m window₂ k h v).0

pub goes-out : (loud : Bool) (old new text after : Option (List ℕ)) (run : Run) (window m : List ℕ) (turns : ℕ)
    → Going loud old new text after run window m turns → turns ≡ 0 → Told loud text old new
goes-out loud old new None after run window m turns g e = tt
goes-out loud old new (Some t) after run window m turns g e = λ few. go (g few)
  where
    go : (rest : List ℕ) × ((after ≡ Some rest) × Goes loud old new t run window m rest turns) → Appends old new (spoken loud (play t empty_browser))
    go (rest, (f, h)) =
        let enough = h.enough in
        let held : run.held ≡ 0 = omega arith in
        let none : rest ≡ [] = none_left rest (omega arith) in
        let all : play t empty_browser ≡ h.lines =
        h.whole
        ∙ ap₂ (λ (i : ℕ) (s : List ℕ). h.lines ++ play (take i window ++ s) (browser m)) held none
        ∙ ap (λ (l : List ℕ). h.lines ++ l) (play-none (browser m))
        ∙ append-nil h.lines in
        subst (λ (l : List ℕ). Appends old new (spoken loud l)) (sym all) h.written

-- a run that is over goes nowhere
pub goes_nowhere : {h : Halt} → (h ≡ Over) ⊎ (h ≡ Stopped) → (s : List ℕ) (b : Browser) → going_on h s b ≡ []
goes_nowhere (inl e) s b = ap (λ (h : Halt). going_on h s b) e
goes_nowhere (inr e) s b = ap (λ (h : Halt). going_on h s b) e
