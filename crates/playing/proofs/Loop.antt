-- The loop of `play`: what was played so far, and that what is left is played from there.
--     starts · goes_on · ends                         nothing yet, one item more, no item any more
--     written-within · item_ahead · stop_ahead        the places lie within text and buffer
use mathlib.Core.Path.{◌≡◌, refl, sym, ap, ap₂, subst, ◌∙◌}
use mathlib.Core.Bool.{Bool}
use mathlib.Core.List.{List, [], ◌++◌, append_assoc}
use Prim.Native.Nat.{ℕ, zero, suc, ◌+◌, ◌-◌, ◌≤◌, ◌<◌}
use native.Mathlib.Omega.{arith}
use lib.ListN.{length, take, drop, length-take, length-drop}
use lib.Seq.{take_all, drop-drop}
use Rattle.csexp.specs.Limits.{item_bytes, item_levels}
use Rattle.shapes.specs.Texts.{item_in}
use Rattle.sorted.proofs.Never.{never}
use Rattle.wim.specs.Step.{Browser}
use Rattle.wim.specs.Run.{performed, line_of, after}
use Rattle.browser.specs.View.{browser}
use Rattle.playing.specs.declared.looking.Halt.{Halt}
use Rattle.playing.specs.declared.looking.Halt.TheVariants.{Stopped}
use Rattle.playing.specs.Portions.{Next}
use Rattle.std.specs.Prelude.{Ok as Item, Err as Nothing}
use Rattle.playing.specs.Lines.{last_line, Adds, line_bytes}
use Rattle.playing.specs.Turns.{Turns}
use Rattle.playing.specs.Portions.{next_in, Portion, joined, portion_from, portion_of}
use Rattle.playing.specs.Plays.{Plays}
use Rattle.playing.proofs.Adding.{adds_none, adds_as, adds_then}
use Rattle.playing.proofs.Firsts.{First, first-term}
use Rattle.playing.proofs.Nexts.{Lacks, full, broken, next-item, next-none}
use Rattle.playing.proofs.Running.{shown, played_on, portion_step, portion_run}

-- The lines of the items before `read` stand in out₂, and what is left is played from the browser c on. `items` bounds how many items are left.
pub record Playing (text : List ℕ) (last : Bool) (b : Browser) (out : List ℕ) (c : Browser) (read written : ℕ) (out₂ : List ℕ) : Type 0 where
  pub items : ℕ
  pub enough : length (drop read text) < items
  pub within : read ≤ length text
  pub same : length out₂ ≡ length out
  pub adds : Adds (take written out₂) out 0 out₂ written
  pub so_far : portion_of text last (length out) b ≡ joined read (take written out₂) (portion_from items (drop read text) last (length out - written) c)

joined-none : (p : Portion) → p ≡ joined 0 [] p
joined-none p = ap (λ (n : ℕ). record { read = n; lines = p.lines; browser = p.browser; halt = p.halt }) (let same : p.read ≡ 0 + p.read = omega arith in same)

joined-joined : (m n : ℕ) (l k : List ℕ) (p : Portion) → joined m l (joined n k p) ≡ joined (m + n) (l ++ k) p
joined-joined m n l k p =
    ap₂ (λ (i : ℕ) (x : List ℕ). record { read = i; lines = x; browser = p.browser; halt = p.halt })
    (let same : m + (n + p.read) ≡ (m + n) + p.read = omega arith in same) (sym (append_assoc l k p.lines))

pub starts : (text : List ℕ) (last : Bool) (b : Browser) (out : List ℕ) → Playing text last b out b 0 0 out
unfolding portion_of
starts text last b out = record {
  items = suc (length text);
  enough = omega arith;
  within = omega arith;
  same = refl;
  adds = adds_none out 0;
  so_far = ap (λ (room : ℕ). portion_from (suc (length text)) text last room b) (let same : length out ≡ length out - 0 = omega arith in same)
      ∙ joined-none (portion_from (suc (length text)) text last (length out - 0) b);
}

-- what the code looks at: the part of the text from `read` on, and the room behind `written`
abbrev looked : List ℕ → Bool → List ℕ → ℕ → ℕ → Next
looked text last out read written = next_in (take (length text - read) (drop read text)) last (length out - written)

-- an item of n bytes comes next: it ends within the text, and its line within the buffer
pub record Ahead (text : List ℕ) (read n : ℕ) (out : List ℕ) (written : ℕ) : Type 0 where
  pub positive : 0 < n
  pub inside : read + n ≤ length text
  pub room : written + line_bytes ≤ length out

module _ {text : List ℕ} {last : Bool} {b : Browser} {out : List ℕ} {c : Browser} {read written : ℕ} {out₁ : List ℕ} (played : Playing text last b out c read written out₁) where
  pub written-within : written ≤ length out₁
  written-within = let l = played.adds.place in let m = length-take written out₁ in omega arith

  left : List ℕ
  left = drop read text

  room : ℕ
  room = length out - written

  ahead : {x : Next} → looked text last out₁ read written ≡ x → next_in left last room ≡ x
  unfolding left room
  ahead e =
      sym (ap₂ (λ (s : List ℕ) (m : ℕ). next_in s last m)
      (take_all (length text - read) (drop read text) (let l = length-drop read text in omega arith))
      (ap (λ (n : ℕ). n - written) played.same)) ∙ e

  first : {n : ℕ} → looked text last out₁ read written ≡ Item n → First item_bytes item_levels left n
  first {n} e = first-term item_bytes item_levels left n (next-item left last room (ahead e)).whole

  pub item_ahead : {n : ℕ} → looked text last out₁ read written ≡ Item n → Ahead text read n out₁ written
  unfolding left room
  item_ahead {n} e =
      let f = first e in
      let within = played.within in
      let inside = f.within in
      let few = length-drop read text in
      let fits = (next-item left last room (ahead e)).fits in
      let same = played.same in
      record { positive = f.positive; inside = omega arith; room = omega arith }

  -- where the run stops, the line of refusal 1 has room
  pub stop_ahead : {h : Halt} → looked text last out₁ read written ≡ Nothing h → h ≡ Stopped → written + line_bytes ≤ length out₁
  unfolding room
  stop_ahead {h} e q = go (next-none left last room (ahead e)) q
    where
      go : {k : Halt} → Lacks left last room k → k ≡ Stopped → written + line_bytes ≤ length out₁
      go (full l) q = never (cc)
      go (broken fits x) q = let same = played.same in omega arith

  -- one turn of the portion
  next-turn : {n : ℕ} → looked text last out₁ read written ≡ Item n → (k : ℕ) → portion_of text last (length out) b ≡ joined read (take written out₁) (portion_from (suc k) (drop read text) last (length out - written) c)
      → portion_of text last (length out) b
      ≡ joined (read + n) (take written out₁ ++ line_of (performed (item_in (take n left)) c)) (portion_from k (drop n left) last (room - length (line_of (performed (item_in (take n left)) c))) (after c (performed (item_in (take n left)) c)))
  unfolding left room
  next-turn {n} e k q =
      q ∙ ap (joined read (take written out₁)) (portion_step k left last room c ∙ ap (played_on k left last room c) (ahead e))
      ∙ joined-joined read n (take written out₁) (line_of (performed (item_in (take n left)) c)) _

  turned_on : {n p : ℕ} {d : Browser} {out₂ : List ℕ} → looked text last out₁ read written ≡ Item n → d ≡ after c (performed (item_in (take n left)) c)
      → Adds (line_of (performed (item_in (take n left)) c)) out₁ written out₂ p → length out₂ ≡ length out₁ → Playing text last b out d (read + n) p out₂
  unfolding left room
  turned_on {n} {p} {d} {out₂} e stands u kept = go played.items played.enough played.so_far
    where
      l : List ℕ
      l = line_of (performed (item_in (take n left)) c)

      go : (k : ℕ) → length (drop read text) < k → portion_of text last (length out) b ≡ joined read (take written out₁) (portion_from k (drop read text) last (length out - written) c)
          → Playing text last b out d (read + n) p out₂
      go zero h q = absurd (omega arith)
      go (suc k) h q =
          let a = item_ahead e in
          let some_bytes = a.positive in
          let inside = a.inside in
          let few = length-drop read text in
          let fewer = length-drop (read + n) text in
          let less : (length out - written) - length l ≡ length out - p = (let place = u.place in omega arith) in
          record {
            items = k;
            enough = omega arith;
            within = inside;
            same = kept ∙ played.same;
            adds = adds_as (sym u.before) (adds_then played.adds u);
            so_far = next-turn e k q
                ∙ ap₂ (λ (x : List ℕ) (y : Browser). joined (read + n) x (portion_from k (drop n left) last (room - length l) y)) (sym u.before) (sym stands)
                ∙ ap₂ (λ (s : List ℕ) (m : ℕ). joined (read + n) (take p out₂) (portion_from k s last m d)) (drop-drop n read text) less;
          }

  -- the code plays the part of the text from `read` to behind the item
  pub goes_on : {n p : ℕ} {d : Browser} {out₂ : List ℕ} → looked text last out₁ read written ≡ Item n
      → Turns (performed (item_in (take ((read + n) - read) (drop read text))) c) c out₁ written out₂ d p → length out₂ ≡ length out₁
      → Playing text last b out d (read + n) p out₂
  unfolding left
  goes_on {n} {p} {d} {out₂} e u kept =
      let v : Turns (performed (item_in (take n left)) c) c out₁ written out₂ d p = subst (λ (m : ℕ). Turns (performed (item_in (take m (drop read text))) c) c out₁ written out₂ d p) (let same : (read + n) - read ≡ n = omega arith in same) u in
      turned_on e v.stands v.adds kept

  -- no item any more: the lines of the portion stand in the buffer
  all_lines : {h : Halt} {p : ℕ} {out₂ : List ℕ} → looked text last out₁ read written ≡ Nothing h → Adds (last_line h) out₁ written out₂ p
      → record { read = read; lines = take p out₂; browser = c; halt = h } ≡ portion_of text last (length out) b
  unfolding left room
  all_lines {h} {p} {out₂} e u = go played.items played.enough played.so_far
    where
      go : (k : ℕ) → length (drop read text) < k → portion_of text last (length out) b ≡ joined read (take written out₁) (portion_from k (drop read text) last (length out - written) c)
          → record { read = read; lines = take p out₂; browser = c; halt = h } ≡ portion_of text last (length out) b
      go zero l q = absurd (omega arith)
      go (suc k) l q =
          ap₂ (λ (i : ℕ) (x : List ℕ). record { read = i; lines = x; browser = c; halt = h }) (let same : read ≡ read + 0 = omega arith in same) u.before
          ∙ sym (q ∙ ap (joined read (take written out₁)) (portion_step k left last room c ∙ ap (played_on k left last room c) (ahead e)))

pub ends : {text : List ℕ} {last : Bool} (m k : List ℕ) {out : List ℕ} {read written p : ℕ} {out₁ out₂ : List ℕ} {h : Halt} → Playing text last (browser m) out (browser k) read written out₁
    → looked text last out₁ read written ≡ Nothing h → Adds (last_line h) out₁ written out₂ p
    → Plays text last m out (record { read = read; written = p; halt = h }) k out₂
unfolding portion_of
ends {text} {last} m k {out} {read} {written} {p} {out₁} {out₂} {h} played e u =
    let all = adds_then played.adds u in
    let says = all_lines played e u in
    record {
      tells = says;
      counted = all.place ∙ (let same : 0 + length (take written out₁ ++ last_line h) ≡ length (take written out₁ ++ last_line h) = omega arith in same) ∙ ap length (sym all.before);
      behind = all.behind;
      run = λ more f. portion_run (suc (length text)) text more last (length out) (browser m) (omega arith) f ∙ ap (shown text more) (sym says);
    }
