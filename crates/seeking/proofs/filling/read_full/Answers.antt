-- What a read gives stands behind what the reads before it gave.
use Rattle.std.proofs.Common.{◌≡◌, ℕ, ◌+◌, ◌-◌, ◌≤◌, List, ◌++◌, rules, arith, length, take, slice_range, sym, ap, ◌∙◌, subst, le_refl, drop_at, length-take-le}
use Rattle.std.proofs.lemmas.List.{take-append-le}
use Rattle.std.proofs.lemmas.Slice.{take-put_mid_below}
use Rattle.std.proofs.Math.Seq.{take-add}
use Rattle.std.specs.Io.KnownBytes.{Consumes}
use Rattle.std.proofs.KnownBytes.{Consumes-trans}
use borrow.Rule.Slice.PartMut.{put_mid, post_of}
use Rattle.seeking.proofs.filling.read_full.Goals as goal

both : (a b : ℕ) (s t : List ℕ) → a ≤ b → take a t ≡ take a s → take a s ++ slice_range t a b ≡ take b t
both a b s t h front =
    let same : a + (b - a) ≡ b = omega arith in
    ap (λ l. l ++ slice_range t a b) (sym front) ∙ sym (take-add a (b - a) t) ∙ ap (λ n. take n t) same

what_came : (a k n : ℕ) (s t : List ℕ) → a ≤ length s → n ≤ length t → slice_range (put_mid a k s t) a (a + n) ≡ take n t
what_came a k n s t within fits =
    let same : (a + n) - a ≡ n = omega arith in
    let after = post_of a k s in
    ap (take ((a + n) - a)) (drop_at (take a s) (t ++ after) a (length-take-le a s within)) ∙ ap (λ m. take m (t ++ after)) same ∙ take-append-le n t after fits

pub loop-done-preserved : goal.loop-done-preserved
loop-done-preserved g c =
    let at = c.loop-done.done in
    let room = length c.loop-done.buffer - at in
    let within = c.loop-done.invariant.0 in
    let part = what_came at room c.in_ok-n.n c.loop-done.buffer c.read.new.buf within c.in_ok-n.ensures.bound.0 in
    let joined = both at (at + c.in_ok-n.n) c.loop-done.buffer (put_mid at room c.loop-done.buffer c.read.new.buf) (omega arith) (take-put_mid_below _ _ _ _ _ (le_refl _) within) in (
      search rules,
      subst (Consumes _ _) (ap (λ l. take at c.loop-done.buffer ++ l) (sym part) ∙ joined) (Consumes-trans _ _ _ _ _ c.loop-done.invariant.1 c.in_ok-n.ensures.bytes.0),
    )
