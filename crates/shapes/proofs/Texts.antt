-- A text is read as an item where it is the canonical text of a term of that item within the limits, and nowhere else.
use mathlib.Core.Path.{◌≡◌, refl, sym, ap, ◌∙◌}
use mathlib.Core.Bool.{Bool, true, false, cond}
use mathlib.Core.List.{List, []}
use Rattle.std.specs.Prelude.{Option, None as none, Some as some}
use Prim.Native.Nat.{ℕ, ◌≤◌}
use lib.ListN.{length}
use Rattle.sorted.proofs.Never.{never}
use Rattle.csexp.specs.Term.{Term, write}
use Rattle.csexp.specs.Read.{got, read}
use Rattle.csexp.specs.Limits.{item_bytes, item_levels, whole_of}
use Rattle.csexp.proofs.Meaning.{read-written, whole-is-written, written-is-whole}
use Rattle.shapes.specs.Nouns.{Item, BadText}
use Rattle.shapes.specs.Items.{item_of}
use Rattle.shapes.specs.Texts.{unread, item, shaped, taken, item_in, Spells}

pub of_term : (s : List ℕ) (t : Term) → whole_of item_bytes item_levels s ≡ true → read s ≡ got t [] → item_in s ≡ shaped (item_of t)
unfolding item_in
of_term s t e f = ap (λ (c : Bool). cond c (taken (read s)) (unread BadText)) e ∙ ap taken f

pub no_text : (s : List ℕ) → whole_of item_bytes item_levels s ≡ false → item_in s ≡ unread BadText
unfolding item_in
no_text s e = ap (λ (c : Bool). cond c (taken (read s)) (unread BadText)) e

pub item-is-written : (s : List ℕ) (i : Item) → item_in s ≡ item i → Spells i s
item-is-written s i e = go (whole_of item_bytes item_levels s) refl
  where
    by : (m : Option Item) → shaped m ≡ item i → m ≡ some i
    by none e = never (cc)
    by (some x) e = cc

    go : (c : Bool) → whole_of item_bytes item_levels s ≡ c → Spells i s
    go true w =
        let (t, written, short, shallow) = whole-is-written item_bytes item_levels s w in
        let shape : item_of t ≡ some i = by (item_of t) (sym (of_term s t w (ap read written ∙ read-written t)) ∙ e) in
        record { term = t; written = written; shape = shape; short = short; shallow = shallow }
    go false w = let refused = no_text s w in never (cc)

pub written-is-item : (s : List ℕ) (i : Item) → Spells i s → item_in s ≡ item i
written-is-item s i h =
    let fits : length (write h.term) ≤ item_bytes = rw h.written at h.short in
    let all : whole_of item_bytes item_levels s ≡ true = rw h.written (written-is-whole item_bytes item_levels h.term fits h.shallow) in
    of_term s h.term all (ap read h.written ∙ read-written h.term) ∙ ap shaped h.shape
