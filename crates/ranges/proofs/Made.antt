-- THE THEOREMS on browsers that accepted steps have made of items that were read: their tables are sound, and what they send is read back.
use mathlib.Core.Path.{◌≡◌}
use mathlib.Core.List.{List}
use Rattle.std.specs.Prelude.{Some as some}
use Prim.Native.Nat.{ℕ}
use Rattle.csexp.specs.Term.{write}
use Rattle.shapes.specs.Texts.{item, item_in}
use Rattle.shapes.specs.Events.{Message, event_of}
use Rattle.shapes.specs.Ranges.{MessageIn}
use Rattle.writing.specs.Outgoing.{sent_in}
use Rattle.writing.proofs.Backs.{text-back}
use Rattle.wim.specs.Nouns.{Item}
use Rattle.wim.specs.Step.{Browser, empty_browser, accepted, step}
use Rattle.wim.specs.Invariant.{InRange, Sound}
use Rattle.wim.specs.Made.{RunsTo, begun, further}
use Rattle.wim.proofs.Made.{runs-made}
use Rattle.invariant.proofs.Opened.{opened, made-tables}
use Rattle.invariant.proofs.Numbered.Steps.{made-numbered}
use Rattle.invariant.proofs.Rooted.Made.{made-rooted}
use Rattle.shapes.proofs.Ranges.{read_in_range}
use Rattle.ranges.proofs.Steps.{in_range_empty, in_range_step}

pub made_in_range : {b : Browser} → RunsTo empty_browser b → InRange b.tables
made_in_range begun = in_range_empty
made_in_range (further {c = b} {d = c} s i m r x e) = (in_range_step i b.tables c.tables m (read_in_range s i x) (made_in_range r) (opened i b c m e).1).0

pub made_sound : {b : Browser} → RunsTo empty_browser b → Sound b.tables
made_sound r = let made = made-tables (runs-made r) in record { numbered = made-numbered made; rooted = made-rooted made; in_range = made_in_range r }

module _ (b c : Browser) (r : RunsTo empty_browser b) (s : List ℕ) (i : Item) (m : Message) (x : item_in s ≡ item i) (e : step i b ≡ accepted c (some m)) where
  pub sends_in_range : MessageIn m
  sends_in_range = (in_range_step i b.tables c.tables (some m) (read_in_range s i x) (made_in_range r) (opened i b c (some m) e).1).1

  pub what_went_out_is_read_back : sent_in (write (event_of m)) ≡ some m
  what_went_out_is_read_back = text-back m sends_in_range
