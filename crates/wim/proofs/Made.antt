-- Where runs come to.
--     runs_on         a text more, whether it is read and accepted or not
--     runs_then       a run behind another
--     runs-made       where a run from the empty open browser comes to, accepted steps have made
use mathlib.Core.Path.{◌≡◌, refl}
use mathlib.Core.List.{List}
use Prim.Native.Nat.{ℕ}
use Rattle.shapes.specs.Texts.{Taken, unread, item, item_in}
use Rattle.wim.specs.Nouns.{Item}
use Rattle.wim.specs.Step.{Browser, empty_browser, Result, declined, accepted, step}
use Rattle.wim.specs.Run.{performed, after}
use Rattle.wim.specs.Made.{Made, empty, next, RunsTo, begun, further}

pub runs_on : {b c : Browser} (s : List ℕ) → RunsTo b c → RunsTo b (after c (performed (item_in s) c))
runs_on {b} {c} s R = read (item_in s) refl
  where
    stepped : (i : Item) (o : Result) → item_in s ≡ item i → step i c ≡ o → RunsTo b (after c o)
    stepped i (declined r) e f = R
    stepped i (accepted d m) e f = further s i m R e f

    read : (t : Taken) → item_in s ≡ t → RunsTo b (after c (performed t c))
    read (unread r) e = R
    read (item i) e = stepped i (step i c) e refl

pub runs_then : {b c d : Browser} → RunsTo b c → RunsTo c d → RunsTo b d
runs_then R begun = R
runs_then R (further s i m S e f) = further s i m (runs_then R S) e f

pub runs-made : {b : Browser} → RunsTo empty_browser b → Made b
runs-made begun = empty
runs-made (further s i m R e f) = next i m (runs-made R) f
