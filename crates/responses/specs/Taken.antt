-- What an answer does on its course, behind its headers: the edits of `takes` in `wim`, as a function of the code's value.
use Rattle.std.specs.Prelude.{◌≡◌, Bool, ◌&&◌, List, [], ◌∷◌, ℕ, Option, None as none, Some as some}
use Rattle.types.specs.declared.Fresh.{Fresh}
use Rattle.types.specs.declared.Wants.{Wants}
use Rattle.types.specs.declared.answers.Answer.{Answer}
use Rattle.types.specs.declared.rows.Waiting.{Waiting}
use Rattle.sorted.specs.Table.{put}
use Rattle.tables.specs.Tables.{Table, windows, documents, inputs, pending_dns, Tables, apply}
use Rattle.shapes.specs.Events.{Message, resolve}
use Rattle.wim.specs.Response.{with_fragment_of, redirection, new_document}
use Rattle.stepping.specs.Wanted.{wants_nothing, wants_send, wants_document}
use Rattle.stepping.specs.Holds.{Carries}
use Rattle.stepping.specs.Gives.{Performed, concluded}
use Rattle.sending.specs.Sends.{sent}
use Rattle.responses.specs.declared.courses.Course.{Course}
use Rattle.responses.specs.declared.courses.Course.TheVariants.{Followed, Loaded, Handed, NothingMore}
use Rattle.responses.specs.Entered.{entered}

-- the fresh numbers that it brings
abbrev pub wants_by : Course → Wants
wants_by (Followed u) = wants_send
wants_by (Loaded v spot script state) = wants_document
wants_by (Handed row) = wants_nothing
wants_by NothingMore = wants_nothing

abbrev pub taken : Course → Waiting → Answer → Fresh → Tables → Tables
taken (Followed u) w a f b = sent (redirection (with_fragment_of w.url u) w a) f.request.0 f.dns.0 b
taken (Loaded v spot script state) w a f b = entered spot (new_document v spot.place f.document.0 w a script state) b
taken (Handed row) w a f b = apply inputs (put row ∷ []) b
taken NothingMore w a f b = b

-- the tables that it puts rows into, and takes rows from
abbrev pub puts_by : Course → List Table
puts_by (Followed u) = pending_dns ∷ []
puts_by (Loaded v spot script state) = documents ∷ []
puts_by (Handed row) = inputs ∷ []
puts_by NothingMore = []

abbrev pub drops_by : Course → List Table
drops_by (Followed u) = []
drops_by (Loaded v spot script state) = windows ∷ documents ∷ inputs ∷ []
drops_by (Handed row) = []
drops_by NothingMore = []

-- what goes out
abbrev pub says_by : Course → Fresh → Option Message
says_by (Followed u) f = some (resolve u.host f.dns)
says_by (Loaded v spot script state) f = none
says_by (Handed row) f = none
says_by NothingMore f = none

-- from the memory m to the memory n, where `room` tells of what was put before
pub record Takes (c : Course) (w : Waiting) (a : Answer) (f : Fresh) (room : Bool) (m n : List ℕ) (r : Performed) : Type 0 where
  pub put : Bool
  pub carries : Carries (taken c w a f) (puts_by c) (drops_by c) m n put
  pub concludes : r ≡ concluded (room && put) (says_by c f)
