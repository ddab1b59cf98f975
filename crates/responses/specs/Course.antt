-- The course of an answer in these tables, and the code's value for it.
use Rattle.std.specs.Prelude.{◌≡◌, suc}
use Rattle.std.specs.Prelude.{Option, None as none, Some as some}
use Rattle.types.specs.Perhaps.{Matching}
use Rattle.types.specs.declared.Reference.{Reference}
use Rattle.types.specs.declared.Reference.TheVariants.{Req, Xhr}
use Rattle.types.specs.declared.Url.{Url}
use Rattle.types.specs.declared.WindowNumber.{WindowNumber}
use Rattle.types.specs.declared.answers.Answer.{Answer}
use Rattle.types.specs.declared.answers.Body.{Body}
use Rattle.types.specs.declared.answers.Body.TheVariants.{Number, Page}
use Rattle.types.specs.declared.rows.Document.{Document}
use Rattle.types.specs.declared.rows.News.TheVariants.{Answered}
use Rattle.tables.specs.Tables.{Tables}
use Rattle.wim.specs.Program.{observed, reached, history, listening, arrived}
use Rattle.wim.specs.Response.{where_to, Course, followed, loaded, handed, nothing_more}
use Rattle.responses.specs.declared.courses.Course.{Course as Way}
use Rattle.responses.specs.declared.courses.Course.TheVariants.{Followed, Loaded, Handed, NothingMore}
use Rattle.responses.specs.declared.loading.Spot.{Spot}
use Rattle.responses.specs.Entered.{behind, Finds}

-- THE COURSE, of what is observed in the tables.
-- of a window's answer without a redirect
abbrev pub body_at : Tables → WindowNumber → Body → Course
body_at b v (Number m) = nothing_more
body_at b v (Page script state) = loaded v (observed (history v) b) (behind v b) script state

-- of a window's answer
abbrev pub window_at : Tables → WindowNumber → Option WindowNumber → Option Url → Body → Course
window_at b v none to body = nothing_more
window_at b v (some top) (some u) body = followed u
window_at b v (some top) none body = body_at b v body

-- of an XHR's answer
abbrev pub script_at : Tables → Matching → Option Url → Option Document → Course
script_at b matching (some u) found = nothing_more
script_at b matching none none = nothing_more
script_at b matching none (some d) = handed d (observed (arrived d.number) b) matching

abbrev pub course_at : Reference → Answer → Tables → Course
course_at (Req v) a b = window_at b v (observed (reached v) b) (where_to a.status a.location) a.body
course_at (Xhr n matching) a b = script_at b matching (where_to a.status a.location) (observed (listening n) b)

-- THE CODE'S VALUE for it.
abbrev pub Decides : Answer → Course → Way → Type 0
Decides a (followed u) c = c ≡ Followed u
Decides a (loaded v ds gone script state) c = (s : Spot) × Finds ds gone s × (c ≡ Loaded v s script state)
Decides a (handed d earlier matching) c = c ≡ Handed (record { document = d.number; arrival = suc earlier; news = Answered matching a.body })
Decides a nothing_more c = c ≡ NothingMore
