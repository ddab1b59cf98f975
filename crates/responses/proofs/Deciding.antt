-- Which way an answer goes: the program that asks for it goes on with the course of these tables.
use mathlib.Core.Path.{◌≡◌, refl}
use mathlib.Core.List.{List}
use Rattle.std.specs.Prelude.{Option, None as none, Some as some}
use Rattle.types.specs.Perhaps.{Matching}
use Rattle.types.specs.declared.Reference.{Reference}
use Rattle.types.specs.declared.Reference.TheVariants.{Req, Xhr}
use Rattle.types.specs.declared.Url.{Url}
use Rattle.types.specs.declared.WindowNumber.{WindowNumber}
use Rattle.types.specs.declared.answers.Answer.{Answer}
use Rattle.types.specs.declared.answers.Body.{Body}
use Rattle.types.specs.declared.answers.Body.TheVariants.{Number, Page}
use Rattle.types.specs.declared.rows.Document.{Document}
use Rattle.tables.specs.Tables.{Tables}
use Rattle.tables.specs.Labels.{Label}
use Rattle.wim.specs.Program.{Program, observed, reached, listening, run}
use Rattle.wim.specs.Response.{where_to, Course, window_course, script_course, course_of}
use Rattle.responses.specs.Course.{window_at, script_at, course_at}

module _ (go : Course → Program) (b : Tables) (ls : List Label) where
  window-goes : (v : WindowNumber) (found : Option WindowNumber) (to : Option Url) (body : Body) → run (window_course v found to body go) b ls ≡ run (go (window_at b v found to body)) b ls
  unfolding run window_course
  window-goes v none to body = refl
  window-goes v (some top) (some u) body = refl
  window-goes v (some top) none (Number m) = refl
  window-goes v (some top) none (Page script state) = refl

  script-goes : (matching : Matching) (to : Option Url) (found : Option Document) → run (script_course matching to found go) b ls ≡ run (go (script_at b matching to found)) b ls
  unfolding run script_course
  script-goes matching (some u) found = refl
  script-goes matching none none = refl
  script-goes matching none (some d) = refl

  pub course-goes : (reference : Reference) (a : Answer) → run (course_of reference a go) b ls ≡ run (go (course_at reference a b)) b ls
  unfolding run course_of
  course-goes (Req v) a = window-goes v (observed (reached v) b) (where_to a.status a.location) a.body
  course-goes (Xhr n matching) a = script-goes matching (where_to a.status a.location) (observed (listening n) b)
