-- A page is loaded at the spot that was found.
use Rattle.std.proofs.Common.{refl}
use Rattle.responses.proofs.courses.body_course.Goals as goal

pub returns-in-Page : goal.returns-in-Page
returns-in-Page c = rw c.in-Page.is (c.look.result, c.look.ensures, refl)
