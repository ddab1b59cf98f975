-- The course, its numbers, the headers, and there it goes; or 5.
use Rattle.std.proofs.Common.{rules, ◌≡◌, true, false}
use Rattle.types.specs.Lists.{cookies_in}
use Rattle.browser.specs.View.{view}
use Rattle.stepping.specs.Wanted.{ready}
use Rattle.responses.specs.Taken.{wants_by}
use Rattle.responses.proofs.Going.{stale, goes}
use Rattle.responses.proofs.responses.process_response.Goals as goal

pub returns-then-not-ready : goal.returns-then-not-ready
returns-then-not-ready c =
    let x = c.args in
    let e : ready (wants_by c.course_of-course.result) x.f (view x.m.now) ≡ false = search rules in
    stale x.w x.a (cookies_in x.few) x.f x.m.now c.course_of-course.result c.course_of-course.ensures e (search rules)

pub returns : goal.returns
returns c =
    let x = c.args in
    let e : ready (wants_by c.course_of-course.result) x.f (view x.m.now) ≡ true = search rules in
    goes x.w x.a (cookies_in x.few) x.f x.m.now c.course_of-course.result c.course_of-course.ensures e c.act_on_headers-room.ensures c.takes.ensures
