-- The question that is put in is that of the tables before.
use Rattle.browser.specs.View.{view}
use Rattle.sending.proofs.Asking.{sends, question-is}
use Rattle.sending.proofs.send.Goals as goal

pub returns : goal.returns
returns c =
    let a = c.args in
    sends a.o a.q.0 a.n.0 (question-is a.o a.q.0 a.n.0 (view a.m.now) c.question_of.ensures c.sent_to-jar.ensures c.secured_if-url.ensures c.strict-strict.ensures) c.put.ensures
