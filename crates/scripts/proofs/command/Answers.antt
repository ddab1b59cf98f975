-- Each command by its own function.
use Rattle.wim.specs.Script.{command}
use Rattle.storing.specs.Stored.{storing}
use Rattle.stepping.proofs.Ways.{performs-at}
use Rattle.scripts.proofs.command.Goals as goal

pub returns-in-Nothing : goal.returns-in-Nothing
unfolding command
returns-in-Nothing c = performs-at (command c.args.s.window c.args.s.document (storing c.args.s)) c.in-Nothing.is c.nothing.ensures

pub returns-in-Href : goal.returns-in-Href
unfolding command
returns-in-Href c = performs-at (command c.args.s.window c.args.s.document (storing c.args.s)) c.in-Href.is c.href.ensures

pub returns-in-Iframe : goal.returns-in-Iframe
unfolding command
returns-in-Iframe c = performs-at (command c.args.s.window c.args.s.document (storing c.args.s)) c.in-Iframe.is c.iframe.ensures

pub returns-in-Form : goal.returns-in-Form
unfolding command
returns-in-Form c = performs-at (command c.args.s.window c.args.s.document (storing c.args.s)) c.in-Form.is c.form.ensures

pub returns-in-SetScript : goal.returns-in-SetScript
unfolding command
returns-in-SetScript c = performs-at (command c.args.s.window c.args.s.document (storing c.args.s)) c.in-SetScript.is c.set_script.ensures

pub returns-in-SetScriptState : goal.returns-in-SetScriptState
unfolding command
returns-in-SetScriptState c = performs-at (command c.args.s.window c.args.s.document (storing c.args.s)) c.in-SetScriptState.is c.set_script_state.ensures

pub returns-in-XmlHttpRequest : goal.returns-in-XmlHttpRequest
unfolding command
returns-in-XmlHttpRequest c = performs-at (command c.args.s.window c.args.s.document (storing c.args.s)) c.in-XmlHttpRequest.is c.xhr.ensures

pub returns-in-PostMessage : goal.returns-in-PostMessage
unfolding command
returns-in-PostMessage c = performs-at (command c.args.s.window c.args.s.document (storing c.args.s)) c.in-PostMessage.is c.post_message.ensures
