-- Each event by its own function.
use borrow.Author.Rules.{rules}
use Rattle.wim.specs.Main.{cookies_in, program}
use Rattle.perform.proofs.Ends.{happened}
use Rattle.perform.proofs.events.happen.Statement.{statement}
use Rattle.perform.proofs.events.happen.Tie as tie

returns : tie.Need-returns-in-RunScript
unfolding program
returns c = happened (cookies_in c.args.new) c.before.before.in-RunScript.is c.run_script.ensures

returns-2 : tie.Need-returns-in-Urlbar
unfolding program
returns-2 c = happened (cookies_in c.args.new) c.before.before.in-Urlbar.is c.urlbar.ensures

returns-3 : tie.Need-returns-in-Reload
unfolding program
returns-3 c = happened (cookies_in c.args.new) c.before.before.in-Reload.is c.reload.ensures

returns-4 : tie.Need-returns-in-GoForward
unfolding program
returns-4 c = happened (cookies_in c.args.new) c.before.before.in-GoForward.is c.forward.ensures

returns-5 : tie.Need-returns-in-GoBack
unfolding program
returns-5 c = happened (cookies_in c.args.new) c.before.before.in-GoBack.is c.back.ensures

returns-6 : tie.Need-returns-in-CloseCorrupt
unfolding program
returns-6 c = happened (cookies_in c.args.new) c.before.before.in-CloseCorrupt.is c.close_corrupt.ensures

returns-7 : tie.Need-returns-in-EncryptedAnswer
unfolding program
returns-7 c = happened (cookies_in c.args.new) c.before.before.in-EncryptedAnswer.is c.encrypted_answer.ensures

returns-8 : tie.Need-returns-in-PlainAnswer
unfolding program
returns-8 c = happened (cookies_in c.args.new) c.before.before.in-PlainAnswer.is c.plain_answer.ensures

returns-9 : tie.Need-returns-in-DnsResolved
unfolding program
returns-9 c = happened (cookies_in c.args.new) c.before.before.in-DnsResolved.is c.resolved.ensures

pub happen_spec : {M : Type 1} → statement M
happen_spec = tie.close (tie.spec (λ c. search rules) (λ c κs. tt) (λ c. search rules) (λ c κs. tt) (λ c. search rules) (λ c κs. tt) (λ c. search rules) (λ c κs. tt) (λ c. search rules) (λ c κs. tt) (λ c. search rules) (λ c κs. tt) (λ c. search rules) (λ c κs. tt) (λ c. search rules) (λ c κs. tt) (λ c. search rules) (λ c κs. tt) returns returns-2 returns-3 returns-4 returns-5 returns-6 returns-7 returns-8 returns-9)
