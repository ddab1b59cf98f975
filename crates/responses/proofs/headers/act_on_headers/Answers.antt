-- The request is dropped, the cookies are put in, and the host where the header says so.
use Rattle.std.proofs.Common.{rules}
use Rattle.types.specs.Lists.{cookies_in}
use Rattle.tables.specs.Tables.{pending_requests}
use Rattle.stepping.proofs.Carry.{keep-carries}
use Rattle.responses.proofs.Acting.{acts}
use Rattle.responses.proofs.headers.act_on_headers.Goals as goal

pub returns-then-stored : goal.returns-then-stored
returns-then-stored c = acts c.args.w c.args.a (cookies_in c.args.few) (keep-carries pending_requests c.remove.ensures) c.taken-good.ensures c.put_cookies-stored.ensures c.put_strict-strict.ensures (search rules)

pub returns-else-stored : goal.returns-else-stored
returns-else-stored c = acts c.args.w c.args.a (cookies_in c.args.few) (keep-carries pending_requests c.remove.ensures) c.taken-good.ensures c.put_cookies-stored.ensures c.put_strict-strict.ensures (search rules)
