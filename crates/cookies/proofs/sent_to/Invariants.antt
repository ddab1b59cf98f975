use Rattle.tables.specs.Rows.{pair_of, blank_pair}
use Rattle.memory.proofs.Picking.{Picking}
use Rattle.layouts.specs.Tables.{host_cookies_in}
use Rattle.cookies.specs.Sent.{goes_to}
use Rattle.cookies.proofs.sent_to.Given as goal

abbrev pub invariant-loop-i : goal.invariant-loop-i
invariant-loop-i l = Picking host_cookies_in (goes_to l.h l.p) pair_of blank_pair l.m l.i-end l.out.rows l.i l.j
