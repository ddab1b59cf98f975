-- The rows before i are done.
use Rattle.layouts.specs.Tables.{host_cookies_in}
use Rattle.wim.specs.Shown.{cookie_term}
use Rattle.exhibit_parts.specs.Kept.{is_open_to}
use Rattle.exhibit_parts.proofs.Passing.{Passing}
use Rattle.exhibit_parts.proofs.cookie_terms.write_cookies.Given as goal

abbrev pub invariant-loop-i : goal.invariant-loop-i
invariant-loop-i l = Passing host_cookies_in (is_open_to l.origin) cookie_term l.m l.i-end l.i l.initial.out l.initial.p l.out l.p
