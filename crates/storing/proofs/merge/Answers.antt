-- One rule after the other.
use Rattle.std.proofs.Common.{rules, ◌∙◌, ap, Bool}
use mathlib.Core.Bool.{not}
use Rattle.types.specs.declared.cookies.Cookie.{Cookie}
use Rattle.types.specs.declared.rows.HostCookie.{HostCookie}
use Rattle.sorted.specs.Table.{keep}
use Rattle.tables.specs.Rows.{same_host}
use Rattle.wim.specs.Cookies.{latest, guarded, cookie_merge}
use Rattle.memory.specs.Rows.{table}
use Rattle.layouts.specs.Tables.{host_cookies_in}
use Rattle.storing.proofs.Sifting.{sifted-keep}
use Rattle.storing.proofs.merge.Goals as goal

pub returns : goal.returns
unfolding cookie_merge
returns c =
    let p : Cookie → Bool = λ d. not (guarded (keep (λ (o : HostCookie). same_host o.host c.args.h) (table host_cookies_in c.args.m.now)) d) in
    c.kept.ensures (λ d k. p d) (λ d k b h. search rules) ∙ sifted-keep p 0 _ ∙ ap (keep p) (c.latest-last.ensures ∙ ap latest c.permitted.ensures)
