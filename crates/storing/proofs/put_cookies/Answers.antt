-- At most four rows are put in.
use Rattle.sorted.proofs.Edits.{puts-only}
use Rattle.types.specs.Lists.{cookies_in}
use Rattle.tables.specs.Tables.{cookies, Key, changed}
use Rattle.wim.specs.Cookies.{row_for, store_all}
use Rattle.browser.proofs.Frame.{changes-one}
use Rattle.stepping.proofs.Carry.{puts-carry}
use Rattle.storing.proofs.put_cookies.Goals as goal

pub returns : goal.returns
returns c =
    let a = c.args in
    let cs = cookies_in a.few in
    let p = c.put_all.ensures in
    puts-carry cookies (store_all a.h cs) a.m.now _ _ (puts-only (Key cookies) (row_for a.h) cs) p.rows.had (λ e. changes-one cookies (changed cookies (store_all a.h cs)) p.rest (p.rows.rows e))
