-- 000 A8:2 to 6, A9:59 and 62: the edits of `act_on_headers` in `wim`, as a function.
use Rattle.std.specs.Prelude.{List, [], ◌∷◌}
use Rattle.types.specs.declared.answers.Answer.{Answer}
use Rattle.types.specs.declared.cookies.Cookie.{Cookie}
use Rattle.types.specs.declared.rows.Waiting.{Waiting}
use Rattle.sorted.specs.Table.{drop}
use Rattle.tables.specs.Tables.{cookies, pending_requests, sts, Tables, apply}
use Rattle.wim.specs.Cookies.{add_cookies}
use Rattle.wim.specs.Response.{strict_host}

abbrev pub acted : Waiting → Answer → List Cookie → Tables → Tables
acted w a new b =
    apply sts (strict_host w a)
    (apply cookies (add_cookies w.request.host new w.url.protocol)
    (apply pending_requests (drop w.request.number.0 ∷ []) b))
