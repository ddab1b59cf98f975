-- HTTP_SEND in a memory (000 A4): a question is put, made of what the tables say then, and asked.
use Rattle.std.specs.Prelude.{◌≡◌, Bool, cond, ◌&&◌, List, [], ◌∷◌, map, ℕ, Some as some}
use Rattle.types.specs.declared.Fresh.{Fresh}
use Rattle.types.specs.declared.Sending.{Sending}
use Rattle.types.specs.declared.Url.{Url}
use Rattle.types.specs.declared.cookies.Pair.{Pair}
use Rattle.types.specs.declared.rows.Question.{Question}
use Rattle.sorted.specs.Table.{put}
use Rattle.tables.specs.Tables.{pending_dns, Tables, apply}
use Rattle.tables.specs.Rows.{jar, pair_of}
use Rattle.shapes.specs.Events.{resolve}
use Rattle.wim.specs.Program.{observed, strict, cookies_for}
use Rattle.wim.specs.Sending.{secured, question_of}
use Rattle.stepping.specs.Holds.{Carries}
use Rattle.stepping.specs.Gives.{Performed, concluded}

-- 2, 3: the address that goes out
abbrev pub url_from : Sending → Tables → Url
url_from o w = cond (observed (strict o.url.host) w) (secured o.url) o.url

-- 4: the cookies that go with it
abbrev pub chosen_from : Sending → Tables → List Pair
chosen_from o w = map pair_of (observed (cookies_for o.url.host (url_from o w).protocol) w)

-- 5 to 15
abbrev pub question_from : Sending → ℕ → ℕ → Tables → Question
question_from o q n w = question_of o (url_from o w) (jar (chosen_from o w)) q n

-- what `send` of the definitions makes of the tables, with these two fresh numbers
unfoldable pub sent : Sending → ℕ → ℕ → Tables → Tables
sent o q n w = apply pending_dns (put (question_from o q n w) ∷ []) w

-- the end of a step that sends: `room` says whether there was room before, `put` whether there was for the question
pub record Sends (room : Bool) (o : Sending) (f : Fresh) (m n : List ℕ) (r : Performed) : Type 0 where
  pub put : Bool
  pub carries : Carries (sent o f.request.0 f.dns.0) (pending_dns ∷ []) [] m n put
  pub concludes : r ≡ concluded (room && put) (some (resolve o.url.host f.dns))
