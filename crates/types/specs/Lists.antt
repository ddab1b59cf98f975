-- Lists that stand in an array beside a count: the first `count` rows are meant; a count beyond the array is read as its length.
use Rattle.std.specs.Prelude.{List, take}
use Rattle.types.specs.declared.WindowNumber.{WindowNumber}
use Rattle.types.specs.declared.WindowNumbers.{WindowNumbers}
use Rattle.types.specs.declared.DocumentNumber.{DocumentNumber}
use Rattle.types.specs.declared.DocumentNumbers.{DocumentNumbers}
use Rattle.types.specs.declared.cookies.Cookie.{Cookie}
use Rattle.types.specs.declared.cookies.SetCookies.{SetCookies}
use Rattle.types.specs.declared.cookies.Pair.{Pair}
use Rattle.types.specs.declared.cookies.Jar.{Jar}

abbrev pub window_numbers : WindowNumbers → List WindowNumber
window_numbers ws = take ws.count ws.rows

abbrev pub document_numbers : DocumentNumbers → List DocumentNumber
document_numbers ds = take ds.count ds.rows

-- the cookies of an answer, or of a script's step
abbrev pub cookies_in : SetCookies → List Cookie
cookies_in cs = take cs.count cs.rows

-- the pairs of a Cookie header
abbrev pub header_pairs : Jar → List Pair
header_pairs j = take j.count j.rows
