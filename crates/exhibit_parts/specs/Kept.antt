-- What is shown of the rows of one table: the tests, the lookups and the terms of wim's Shown under names of their own.
use Rattle.std.specs.Prelude.{Bool, not, ◌&&◌, List}
use Rattle.std.specs.Prelude.{Option}
use Rattle.csexp.specs.Term.{Term}
use Rattle.sorted.specs.Table.{at}
use Rattle.tables.specs.Tables.{local_storage, session_storage, is_secure, key_of, cmp}
use Rattle.tables.specs.Rows.{same_document, same_host, goes_over}
use Rattle.wim.specs.Nouns.{WindowNumber, DocumentNumber, Origin, HostCookie, LocalValue, SessionValue, Input}
use Rattle.wim.specs.Shown.{news_term}

-- INPUTS of a document.
abbrev pub is_for : DocumentNumber → Input → Bool
is_for n i = same_document i.document n

abbrev pub input_term : Input → Term
input_term i = news_term i.news

-- COOKIES that a script of this origin may see.
abbrev pub is_open_to : Origin → HostCookie → Bool
is_open_to o r = same_host r.host o.host && (not r.cookie.httponly && goes_over o.protocol r.cookie)

-- STORAGE.
abbrev pub local_at : Origin → List LocalValue → Option LocalValue
local_at o rs = at (key_of local_storage) (cmp local_storage) (o.host.0, is_secure o.protocol) rs

abbrev pub session_at : Origin → WindowNumber → List SessionValue → Option SessionValue
session_at o top rs = at (key_of session_storage) (cmp session_storage) (o.host.0, (is_secure o.protocol, top.0)) rs
