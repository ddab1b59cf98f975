-- What every script step stores (000 A7:11 to 14), as the beginning of a program and as the change that it makes to the tables.
use Rattle.std.specs.Prelude.{map}
use Rattle.types.specs.Lists.{cookies_in}
use Rattle.tables.specs.Tables.{documents, cookies, local_storage, session_storage, Tables, update, apply}
use Rattle.tables.specs.Rows.{origin_of, with_state, changing}
use Rattle.wim.specs.Cookies.{store_all}
use Rattle.wim.specs.Program.{Program}
use Rattle.wim.specs.Script.{store_local, store_session, store}
use Rattle.storing.specs.declared.scene.Scene.{Scene}

abbrev pub storing : Scene → Program → Program
storing s p = store s.document s.top (cookies_in s.merged) s.output p

abbrev pub stored : Scene → Tables → Tables
stored s w =
    update documents (map (changing s.document.number (with_state s.output.state)))
    (apply session_storage (store_session (origin_of s.document) s.top s.output.session)
    (apply local_storage (store_local (origin_of s.document) s.output.local)
    (apply cookies (store_all s.document.location.host (cookies_in s.merged)) w)))
