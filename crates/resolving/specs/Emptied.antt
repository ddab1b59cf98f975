-- What closing leaves of the tables: the edits of `close_corrupt` as a function (000 A9:48 to 52).
use Rattle.std.specs.Prelude.{false, not, [], ◌∷◌}
use Rattle.types.specs.declared.rows.HostCookie.{HostCookie}
use Rattle.sorted.specs.Table.{sift}
use Rattle.tables.specs.Tables.{windows, documents, cookies, session_storage, inputs, pending_dns, pending_requests, Table, Tables, apply}

-- a table without its rows
abbrev pub without : Table → Tables → Tables
without t = apply t (sift (λ r. false) ∷ [])

abbrev pub emptied : Tables → Tables
emptied b =
    apply cookies (sift (λ (r : HostCookie). not r.cookie.session) ∷ [])
    (without session_storage (without pending_requests (without pending_dns (without inputs (without documents (without windows b))))))
