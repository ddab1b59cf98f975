-- What a memory says: nine tables, and open or closed. Whatever its numbers are, it says something.
use Rattle.std.specs.Prelude.{Bool, not, List, ℕ, ◌-◌, eqb, leb, length, get_or}
use Rattle.tables.specs.Tables.{Table, windows, documents, cookies, local_storage, session_storage, inputs, pending_dns, pending_requests, sts, Row, cap, Tables}
use Rattle.tables.specs.Labels.{every}
use Rattle.wim.specs.Step.{Browser}
use Rattle.memory.specs.Rows.{total, Layout, table}
use Rattle.layouts.specs.Tables.{windows_in, documents_in, host_cookies_in, local_in, session_in, inputs_in, questions_in, requests_in, sts_in}

abbrev pub laid : (t : Table) → Layout (Row t)
laid windows = windows_in
laid documents = documents_in
laid cookies = host_cookies_in
laid local_storage = local_in
laid session_storage = session_in
laid inputs = inputs_in
laid pending_dns = questions_in
laid pending_requests = requests_in
laid sts = sts_in

-- the rows that count
abbrev pub view : List ℕ → Tables
view m t = table (laid t) m

-- the last number tells whether the browser is closed
abbrev pub closed_at : ℕ
closed_at = total - 1

abbrev pub is_closed : List ℕ → Bool
is_closed m = not (eqb (get_or m closed_at 0) 0)

abbrev pub browser : List ℕ → Browser
browser m = record { tables = view m; closed = is_closed m }

-- every table has four free rows
abbrev pub is_roomy : List ℕ → Bool
is_roomy m = every (λ t. leb (length (view m t)) (cap t - 4))

-- a browser open or closed with the same tables
abbrev pub with_closed : Bool → Browser → Browser
with_closed x b = record { tables = b.tables; closed = x }
