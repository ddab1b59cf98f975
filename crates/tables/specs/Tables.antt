-- The nine tables in 01's order: rows, keys, orders, sizes (01 "Numbers, names, sizes"), and what a table is changed by.
use Rattle.std.specs.Prelude.{Bool, true, false, List, [], ℕ}
use Rattle.std.specs.declared.cmp.Ordering.{Ordering as Order}
use Rattle.sorted.specs.Order.{cmpℕ, cmp_bool, lex}
use Rattle.sorted.specs.Table.{Edit, acts}
use Rattle.tables.specs.Nouns.{Protocol, Plain, Secure, Window, Document, HostCookie, LocalValue, SessionValue, Input, Question, Waiting, StrictHost}

pub data Table : Type 0 where
  windows documents cookies local_storage session_storage inputs pending_dns pending_requests sts : Table

abbrev pub Row : Table → Type 0
Row windows = Window
Row documents = Document
Row cookies = HostCookie
Row local_storage = LocalValue
Row session_storage = SessionValue
Row inputs = Input
Row pending_dns = Question
Row pending_requests = Waiting
Row sts = StrictHost

-- "Cookies: host, then unprefixed before prefixed, then name. Documents: window, then place in its history. Inputs: document, then
-- arrival there. Both count from 1. The others: their number, host or origin (host, then P before S), session rows then by top window."
abbrev pub Key : Table → Type 0
Key windows = ℕ
Key documents = ℕ × ℕ
Key cookies = ℕ × (Bool × ℕ)
Key local_storage = ℕ × Bool
Key session_storage = ℕ × (Bool × ℕ)
Key inputs = ℕ × ℕ
Key pending_dns = ℕ
Key pending_requests = ℕ
Key sts = ℕ

-- P before S, as false stands before true
abbrev pub is_secure : Protocol → Bool
is_secure Plain = false
is_secure Secure = true

abbrev pub key_of : (t : Table) → Row t → Key t
key_of windows r = r.number.0
key_of documents r = (r.window.0, r.place)
key_of cookies r = (r.host.0, (r.cookie.name.prefixed, r.cookie.name.number))
key_of local_storage r = (r.origin.host.0, is_secure r.origin.protocol)
key_of session_storage r = (r.origin.host.0, (is_secure r.origin.protocol, r.top.0))
key_of inputs r = (r.document.0, r.arrival)
key_of pending_dns r = r.number.0
key_of pending_requests r = r.request.number.0
key_of sts r = r.host.0

abbrev pub cmp : (t : Table) → Key t → Key t → Order
cmp windows = cmpℕ
cmp documents = lex cmpℕ cmpℕ
cmp cookies = lex cmpℕ (lex cmp_bool cmpℕ)
cmp local_storage = lex cmpℕ cmp_bool
cmp session_storage = lex cmpℕ (lex cmp_bool cmpℕ)
cmp inputs = lex cmpℕ cmpℕ
cmp pending_dns = cmpℕ
cmp pending_requests = cmpℕ
cmp sts = cmpℕ

-- "Tables at most"
abbrev pub cap : Table → ℕ
cap windows = 32
cap documents = 64
cap cookies = 64
cap local_storage = 32
cap session_storage = 32
cap inputs = 64
cap pending_dns = 16
cap pending_requests = 16
cap sts = 32

-- the place of a table in 01's list
abbrev pub index : Table → ℕ
index windows = 0
index documents = 1
index cookies = 2
index local_storage = 3
index session_storage = 4
index inputs = 5
index pending_dns = 6
index pending_requests = 7
index sts = 8

abbrev pub Tables : Type 0
Tables = (t : Table) → List (Row t)

abbrev pub no_rows : Tables
no_rows t = []

-- Changes of one table; the others stay as they are.
abbrev pub update : (t : Table) → (List (Row t) → List (Row t)) → Tables → Tables
update windows f b windows = f (b windows)
update windows f b documents = b documents
update windows f b cookies = b cookies
update windows f b local_storage = b local_storage
update windows f b session_storage = b session_storage
update windows f b inputs = b inputs
update windows f b pending_dns = b pending_dns
update windows f b pending_requests = b pending_requests
update windows f b sts = b sts
update documents f b windows = b windows
update documents f b documents = f (b documents)
update documents f b cookies = b cookies
update documents f b local_storage = b local_storage
update documents f b session_storage = b session_storage
update documents f b inputs = b inputs
update documents f b pending_dns = b pending_dns
update documents f b pending_requests = b pending_requests
update documents f b sts = b sts
update cookies f b windows = b windows
update cookies f b documents = b documents
update cookies f b cookies = f (b cookies)
update cookies f b local_storage = b local_storage
update cookies f b session_storage = b session_storage
update cookies f b inputs = b inputs
update cookies f b pending_dns = b pending_dns
update cookies f b pending_requests = b pending_requests
update cookies f b sts = b sts
update local_storage f b windows = b windows
update local_storage f b documents = b documents
update local_storage f b cookies = b cookies
update local_storage f b local_storage = f (b local_storage)
update local_storage f b session_storage = b session_storage
update local_storage f b inputs = b inputs
update local_storage f b pending_dns = b pending_dns
update local_storage f b pending_requests = b pending_requests
update local_storage f b sts = b sts
update session_storage f b windows = b windows
update session_storage f b documents = b documents
update session_storage f b cookies = b cookies
update session_storage f b local_storage = b local_storage
update session_storage f b session_storage = f (b session_storage)
update session_storage f b inputs = b inputs
update session_storage f b pending_dns = b pending_dns
update session_storage f b pending_requests = b pending_requests
update session_storage f b sts = b sts
update inputs f b windows = b windows
update inputs f b documents = b documents
update inputs f b cookies = b cookies
update inputs f b local_storage = b local_storage
update inputs f b session_storage = b session_storage
update inputs f b inputs = f (b inputs)
update inputs f b pending_dns = b pending_dns
update inputs f b pending_requests = b pending_requests
update inputs f b sts = b sts
update pending_dns f b windows = b windows
update pending_dns f b documents = b documents
update pending_dns f b cookies = b cookies
update pending_dns f b local_storage = b local_storage
update pending_dns f b session_storage = b session_storage
update pending_dns f b inputs = b inputs
update pending_dns f b pending_dns = f (b pending_dns)
update pending_dns f b pending_requests = b pending_requests
update pending_dns f b sts = b sts
update pending_requests f b windows = b windows
update pending_requests f b documents = b documents
update pending_requests f b cookies = b cookies
update pending_requests f b local_storage = b local_storage
update pending_requests f b session_storage = b session_storage
update pending_requests f b inputs = b inputs
update pending_requests f b pending_dns = b pending_dns
update pending_requests f b pending_requests = f (b pending_requests)
update pending_requests f b sts = b sts
update sts f b windows = b windows
update sts f b documents = b documents
update sts f b cookies = b cookies
update sts f b local_storage = b local_storage
update sts f b session_storage = b session_storage
update sts f b inputs = b inputs
update sts f b pending_dns = b pending_dns
update sts f b pending_requests = b pending_requests
update sts f b sts = f (b sts)

abbrev pub Edits : Table → Type 0
Edits t = List (Edit (Row t) (Key t))

abbrev pub changed : (t : Table) → Edits t → List (Row t) → List (Row t)
changed t es l = acts (key_of t) (cmp t) es l

abbrev pub apply : (t : Table) → Edits t → Tables → Tables
apply t es b = update t (changed t es) b
