-- Labels: the numbers that stand in the tables, each under its own kind, so that a window's number is never taken for a document's.
use Rattle.std.specs.Prelude.{Bool, true, false, not, ◌&&◌, ◌||◌, List, [], ◌∷◌, ◌++◌, ℕ, eqb}
use Rattle.tables.specs.Nouns.{Parent, Top, Under, Opener, Nobody, OpenedBy, Reference, Req, Xhr, Seal, Keyless, Keyed, News, Answered, Posted}
use Rattle.tables.specs.Tables.{Table, windows, documents, cookies, local_storage, session_storage, inputs, pending_dns, pending_requests, sts, Row, Key, key_of, Tables}

-- Hosts have a kind too, since rows of cookies, storage and STS belong to one; no host is ever brought.
pub data Kind : Type 0 where
  window request dns key document host : Kind

abbrev pub Label : Type 0
Label = Kind × ℕ

-- kinds compared: by their place in 01's order of fresh numbers
abbrev pub code : Kind → ℕ
code window = 0
code request = 1
code dns = 2
code key = 3
code document = 4
code host = 5

abbrev pub same_label : Label → Label → Bool
same_label l m = eqb (code l.0) (code m.0) && eqb l.1 m.1

abbrev pub among : Label → List Label → Bool
among l [] = false
among l (m ∷ ms) = same_label l m || among l ms

abbrev pub parent_label : Parent → List Label
parent_label Top = []
parent_label (Under d) = (document, d.0) ∷ []

abbrev pub opener_label : Opener → List Label
opener_label Nobody = []
opener_label (OpenedBy w) = (window, w.0) ∷ []

abbrev pub seal_label : Seal → List Label
seal_label Keyless = []
seal_label (Keyed k) = (key, k.0) ∷ []

-- what a reference leads to: a window, or the document of an XHR
abbrev pub leads : Reference → Label
leads (Req w) = (window, w.0)
leads (Xhr d m) = (document, d.0)

abbrev pub sender_label : News → List Label
sender_label (Answered m b) = []
sender_label (Posted w o m) = (window, w.0) ∷ []

-- the label that a row's key belongs to
abbrev pub tag : (t : Table) → Key t → Label
tag windows k = (window, k)
tag documents k = (window, k.0)
tag cookies k = (host, k.0)
tag local_storage k = (host, k.0)
tag session_storage k = (host, k.0)
tag inputs k = (document, k.0)
tag pending_dns k = (dns, k)
tag pending_requests k = (request, k)
tag sts k = (host, k)

-- labels that belong together with the row's own
abbrev pub ties : (t : Table) → Row t → List Label
ties windows r = parent_label r.parent
ties documents r = (document, r.number.0) ∷ []
ties cookies r = []
ties local_storage r = []
ties session_storage r = []
ties inputs r = []
ties pending_dns r = (request, r.request.number.0) ∷ []
ties pending_requests r = seal_label r.seal
ties sts r = []

-- labels that the row merely refers to
abbrev pub refs : (t : Table) → Row t → List Label
refs windows r = opener_label r.opener
refs documents r = []
refs cookies r = []
refs local_storage r = []
refs session_storage r = (window, r.top.0) ∷ []
refs inputs r = sender_label r.news
refs pending_dns r = leads r.reference ∷ []
refs pending_requests r = leads r.reference ∷ []
refs sts r = []

-- every label that stands in a row, references included (refusal 5)
abbrev pub mentions : (t : Table) → Row t → List Label
mentions t r = tag t (key_of t r) ∷ (ties t r ++ refs t r)

-- a label stands nowhere in a table
unfoldable pub clean : (t : Table) → Label → List (Row t) → Bool
clean t l [] = true
clean t l (r ∷ rs) = not (among l (mentions t r)) && clean t l rs

-- a test of every table
abbrev pub every : (Table → Bool) → Bool
every f = f windows && (f documents && (f cookies && (f local_storage && (f session_storage && (f inputs && (f pending_dns && (f pending_requests && f sts)))))))

unfoldable pub is_fresh : Tables → Label → Bool
is_fresh b l = every (λ t. clean t l (b t))
