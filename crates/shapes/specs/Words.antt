-- The parts that both directions share: the words, the ranges (01 "Numbers, names, sizes"), the methods of RFC 9110, the statuses that redirect.
use Rattle.std.specs.Prelude.{Bool, ◌||◌, List, [], ◌∷◌, ℕ, eqb, get_or}
use Rattle.csexp.specs.Text.{text}
use Rattle.shapes.specs.Nouns.{Method, Get, Head, Post, Put, Delete, Connect, Options, Trace}

-- host, network address, path, cookie name
abbrev pub most16 : ℕ
most16 = 65535

-- labelled numbers, and the values of 32 bits
abbrev pub most32 : ℕ
most32 = 4294967295

-- "Methods are the eight of RFC 9110"
abbrev pub spellings : List (List ℕ)
spellings = text "GET" ∷ text "HEAD" ∷ text "POST" ∷ text "PUT" ∷ text "DELETE" ∷ text "CONNECT" ∷ text "OPTIONS" ∷ text "TRACE" ∷ []

abbrev pub row_of : Method → ℕ
row_of Get = 0
row_of Head = 1
row_of Post = 2
row_of Put = 3
row_of Delete = 4
row_of Connect = 5
row_of Options = 6
row_of Trace = 7

abbrev pub method_in : ℕ → Method
method_in i = get_or (Get ∷ Head ∷ Post ∷ Put ∷ Delete ∷ Connect ∷ Options ∷ Trace ∷ []) i Trace

abbrev pub spelling : Method → List ℕ
spelling m = get_or spellings (row_of m) []

-- "only 303 and 307 with a Location redirect"
abbrev pub redirects : ℕ → Bool
redirects n = eqb n 303 || eqb n 307
