-- Which numbers stand in a row, computed at one row of each table whose numbers are all different (01, refusal 5: "anywhere in the tables under
-- its label, references included").
use mathlib.Core.Path.{◌≡◌, refl}
use mathlib.Core.Bool.{true}
use mathlib.Core.List.{[], ◌∷◌}
use Rattle.tables.specs.Nouns.{Plain, Get, Unsent, Unknown, Absent, Unset, Unmatched, Number, Url, Origin, Request, Req, Xhr, Keyed, Under, OpenedBy, Answered, Posted}
use Rattle.tables.specs.Tables.{windows, documents, session_storage, inputs, pending_dns, pending_requests}
use Rattle.tables.specs.Labels.{window, request, dns, key, document, host, mentions}
use Rattle.tables.specs.Rows.{jar}

abbrev pub url : Url
url = record { protocol = Plain; host = record { 0 = 9 }; path = record { 0 = 0 }; parameters = record { 0 = 0 }; fragment = Absent }

abbrev pub origin : Origin
origin = record { host = record { 0 = 9 }; protocol = Plain }

abbrev pub asked : Request
asked = record {
  number = record { 0 = 2 };
  method = Get;
  host = record { 0 = 9 };
  path = record { 0 = 0 };
  parameters = record { 0 = 0 };
  cookies = jar [];
  origin = Unsent;
  referrer = Unknown;
  body = record { 0 = 0 };
}

-- a window, the document that holds it and its opener
pub in_window : mentions windows (record { number = record { 0 = 1 }; parent = Under (record { 0 = 5 }); opener = OpenedBy (record { 0 = 7 }) }) ≡ (window, 1) ∷ ((document, 5) ∷ ((window, 7) ∷ []))
in_window = refl

-- a document and its window
pub in_document : mentions documents (record { window = record { 0 = 1 }; place = 3; number = record { 0 = 5 }; location = url; policy = Unset; referrer = Unknown; script = record { 0 = 0 }; state = record { 0 = 0 }; active = true })
    ≡ (window, 1) ∷ ((document, 5) ∷ [])
in_document = refl

-- a session row's top-level window
pub in_session : mentions session_storage (record { origin = origin; top = record { 0 = 1 }; value = record { 0 = 8 } }) ≡ (host, 9) ∷ ((window, 1) ∷ [])
in_session = refl

-- an input's document, and the window that sent it
pub in_message : mentions inputs (record { document = record { 0 = 5 }; arrival = 3; news = Posted (record { 0 = 1 }) origin 8 }) ≡ (document, 5) ∷ ((window, 1) ∷ [])
in_message = refl

pub in_answer : mentions inputs (record { document = record { 0 = 5 }; arrival = 3; news = Answered Unmatched (Number 8) }) ≡ (document, 5) ∷ []
in_answer = refl

-- a question, its request, and what the answer is for
pub in_question : mentions pending_dns (record { number = record { 0 = 3 }; reference = Req (record { 0 = 1 }); request = asked; url = url }) ≡ (dns, 3) ∷ ((request, 2) ∷ ((window, 1) ∷ []))
in_question = refl

-- a waiting request, its key, and what the answer is for
pub in_waiting : mentions pending_requests (record { reference = Xhr (record { 0 = 5 }) Unmatched; request = asked; url = url; seal = Keyed (record { 0 = 4 }); address = record { 0 = 6 } })
    ≡ (request, 2) ∷ ((key, 4) ∷ ((document, 5) ∷ []))
in_waiting = refl
