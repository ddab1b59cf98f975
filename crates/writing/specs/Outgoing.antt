-- Events that go out, read off terms: the mirror of how they are written (shapes' Events).
use Rattle.std.specs.Prelude.{cond, List, [], ◌∷◌, ℕ, eqb}
use Rattle.std.specs.Prelude.{Option, None as none}
use Rattle.csexp.specs.Text.{text}
use Rattle.csexp.specs.Term.{Term}
use Rattle.csexp.specs.Read.{Got, no, got, read}
use Rattle.csexp.specs.Decode.{Decoder, Fields, inside, one, end, up_to, perhaps, either, maps, word, means, numeral, optional_of, labelled_of}
use Rattle.tables.specs.Rows.{jar}
use Rattle.shapes.specs.Nouns.{KeyNumber, Pair, Jar, OriginHeader, Unsent, Null, From, Referrer, Unknown, Known, Request}
use Rattle.shapes.specs.Words.{most16, most32}
use Rattle.shapes.specs.Items.{url_of, origin_of, name_of, method_of, header_of}
use Rattle.shapes.specs.Events.{Message, resolve, unsealed, sealed}

-- (name value)
abbrev pub pair_of : Decoder Pair
pair_of = inside (one name_of λ name. one (numeral 0 most32) λ value. end (record { name = name; value = record { 0 = value } }))

-- 4:null or (host protocol)
abbrev pub origin_header_of : Decoder OriginHeader
origin_header_of = either (means (text "null") Null) (maps From origin_of)

-- the headers of a request
pub record Carried : Type 0 where
  pub cookies : Jar
  pub origin : OriginHeader
  pub referrer : Referrer

-- Origin and Referer, which may be absent
abbrev pub behind_cookie : Jar → Fields Carried
behind_cookie j =
    perhaps Unsent (λ o. o) (header_of (text "Origin") origin_header_of) λ origin.
    perhaps Unknown Known (header_of (text "Referer") url_of) λ referrer.
    end (record { cookies = j; origin = origin; referrer = referrer })

-- Cookie, Origin, Referer
abbrev pub headers_of : Decoder Carried
headers_of = inside (one (header_of (text "Cookie") (inside (up_to 64 pair_of))) λ ps. behind_cookie (jar ps))

-- (7:HTTPReq (7:request number) method host path parameters headers body)
abbrev pub request_of : Decoder Request
request_of =
    inside
    (one (word (text "HTTPReq")) λ _.
    one (labelled_of (text "request") 1 most32) λ number.
    one method_of λ method.
    one (numeral 1 most16) λ host.
    one (numeral 0 most16) λ path.
    one (optional_of most32) λ parameters.
    one headers_of λ carried.
    one (optional_of most32) λ body.
    end (record {
      number = record { 0 = number };
      method = method;
      host = record { 0 = host };
      path = record { 0 = path };
      parameters = record { 0 = parameters };
      cookies = carried.cookies;
      origin = carried.origin;
      referrer = carried.referrer;
      body = record { 0 = body };
    }))

-- (request (3:key number))
pub record Keyed : Type 0 where
  pub request : Request
  pub key : KeyNumber

abbrev pub keyed_of : Decoder Keyed
keyed_of = inside (one request_of λ q. one (labelled_of (text "key") 1 most32) λ k. end (record { request = q; key = record { 0 = k } }))

-- (5:enc_a keyed (3:pub host)): the public key is that of the request's host
abbrev pub sealed_of : ℕ → Decoder Message
sealed_of a =
    inside
    (one (word (text "enc_a")) λ _.
    one keyed_of λ s.
    one (labelled_of (text "pub") s.request.host.0 s.request.host.0) λ _.
    end (sealed (record { 0 = a }) s.key s.request))

-- (10:DNSResolve host (3:dns number))
abbrev pub question_of : Decoder Message
question_of =
    inside
    (one (word (text "DNSResolve")) λ _.
    one (numeral 1 most16) λ host.
    one (labelled_of (text "dns") 1 most32) λ n.
    end (resolve (record { 0 = host }) (record { 0 = n })))

-- a message to the address a: questions go to the DNS server alone
abbrev pub message_to : ℕ → Decoder Message
message_to a =
    either (maps (unsealed (record { 0 = a })) request_of)
    (either (sealed_of a)
    (cond (eqb a 2) question_of (λ _. none)))

-- (receiver sender message): the sender is the browser, which has address 1
abbrev pub sent_of : Decoder Message
sent_of = inside (one (numeral 1 most16) λ receiver. one (numeral 1 1) λ _. one (message_to receiver) λ m. end m)

-- the message of a text that is one whole event
abbrev pub whole : Got Term → Option Message
whole no = none
whole (got t []) = sent_of t
whole (got t (b ∷ bs)) = none

abbrev pub sent_in : List ℕ → Option Message
sent_in s = whole (read s)
