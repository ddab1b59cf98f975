-- Events that go out, as terms (01 "The text": "Request headers stand as Cookie, Origin, Referer; Cookie is always there, even empty").
use Rattle.std.specs.Prelude.{cond, List, [], ℕ}
use Rattle.std.specs.Prelude.{Option, None as none, Some as some}
use Rattle.csexp.specs.Text.{text}
use Rattle.csexp.specs.Term.{Term, atom, list, Terms, nil, cons, write}
use Rattle.csexp.specs.Encode.{number_term, optional_term, each, labelled, joins}
use Rattle.types.specs.Lists.{header_pairs}
use Rattle.shapes.specs.Nouns.{Host, Address, DnsNumber, KeyNumber, Protocol, Plain, Secure, Fragment, Absent, Named, Url, Origin, CookieName, Pair, Jar, Method, OriginHeader, Unsent, Null, From, Referrer, Unknown, Known, Request}
pub use Rattle.shapes.specs.Nouns.{Message, resolve, unsealed, sealed}
use Rattle.shapes.specs.Words.{spelling}

-- 1:P or 1:S
abbrev pub protocol_term : Protocol → Term
protocol_term Plain = atom (text "P")
protocol_term Secure = atom (text "S")

-- () or a number
abbrev pub fragment_term : Fragment → Term
fragment_term Absent = list nil
fragment_term (Named n) = number_term n

-- (3:URL protocol host path parameters fragment)
abbrev pub url_term : Url → Term
url_term u =
    list
    (cons (atom (text "URL"))
    (cons (protocol_term u.protocol)
    (cons (number_term u.host.0)
    (cons (number_term u.path.0)
    (cons (optional_term u.parameters.0)
    (cons (fragment_term u.fragment) nil))))))

abbrev pub method_term : Method → Term
method_term m = atom (spelling m)

-- a number, or (6:__Host number)
abbrev pub name_term : CookieName → Term
name_term n = cond n.prefixed (labelled (text "__Host") n.number) (number_term n.number)

-- (name value)
abbrev pub pair_term : Pair → Term
pair_term p = list (cons (name_term p.name) (cons (number_term p.value.0) nil))

-- (6:Cookie (pair ..))
abbrev pub cookie_header : Jar → Term
cookie_header j = list (cons (atom (text "Cookie")) (cons (list (each pair_term (header_pairs j))) nil))

-- (host protocol)
abbrev pub origin_term : Origin → Term
origin_term o = list (cons (number_term o.host.0) (cons (protocol_term o.protocol) nil))

-- (6:Origin (host protocol)), (6:Origin 4:null), or none
abbrev pub origin_header : OriginHeader → Terms
origin_header Unsent = nil
origin_header Null = cons (list (cons (atom (text "Origin")) (cons (atom (text "null")) nil))) nil
origin_header (From o) = cons (list (cons (atom (text "Origin")) (cons (origin_term o) nil))) nil

-- (7:Referer url), or none
abbrev pub referer_header : Referrer → Terms
referer_header Unknown = nil
referer_header (Known u) = cons (list (cons (atom (text "Referer")) (cons (url_term u) nil))) nil

-- Cookie, Origin, Referer
abbrev pub headers_term : Request → Term
headers_term q = list (cons (cookie_header q.cookies) (joins (origin_header q.origin) (referer_header q.referrer)))

-- (7:HTTPReq (7:request number) method host path parameters headers body)
abbrev pub request_term : Request → Term
request_term q =
    list
    (cons (atom (text "HTTPReq"))
    (cons (labelled (text "request") q.number.0)
    (cons (method_term q.method)
    (cons (number_term q.host.0)
    (cons (number_term q.path.0)
    (cons (optional_term q.parameters.0)
    (cons (headers_term q)
    (cons (optional_term q.body.0) nil))))))))

-- (5:enc_a (request (3:key number)) (3:pub host)): "A host's public key is (3:pub1:5) for host 5"
abbrev pub sealed_term : KeyNumber → Request → Term
sealed_term k q =
    list
    (cons (atom (text "enc_a"))
    (cons (list (cons (request_term q) (cons (labelled (text "key") k.0) nil)))
    (cons (labelled (text "pub") q.host.0) nil)))

-- (10:DNSResolve host (3:dns number))
abbrev pub question_term : Host → DnsNumber → Term
question_term h n = list (cons (atom (text "DNSResolve")) (cons (number_term h.0) (cons (labelled (text "dns") n.0) nil)))

-- (receiver sender message): "the browser has address 1, its DNS server 2"
abbrev pub event_term : ℕ → Term → Term
event_term receiver message = list (cons (number_term receiver) (cons (number_term 1) (cons message nil)))

-- MESSAGES that go out. The event that carries a message: to the DNS server, which has address 2, or to a host's address
unfoldable pub event_of : Message → Term
event_of (resolve h n) = event_term 2 (question_term h n)
event_of (unsealed a q) = event_term a.0 (request_term q)
event_of (sealed a k q) = event_term a.0 (sealed_term k q)

abbrev pub event_text : Option Message → List ℕ
event_text none = []
event_text (some m) = write (event_of m)
