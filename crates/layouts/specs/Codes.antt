-- Parts of rows as numbers: a part's decoder takes the list of the part's own numbers. Any numbers say something.
use Rattle.std.specs.Prelude.{Bool, cond, not, List, ℕ, Option, None, Some, ◌%◌, eqb, get_or, take, drop}
use Rattle.tables.specs.Nouns.{Parent, Top, Under, Opener, Nobody, OpenedBy, Policy, Unset, NoReferrer, OriginOnly, Seal, Keyless, Keyed, Body, Number, Page, News, Answered, Posted, Origin, Protocol, Plain, Secure, Fragment, Absent, Named, Url, Method, Get, Head, Post, Put, Delete, Connect, Options, Trace, OriginHeader, Unsent, Null, From, Referrer, Unknown, Known, Matching, Unmatched, By, Reference, Req, Xhr}

abbrev pub flag_of : ℕ → Bool
flag_of tag = not (eqb tag 0)

abbrev pub protocol_of : ℕ → Protocol
protocol_of tag = cond (eqb tag 0) Plain Secure

-- what may be absent
abbrev pub perhaps : ℕ → ℕ → Option ℕ
perhaps tag n = cond (eqb tag 0) None (Some n)

abbrev pub fragment_of : ℕ → ℕ → Fragment
fragment_of tag n = cond (eqb tag 0) Absent (Named n)

abbrev pub matching_of : ℕ → ℕ → Matching
matching_of tag n = cond (eqb tag 0) Unmatched (By n)

abbrev pub method_of : ℕ → Method
method_of tag = cond (eqb tag 0) Get (cond (eqb tag 1) Head (cond (eqb tag 2) Post (cond (eqb tag 3) Put (cond (eqb tag 4) Delete (cond (eqb tag 5) Connect (cond (eqb tag 6) Options Trace))))))

abbrev pub policy_of : ℕ → Policy
policy_of tag = cond (eqb tag 0) Unset (cond (eqb tag 1) NoReferrer OriginOnly)

-- two each
abbrev pub parent_of : List ℕ → Parent
parent_of c = cond (eqb (get_or c 0 0) 0) Top (Under (record { 0 = get_or c 1 0 }))

abbrev pub opener_of : List ℕ → Opener
opener_of c = cond (eqb (get_or c 0 0) 0) Nobody (OpenedBy (record { 0 = get_or c 1 0 }))

abbrev pub seal_of : List ℕ → Seal
seal_of c = cond (eqb (get_or c 0 0) 0) Keyless (Keyed (record { 0 = get_or c 1 0 }))

abbrev pub site_of : List ℕ → Origin
site_of c = record { host = record { 0 = get_or c 0 0 % 65536 }; protocol = protocol_of (get_or c 1 0) }

-- six
abbrev pub url_of : List ℕ → Url
url_of c = record {
  protocol = protocol_of (get_or c 0 0);
  host = record { 0 = get_or c 1 0 % 65536 };
  path = record { 0 = get_or c 2 0 % 65536 };
  parameters = record { 0 = get_or c 3 0 };
  fragment = fragment_of (get_or c 4 0) (get_or c 5 0);
}

-- seven
abbrev pub referrer_from : ℕ → Url → Referrer
referrer_from tag u = cond (eqb tag 0) Unknown (Known u)

abbrev pub referrer_of : List ℕ → Referrer
referrer_of c = referrer_from (get_or c 0 0) (url_of (take 6 (drop 1 c)))

-- four
abbrev pub reference_from : ℕ → ℕ → Matching → Reference
reference_from tag n x = cond (eqb tag 0) (Req (record { 0 = n })) (Xhr (record { 0 = n }) x)

abbrev pub reference_of : List ℕ → Reference
reference_of c = reference_from (get_or c 0 0) (get_or c 1 0) (matching_of (get_or c 2 0) (get_or c 3 0))

-- three
abbrev pub origin_from : ℕ → ℕ → Protocol → OriginHeader
origin_from tag h p = cond (eqb tag 0) Unsent (cond (eqb tag 1) Null (From (record { host = record { 0 = h }; protocol = p })))

abbrev pub origin_of : List ℕ → OriginHeader
origin_of c = origin_from (get_or c 0 0) (get_or c 1 0 % 65536) (protocol_of (get_or c 2 0))

-- three
abbrev pub body_of : List ℕ → Body
body_of c = cond (eqb (get_or c 0 0) 0) (Number (get_or c 1 0)) (Page (record { 0 = get_or c 1 0 }) (record { 0 = get_or c 2 0 }))

-- six: a matching number and a body, or the sender's window, its origin and the message
abbrev pub news_of : List ℕ → News
news_of c =
    cond (eqb (get_or c 0 0) 0)
    (Answered (matching_of (get_or c 1 0) (get_or c 2 0)) (body_of (take 3 (drop 3 c))))
    (Posted (record { 0 = get_or c 1 0 }) (site_of (take 2 (drop 2 c))) (get_or c 4 0))
