-- What goes out is read back, message by message: a law for each part.
use mathlib.Core.Path.{◌≡◌, refl, sym, ap, subst, ◌∙◌}
use mathlib.Core.Bool.{Bool, true, false, cond}
use mathlib.Core.List.{List}
use Rattle.std.specs.Prelude.{Some as some}
use Prim.Native.Nat.{ℕ}
use native.Mathlib.Omega.{arith}
use Rattle.csexp.specs.Text.{text}
use Rattle.csexp.specs.Term.{Terms, nil, cons, atom, list, write}
use Rattle.csexp.specs.Decode.{same, means, maps, word, atom_of}
use Rattle.csexp.proofs.Meaning.{read-written}
use Rattle.csexp.specs.Encode.{number_term, labelled, joins}
use Rattle.csexp.proofs.write.Backs.{Gives, Holds, Denies, in_list, then_one, at-end, first_of, second_of, by-maps, no-maps, no-list, is_vacant, is-filled, is-there, is-other, is_last, is_word, is-means, no-means, no_begin, is_number, no_number, is-labelled, is_optional, all_back}
use Rattle.shapes.specs.Nouns.{Protocol, Plain, Secure, Fragment, Absent, Named, Url, Origin, CookieName, Pair, Jar, Method, Get, Head, Post, Put, Delete, Connect, Options, Trace, OriginHeader, Unsent, Null, From, Referrer, Unknown, Known, Request}
use Rattle.shapes.specs.Items.{protocol_of, fragment_of, url_of, origin_of, name_of, method_of, header_of}
use Rattle.tables.specs.Rows.{jar}
use Rattle.shapes.specs.Ranges.{FragmentIn, UrlIn, NameIn, PairIn, OriginIn, OriginHeaderIn, ReferrerIn, pairs, RequestIn, MessageIn}
use Rattle.shapes.specs.Events.{protocol_term, fragment_term, url_term, method_term, name_term, pair_term, origin_term, origin_header, referer_header, headers_term, request_term, Message, resolve, unsealed, sealed, event_of}
use Rattle.writing.specs.Outgoing.{pair_of, origin_header_of, behind_cookie, headers_of, request_of, sent_of, whole, sent_in}

protocol_back : (p : Protocol) → Gives protocol_of (protocol_term p) p
unfolding same
protocol_back Plain = first_of _ (is-means _ _)
protocol_back Secure = second_of _ (no-means _ _ _ refl) (is-means _ _)

fragment-back : (f : Fragment) → FragmentIn f → Gives fragment_of (fragment_term f) f
unfolding number_term
fragment-back Absent i = is_vacant _ _
fragment-back (Named n) i = is-filled _ _ (no-list _ _) (is_number _ _ n i.low i.high)

pub url-back : (u : Url) → UrlIn u → Gives url_of (url_term u) u
url-back u i =
    in_list
    (then_one _ (is_word _)
    (then_one _ (protocol_back u.protocol)
    (then_one _ (is_number _ _ _ i.host.low i.host.high)
    (then_one _ (is_number _ _ _ i.path.low i.path.high)
    (then_one _ (is_optional _ _ i.parameters.high)
    (then_one _ (fragment-back u.fragment i.fragment)
    at-end))))))

method_back : (m : Method) → Gives method_of (method_term m) m
unfolding same
method_back Get = first_of _ (is-means _ _)
method_back Head = second_of _ (no-means _ _ _ refl) (first_of _ (is-means _ _))
method_back Post = second_of _ (no-means _ _ _ refl) (second_of _ (no-means _ _ _ refl) (first_of _ (is-means _ _)))
method_back Put =
    second_of _ (no-means _ _ _ refl)
    (second_of _ (no-means _ _ _ refl)
    (second_of _ (no-means _ _ _ refl) (first_of _ (is-means _ _))))
method_back Delete =
    second_of _ (no-means _ _ _ refl)
    (second_of _ (no-means _ _ _ refl)
    (second_of _ (no-means _ _ _ refl)
    (second_of _ (no-means _ _ _ refl) (first_of _ (is-means _ _)))))
method_back Connect =
    second_of _ (no-means _ _ _ refl)
    (second_of _ (no-means _ _ _ refl)
    (second_of _ (no-means _ _ _ refl)
    (second_of _ (no-means _ _ _ refl)
    (second_of _ (no-means _ _ _ refl) (first_of _ (is-means _ _))))))
method_back Options =
    second_of _ (no-means _ _ _ refl)
    (second_of _ (no-means _ _ _ refl)
    (second_of _ (no-means _ _ _ refl)
    (second_of _ (no-means _ _ _ refl)
    (second_of _ (no-means _ _ _ refl)
    (second_of _ (no-means _ _ _ refl) (first_of _ (is-means _ _)))))))
method_back Trace =
    second_of _ (no-means _ _ _ refl)
    (second_of _ (no-means _ _ _ refl)
    (second_of _ (no-means _ _ _ refl)
    (second_of _ (no-means _ _ _ refl)
    (second_of _ (no-means _ _ _ refl)
    (second_of _ (no-means _ _ _ refl)
    (second_of _ (no-means _ _ _ refl) (first_of _ (is-means _ _))))))))

name_back : (n : CookieName) → NameIn n → Gives name_of (name_term n) n
unfolding labelled
name_back n i = go n.prefixed
  where
    go : (c : Bool) → Gives name_of (cond c (labelled (text "__Host") n.number) (number_term n.number)) (record { prefixed = c; number = n.number })
    go false = first_of _ (by-maps _ (is_number _ _ _ i.low i.high))
    go true = second_of _ (no-maps _ (no_number _ _ _)) (by-maps _ (is-labelled _ _ _ _ i.low i.high))

pair_back : (p : Pair) → PairIn p → Gives pair_of (pair_term p) p
pair_back p i = in_list (then_one _ (name_back p.name i.name) (then_one _ (is_number _ _ _ i.value.low i.value.high) at-end))

origin-back : (o : Origin) → OriginIn o → Gives origin_of (origin_term o) o
origin-back o i = in_list (then_one _ (is_number _ _ _ i.low i.high) (then_one _ (protocol_back o.protocol) at-end))

-- a list is not a word
no-means-list : {A : Type 0} (w : List ℕ) (v : A) (ts : Terms) → Denies (means w v) (list ts)
unfolding means maps word atom_of
no-means-list w v ts = record { is = refl }

-- (6:Origin 4:null), (6:Origin (host protocol)), (7:Referer url)
null_back : Gives (header_of (text "Origin") origin_header_of) (list (cons (atom (text "Origin")) (cons (atom (text "null")) nil))) Null
null_back = in_list (then_one _ (is_word _) (then_one _ (first_of _ (is-means _ _)) at-end))

from_back : (o : Origin) → OriginIn o → Gives (header_of (text "Origin") origin_header_of) (list (cons (atom (text "Origin")) (cons (origin_term o) nil))) (From o)
from_back o i = in_list (then_one _ (is_word _) (then_one _ (second_of _ (no-means-list _ _ _) (by-maps From (origin-back o i))) at-end))

referer-back : (u : Url) → UrlIn u → Gives (header_of (text "Referer") url_of) (list (cons (atom (text "Referer")) (cons (url_term u) nil))) u
referer-back u i = in_list (then_one _ (is_word _) (then_one _ (url-back u i) at-end))

-- the headers behind Cookie, for each way in which they may be absent
behind-back : (j : Jar) (o : OriginHeader) (r : Referrer) → OriginHeaderIn o → ReferrerIn r → Holds (behind_cookie j) (joins (origin_header o) (referer_header r)) (record { cookies = j; origin = o; referrer = r })
unfolding joins same
behind-back j Unsent Unknown i k = is_last _ _ _ _ (is_last _ _ _ _ at-end)
behind-back j Unsent (Known u) i k = is-other _ _ _ (no_begin _ _ _ _ refl) (is-there _ _ _ (referer-back u k) at-end)
behind-back j Null Unknown i k = is-there _ _ _ null_back (is_last _ _ _ _ at-end)
behind-back j Null (Known u) i k = is-there _ _ _ null_back (is-there _ _ _ (referer-back u k) at-end)
behind-back j (From o) Unknown i k = is-there _ _ _ (from_back o i) (is_last _ _ _ _ at-end)
behind-back j (From o) (Known u) i k = is-there _ _ _ (from_back o i) (is-there _ _ _ (referer-back u k) at-end)

headers_back : (q : Request) → RequestIn q → Gives headers_of (headers_term q) (record { cookies = jar (pairs q); origin = q.origin; referrer = q.referrer })
headers_back q i =
    in_list
    (then_one _ (in_list (then_one _ (is_word _) (then_one _ (in_list (all_back pair_of pair_term pair_back 64 (pairs q) i.few i.each)) at-end)))
    (behind-back (jar (pairs q)) q.origin q.referrer i.origin i.referrer))

request-back : (q : Request) → RequestIn q → Gives request_of (request_term q) q
request-back q i =
    subst
    (λ (j : Jar). Gives request_of (request_term q) (record {
      number = q.number;
      method = q.method;
      host = q.host;
      path = q.path;
      parameters = q.parameters;
      cookies = j;
      origin = q.origin;
      referrer = q.referrer;
      body = q.body;
    }))
    (sym i.blank)
    (in_list
    (then_one _ (is_word _)
    (then_one _ (is-labelled _ _ _ _ i.number.low i.number.high)
    (then_one _ (method_back q.method)
    (then_one _ (is_number _ _ _ i.host.low i.host.high)
    (then_one _ (is_number _ _ _ i.path.low i.path.high)
    (then_one _ (is_optional _ _ i.parameters.high)
    (then_one _ (headers_back q i)
    (then_one _ (is_optional _ _ i.body.high)
    at-end)))))))))

-- Reading an event that went out gives its message back.
pub sent_back : (m : Message) → MessageIn m → Gives sent_of (event_of m) m
unfolding event_of same
sent_back (resolve h n) i =
    in_list
    (then_one _ (is_number _ _ 2 (omega arith) (omega arith))
    (then_one _ (is_number _ _ 1 (omega arith) (omega arith))
    (then_one _
    (second_of _ (no-maps _ (no_begin _ _ _ _ refl))
    (second_of _ (no_begin _ _ _ _ refl)
    (in_list
    (then_one _ (is_word _)
    (then_one _ (is_number _ _ _ i.0.low i.0.high)
    (then_one _ (is-labelled _ _ _ _ i.1.low i.1.high)
    at-end))))))
    at-end)))
sent_back (unsealed a q) i =
    in_list
    (then_one _ (is_number _ _ _ i.0.low i.0.high)
    (then_one _ (is_number _ _ 1 (omega arith) (omega arith))
    (then_one _ (first_of _ (by-maps _ (request-back q i.1)))
    at-end)))
sent_back (sealed a k q) i =
    in_list
    (then_one _ (is_number _ _ _ i.0.low i.0.high)
    (then_one _ (is_number _ _ 1 (omega arith) (omega arith))
    (then_one _
    (second_of _ (no-maps _ (no_begin _ _ _ _ refl))
    (first_of _
    (in_list
    (then_one _ (is_word _)
    (then_one _ (in_list (then_one _ (request-back q i.2) (then_one _ (is-labelled _ _ _ _ i.1.low i.1.high) at-end)))
    (then_one _ (is-labelled _ _ _ q.host.0 (omega arith) (omega arith))
    at-end))))))
    at-end)))

-- So does reading its text,
pub text-back : (m : Message) → MessageIn m → sent_in (write (event_of m)) ≡ some m
text-back m i = ap whole (read-written (event_of m)) ∙ (sent_back m i).is

-- and two messages with one text are one.
pub text_settles : (m n : Message) → MessageIn m → MessageIn n → write (event_of m) ≡ write (event_of n) → m ≡ n
text_settles m n i j e =
    let a = text-back m i in
    let b = text-back n j in
    let c = ap sent_in e in
    cc
