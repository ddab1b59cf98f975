-- An event has at most 4,096 bytes (01 "Numbers, names, sizes"): at most 2,722, with 13 bytes for every number. The numbers below are sums
-- that antt checks by computing.
use mathlib.Core.Bool.{Bool, true, false, cond}
use Rattle.std.specs.Prelude.{Option, None as none, Some as some}
use Prim.Native.Nat.{◌*◌, ◌≤◌}
use native.Mathlib.Omega.{arith}
use lib.ListN.{length}
use Rattle.csexp.specs.Text.{text}
use Rattle.csexp.specs.Term.{decimal, digits, write}
use Rattle.csexp.specs.Encode.{number_term, labelled}
use Rattle.csexp.proofs.write.Bounds.{Short, Shorts, short-list, short-nil, short-cons, short-joins, short-less, shorts_less, short-word, short-number, short_optional, short-labelled, short-each}
use Rattle.types.specs.Lists.{header_pairs}
use Rattle.shapes.specs.Nouns.{Host, DnsNumber, KeyNumber, Protocol, Plain, Secure, Fragment, Absent, Named, Url, CookieName, Pair, Method, Get, Head, Post, Put, Delete, Connect, Options, Trace, OriginHeader, Unsent, Null, From, Referrer, Unknown, Known, Request}
use Rattle.shapes.specs.Events.{protocol_term, fragment_term, url_term, method_term, name_term, pair_term, cookie_header, origin_header, referer_header, request_term, sealed_term, question_term, Message, resolve, unsealed, sealed, event_of, event_text}
use Rattle.writing.specs.Sized.{Small, FragmentSmall, UrlSmall, PairSmall, OriginSmall, ReferrerSmall, RequestSmall, MessageSmall, AnySmall}

short_protocol : (p : Protocol) → Short (protocol_term p) 3
unfolding write decimal digits
short_protocol Plain = short-word _
short_protocol Secure = short-word _

short-fragment : (f : Fragment) → FragmentSmall f → Short (fragment_term f) 13
short-fragment Absent i = short-less 13 (short-list short-nil) tt
short-fragment (Named n) i = short-number i

short-url : (u : Url) → UrlSmall u → Short (url_term u) 62
unfolding write decimal digits
short-url u i =
    short-list
    (short-cons (short-word _)
    (short-cons (short_protocol u.protocol)
    (short-cons (short-number i.host)
    (short-cons (short-number i.path)
    (short-cons (short_optional i.parameters)
    (short-cons (short-fragment u.fragment i.fragment)
    short-nil))))))

short_method : (m : Method) → Short (method_term m) 9
unfolding write decimal digits
short_method Get = short-less 9 (short-word _) tt
short_method Head = short-less 9 (short-word _) tt
short_method Post = short-less 9 (short-word _) tt
short_method Put = short-less 9 (short-word _) tt
short_method Delete = short-less 9 (short-word _) tt
short_method Connect = short-word _
short_method Options = short-word _
short_method Trace = short-less 9 (short-word _) tt

short-name : (n : CookieName) → Small n.number → Short (name_term n) 23
unfolding write decimal digits
short-name n i = go n.prefixed
  where
    go : (c : Bool) → Short (cond c (labelled (text "__Host") n.number) (number_term n.number)) 23
    go true = short-labelled (short-word _) i
    go false = short-less 23 (short-number i) tt

short_pair : (p : Pair) → PairSmall p → Short (pair_term p) 38
short_pair p i = short-list (short-cons (short-name p.name i.name) (short-cons (short-number i.value) short-nil))

-- 64 pairs of 38 bytes
short-cookies : (q : Request) → RequestSmall q → Short (cookie_header q.cookies) 2444
unfolding write decimal digits
short-cookies q i =
    let few = i.few in
    let most : length (header_pairs q.cookies) * 38 ≤ 2432 = omega arith in
    short-list (short-cons (short-word _) (short-cons (short-list (shorts_less 2432 (short-each pair_term 38 short_pair _ i.pairs) most)) short-nil))

short-origin : (o : OriginHeader) → OriginSmall o → Shorts (origin_header o) 28
unfolding write decimal digits
short-origin Unsent i = shorts_less 28 short-nil (omega arith)
short-origin Null i = shorts_less 28 (short-cons (short-list (short-cons (short-word _) (short-cons (short-word _) short-nil))) short-nil) (omega arith)
short-origin (From o) i =
    short-cons
    (short-list (short-cons (short-word _) (short-cons (short-list (short-cons (short-number i) (short-cons (short_protocol o.protocol) short-nil))) short-nil)))
    short-nil

short-referer : (r : Referrer) → ReferrerSmall r → Shorts (referer_header r) 73
unfolding write decimal digits
short-referer Unknown i = shorts_less 73 short-nil (omega arith)
short-referer (Known u) i = short-cons (short-list (short-cons (short-word _) (short-cons (short-url u i) short-nil))) short-nil

short-request : (q : Request) → RequestSmall q → Short (request_term q) 2643
unfolding write decimal digits
short-request q i =
    short-list
    (short-cons (short-word _)
    (short-cons (short-labelled (short-word _) i.number)
    (short-cons (short_method q.method)
    (short-cons (short-number i.host)
    (short-cons (short-number i.path)
    (short-cons (short_optional i.parameters)
    (short-cons
    (short-list (short-cons (short-cookies q i) (short-joins (origin_header q.origin) _ (short-origin q.origin i.origin) (short-referer q.referrer i.referrer))))
    (short-cons (short_optional i.body)
    short-nil))))))))

short-sealed : (k : KeyNumber) (q : Request) → Small k.0 → RequestSmall q → Short (sealed_term k q) 2694
unfolding write decimal digits
short-sealed k q j i =
    short-list
    (short-cons (short-word _)
    (short-cons (short-list (short-cons (short-request q i) (short-cons (short-labelled (short-word _) j) short-nil)))
    (short-cons (short-labelled (short-word _) i.host)
    short-nil)))

short-question : (h : Host) (n : DnsNumber) → Small h.0 → Small n.0 → Short (question_term h n) 48
unfolding write decimal digits
short-question h n i j = short-list (short-cons (short-word _) (short-cons (short-number i) (short-cons (short-labelled (short-word _) j) short-nil)))

pub short-event : (m : Message) → MessageSmall m → length (write (event_of m)) ≤ 4096
unfolding event_of
short-event (resolve h n) i =
    let l = (short-list (short-cons (short-number {n = 2} (omega arith)) (short-cons (short-number {n = 1} (omega arith)) (short-cons (short-question h n i.0 i.1) short-nil)))).is in omega arith
short-event (unsealed a q) i =
    let l = (short-list (short-cons (short-number i.0) (short-cons (short-number {n = 1} (omega arith)) (short-cons (short-request q i.1) short-nil)))).is in omega arith
short-event (sealed a k q) i =
    let l = (short-list (short-cons (short-number i.0) (short-cons (short-number {n = 1} (omega arith)) (short-cons (short-sealed k q i.1.0 i.1.1) short-nil)))).is in omega arith

pub short-text : (m : Option Message) → AnySmall m → length (event_text m) ≤ 4096
short-text none i = omega arith
short-text (some m) i = short-event m i
