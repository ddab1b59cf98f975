-- What is read as an event that went out is what that event is written as, and its message is within 01's ranges: a law for each part, the
-- converse of those in Backs. Each says: to show P of every term and value that its decoder gives, show P of the term of each value in range.
use mathlib.Core.Path.{◌≡◌, refl, sym, ap, subst, ◌∙◌}
use mathlib.Core.Bool.{Bool, true, false, cond}
use mathlib.Core.List.{List, [], ◌∷◌, append-nil}
use Rattle.std.specs.Prelude.{None as none, Some as some}
use mathlib.Core.Logic.{◌↔◌}
use Prim.Native.Nat.{ℕ, ◌≤◌}
use native.Mathlib.Omega.{arith}
use lib.ListN.{length, take}
use lib.Dec.{eqb}
use borrow.Author.Tests.{eqb-true}
use Rattle.sorted.specs.Table.{All, fill}
use Rattle.sorted.proofs.Count.{take_fill}
use Rattle.sorted.proofs.Never.{never}
use Rattle.csexp.specs.Text.{text}
use Rattle.csexp.specs.Term.{Term, Terms, nil, cons, atom, list, write}
use Rattle.csexp.specs.Read.{Got, no, got, read}
use Rattle.csexp.specs.Decode.{inside, end, up_to, perhaps}
use Rattle.csexp.specs.Encode.{each, joins}
use Rattle.csexp.proofs.Meaning.{read_sound}
use Rattle.csexp.proofs.write.Only.{GivesOnly, HoldsOnly, gives_so, holds_so, only_nothing, only_inside, only_one, only_end, only_up_to, only_perhaps, only_either, only_maps, only_word, only_means}
use Rattle.shapes.specs.Nouns.{Pair, Jar, OriginHeader, Unsent, Null, From, Referrer, Unknown, Known, Request}
use Rattle.shapes.specs.Words.{most16}
use Rattle.shapes.specs.Items.{url_of, header_of}
use Rattle.tables.specs.Rows.{blank_pair, jar}
use Rattle.shapes.specs.Ranges.{Between, PairIn, OriginHeaderIn, ReferrerIn, RequestIn, MessageIn}
use Rattle.shapes.proofs.Parts.{number_only, optional_only, labelled_only, url_only, origin_only, name_only, method_only, header_only}
use Rattle.shapes.specs.Events.{pair_term, cookie_header, origin_header, referer_header, request_term, event_term, Message, event_of}
use Rattle.writing.specs.Outgoing.{pair_of, Carried, behind_cookie, headers_of, request_of, sealed_of, question_of, message_to, sent_of, whole, sent_in}
use Rattle.writing.proofs.Backs.{text-back}

-- COOKIES.
pair_only : {P : Term → Pair → Type 0} → ((p : Pair) → PairIn p → P (pair_term p) p) → GivesOnly pair_of P
pair_only p = only_inside (only_one _ (name_only λ name n. only_one _ (number_only _ _ λ value v. only_end _ (p _ (record { name = n; value = v })))))

-- at most n pairs, and their terms
record PairsOnly (n : ℕ) (ts : Terms) (ps : List Pair) : Type 0 where
  terms : ts ≡ each pair_term ps
  few : length ps ≤ n
  all : All PairIn ps

pairs_only : (n : ℕ) → HoldsOnly (up_to n pair_of) (PairsOnly n)
unfolding each
pairs_only n =
    only_up_to {P = PairsOnly} (λ n. record { terms = refl; few = omega arith; all = tt })
    (pair_only λ p i n ts ps h. let l = h.few in record { terms = ap (cons (pair_term p)) h.terms; few = omega arith; all = (i, h.all) }) n

cookies_only : {P : Term → List Pair → Type 0} → ((ps : List Pair) → length ps ≤ 64 → All PairIn ps → P (cookie_header (jar ps)) ps)
    → GivesOnly (header_of (text "Cookie") (inside (up_to 64 pair_of))) P
unfolding jar
cookies_only {P} p =
    header_only _ (only_inside (holds_so (pairs_only 64) λ ts ps h.
    subst (λ (us : Terms). P (list (cons (atom (text "Cookie")) (cons (list us) nil))) ps)
    (ap (each pair_term) (take_fill blank_pair 64 ps h.few) ∙ sym h.terms)
    (p ps h.few h.all)))

-- HEADERS.
referer_only : {P : Terms → Carried → Type 0} (j : Jar) (o : OriginHeader)
    → ((r : Referrer) → ReferrerIn r → P (referer_header r) (record { cookies = j; origin = o; referrer = r }))
    → HoldsOnly (perhaps Unknown Known (header_of (text "Referer") url_of) λ r. end (record { cookies = j; origin = o; referrer = r })) P
referer_only j o p = only_perhaps _ _ _ (header_only _ (url_only λ u i. only_end _ (p (Known u) i))) (only_end _ (p Unknown tt))

behind_only : {P : Terms → Carried → Type 0} (j : Jar)
    → ((o : OriginHeader) (r : Referrer) → OriginHeaderIn o → ReferrerIn r → P (joins (origin_header o) (referer_header r)) (record { cookies = j; origin = o; referrer = r }))
    → HoldsOnly (behind_cookie j) P
unfolding joins
behind_only j p =
    only_perhaps _ _ _
    (header_only _
    (only_either (only_means _ _ (referer_only j Null λ r k. p Null r tt k))
    (only_maps _ (origin_only λ o i. referer_only j (From o) λ r k. p (From o) r i k))))
    (referer_only j Unsent λ r k. p Unsent r tt k)

headers_only : {P : Term → Carried → Type 0}
    → ((ps : List Pair) (o : OriginHeader) (r : Referrer) → length ps ≤ 64 → All PairIn ps → OriginHeaderIn o → ReferrerIn r
    → P (list (cons (cookie_header (jar ps)) (joins (origin_header o) (referer_header r)))) (record { cookies = jar ps; origin = o; referrer = r }))
    → GivesOnly headers_of P
headers_only p = only_inside (only_one _ (cookies_only λ ps few all. behind_only (jar ps) λ o r i k. p ps o r few all i k))

-- REQUESTS.
request_only : {P : Term → Request → Type 0} → ((q : Request) → RequestIn q → P (request_term q) q) → GivesOnly request_of P
unfolding jar
request_only p =
    only_inside
    (only_one _ (only_word _
    (only_one _ (labelled_only _ _ _ λ number n.
    only_one _ (method_only λ method.
    only_one _ (number_only _ _ λ host h.
    only_one _ (number_only _ _ λ path a.
    only_one _ (optional_only _ λ parameters v.
    only_one _ (headers_only λ ps o r few all i k.
    only_one _ (optional_only _ λ body b.
    only_end _
    (let back : take (length ps) (fill blank_pair 64 ps) ≡ ps = take_fill blank_pair 64 ps few in
    p _
    (record {
      number = n;
      host = h;
      path = a;
      parameters = v;
      few = subst (λ (l : List Pair). length l ≤ 64) (sym back) few;
      each = subst (All PairIn) (sym back) all;
      blank = ap jar (sym back);
      origin = i;
      referrer = k;
      body = b;
    }))))))))))))

-- MESSAGES: t, sent to the address a, is the event of m.
record SentTo (a : ℕ) (t : Term) (m : Message) : Type 0 where
  event : event_term a t ≡ event_of m
  within : Between 1 most16 a → MessageIn m

sealed_only : (a : ℕ) → GivesOnly (sealed_of a) (SentTo a)
unfolding event_of
sealed_only a =
    only_inside
    (only_one _ (only_word _
    (only_one _ (only_inside (only_one _ (request_only λ q i. only_one _ (labelled_only _ _ _ λ key k. only_end _
    (only_one _ (labelled_only _ _ _ λ host h.
    let same : host ≡ q.host.0 = omega arith in
    only_end _ (record { event = rw same; within = λ r. (r, k, i) }))))))))))

question_only : GivesOnly question_of (SentTo 2)
unfolding event_of
question_only =
    only_inside
    (only_one _ (only_word _
    (only_one _ (number_only _ _ λ host h.
    only_one _ (labelled_only _ _ _ λ n i.
    only_end _ (record { event = refl; within = λ _. (h, i) }))))))

message_only : (a : ℕ) → GivesOnly (message_to a) (SentTo a)
unfolding event_of
message_only a =
    only_either (only_maps _ (request_only λ q i. record { event = refl; within = λ r. (r, i) }))
    (only_either (sealed_only a)
    (question (eqb a 2) refl))
  where
    question : (c : Bool) → eqb a 2 ≡ c → GivesOnly (cond c question_of (λ _. none)) (SentTo a)
    question true e = subst (λ (n : ℕ). GivesOnly question_of (SentTo n)) (sym (eqb-true a 2 e)) question_only
    question false e = only_nothing

-- EVENTS. A term that is read as a message is the event of that message,
pub sent_only : GivesOnly sent_of (λ t m. (t ≡ event_of m) × MessageIn m)
sent_only =
    only_inside
    (only_one _ (number_only _ _ λ receiver r.
    only_one _ (number_only _ _ λ sender s.
    let same : sender ≡ 1 = omega arith in
    only_one _ (gives_so (message_only receiver) λ t m c.
    only_end m (rw same c.event, c.within r)))))

-- and so a text is read as a message where it is the text of that message, which is within 01's ranges, and nowhere else.
pub read-is-written : (s : List ℕ) (m : Message) → sent_in s ≡ some m → (s ≡ write (event_of m)) × MessageIn m
read-is-written s m e = go (read s) refl e
  where
    go : (g : Got Term) → read s ≡ g → whole g ≡ some m → (s ≡ write (event_of m)) × MessageIn m
    go no q e = never (cc)
    go (got t []) q e = let o = sent_only.is t m e in (read_sound s q ∙ append-nil (write t) ∙ ap write o.0, o.1)
    go (got t (b ∷ r)) q e = never (cc)

pub read-exactly : (s : List ℕ) (m : Message) → (sent_in s ≡ some m) ↔ ((s ≡ write (event_of m)) × MessageIn m)
read-exactly s m = (read-is-written s m, λ h. ap sent_in h.0 ∙ text-back m h.1)
