-- Every number of an item that was read is in its range: a law for each noun.
use mathlib.Core.Path.{◌≡◌, refl, sym, ap, subst}
use mathlib.Core.List.{List, []}
use Rattle.std.specs.Prelude.{Option, None as none, Some as some}
use Prim.Native.Nat.{ℕ, ◌≤◌}
use native.Mathlib.Omega.{arith}
use lib.ListN.{length}
use Rattle.sorted.specs.Table.{All, fill}
use Rattle.sorted.proofs.Never.{never}
use Rattle.sorted.proofs.Count.{take_fill}
use Rattle.csexp.specs.Term.{Terms, nil, cons}
use Rattle.csexp.specs.Decode.{Decoder, Fields, and_then, inside, one, end, up_to, perhaps, either, maps, word, means, numeral, labelled_of}
use Rattle.csexp.proofs.write.Only.{GivesOnly, HoldsOnly, gives_so, holds_so, only_any, only_inside, only_one, only_end, only_up_to, only_perhaps, only_either, only_maps, only_optionally, only_means}
use Rattle.shapes.specs.Nouns.{WindowNumber, Cookie, NewWindow, Existing, Command, Back, Forward, Close, Headers, Reply, Event, Reload, GoForward, GoBack, Happening, Item}
use Rattle.shapes.specs.Words.{most32}
use Rattle.shapes.specs.Items.{window_of, cookie_of, blank_cookie, set_cookies, cookies_of, holder_of, matching_of, addressee_of, href_of, iframe_of, form_of, xhr_of, naming_of, post_message_of, command_of, body_of, no_headers, one_header_of, more_headers, headers_of, reply_of, message_of, script_of, urlbar_of, trigger_of, choices_of, fresh_of, event_of, item_of}
use Rattle.shapes.specs.Texts.{item, item_in}
use Rattle.shapes.specs.Ranges.{Between, ValueIn, NumberIn, CookieIn, SetCookiesIn, TargetIn, HolderIn, MatchingIn, AddresseeIn, CommandIn, LocationIn, BodyIn, AnswerIn, EventIn, FreshIn, ItemIn}
use Rattle.shapes.proofs.Texts.{item-is-written}
use Rattle.shapes.proofs.Parts.{number_only, optional_only, labelled_only, fragment_only, url_only, origin_only, name_only, header_only, unless_only}

-- every value that a decoder finds is such, whatever the term
abbrev Yields : {A : Type 0} → (A → Type 0) → Decoder A → Type 0
Yields P d = GivesOnly d (λ t a. P a)

abbrev pub WindowNumberIn : WindowNumber → Type 0
WindowNumberIn w = NumberIn w.0

window_in : Yields WindowNumberIn window_of
window_in = only_maps _ (labelled_only _ _ _ λ n i. i)

pub none_between : (hi : ℕ) → Between 0 hi 0
none_between hi = record { low = omega arith; high = omega arith }

-- COOKIES.
cookie_in : Yields CookieIn cookie_of
cookie_in =
    only_inside
    (only_one _ (name_only λ name n.
    only_one _ (only_inside
    (only_one _ (number_only _ _ λ value v.
    only_one _ (only_any λ _ secure.
    only_one _ (only_any λ _ session.
    only_one _ (only_any λ _ httponly.
    only_end _ (only_end _ (record { name = n; value = v }))))))))))

-- at most n values, each of them such
list_in : {A : Type 0} {P : A → Type 0} {d : Decoder A} → Yields P d → (n : ℕ) → HoldsOnly (up_to n d) (λ ts l. (length l ≤ n) × All P l)
list_in {A} {P} y n =
    only_up_to {P = λ n ts l. (length l ≤ n) × All P l} (λ n. (omega arith, tt)) (gives_so y λ t a p n ts l h. let few = h.0 in (omega arith, (p, h.1))) n

set_in : (cs : List Cookie) → (length cs ≤ 4) × All CookieIn cs → SetCookiesIn (set_cookies cs)
set_in cs h =
    let e = take_fill blank_cookie 4 cs h.0 in
    record { few = h.0; each = subst (All CookieIn) (sym e) h.1; blank = ap (fill blank_cookie 4) (sym e) }

none_in : SetCookiesIn (set_cookies [])
none_in = set_in [] (omega arith, tt)

cookies-in : Yields SetCookiesIn cookies_of
cookies-in = only_maps _ (only_inside (holds_so (list_in cookie_in _) λ ts cs h. set_in cs h))

-- COMMANDS.
-- a word for a new window, or a labelled window
target_in : (w : List ℕ) → Yields TargetIn (either (means w NewWindow) (maps Existing window_of))
target_in w = only_either (only_means _ _ tt) (only_maps _ window_in)

holder_in : Yields HolderIn holder_of
holder_in = only_either (only_means _ _ tt) (only_either (only_means _ _ tt) (only_maps _ window_in))

matching_in : Yields MatchingIn matching_of
matching_in = only_optionally _ _ tt (number_only _ _ λ n i. i)

addressee_in : Yields AddresseeIn addressee_of
addressee_in = only_optionally _ _ tt (origin_only λ o i. i)

href_in : Yields CommandIn href_of
href_in = only_inside (only_one _ (only_any λ _ _. only_one _ (url_only λ url u. only_one _ (gives_so (target_in _) λ _ target t. only_one _ (only_any λ _ noreferrer. only_end _ (u, t))))))

iframe-in : Yields CommandIn iframe_of
iframe-in = only_inside (only_one _ (only_any λ _ _. only_one _ (url_only λ url u. only_one _ (gives_so holder_in λ _ holder h. only_end _ (u, h)))))

form_in : Yields CommandIn form_of
form_in =
    only_inside
    (only_one _ (only_any λ _ _.
    only_one _ (url_only λ url u.
    only_one _ (only_any λ _ method.
    only_one _ (optional_only _ λ data' d.
    only_one _ (gives_so (target_in _) λ _ target t.
    only_end _ (u, d, t)))))))

xhr_in : Yields CommandIn xhr_of
xhr_in =
    only_inside
    (only_one _ (only_any λ _ _.
    only_one _ (url_only λ url u.
    only_one _ (only_any λ _ method.
    only_one _ (optional_only _ λ data' d.
    only_one _ (gives_so matching_in λ _ matching m.
    only_end _ (u, d, m)))))))

naming_in : (w : List ℕ) (command : WindowNumber → Command) → ((v : WindowNumber) → WindowNumberIn v → CommandIn (command v)) → Yields CommandIn (naming_of w command)
naming_in w command h = only_inside (only_one _ (only_any λ _ _. only_one _ (gives_so window_in λ _ v i. only_end _ (h v i))))

-- (9:SETSCRIPT window script), (14:SETSCRIPTSTATE window scriptstate)
setting_in : (w : List ℕ) (command : WindowNumber → ℕ → Command) → ((v : WindowNumber) (n : ℕ) → WindowNumberIn v → ValueIn n → CommandIn (command v n))
    → Yields CommandIn (inside (one (word w) λ _. one window_of λ v. one (numeral 0 most32) λ n. end (command v n)))
setting_in w command h = only_inside (only_one _ (only_any λ _ _. only_one _ (gives_so window_in λ _ v i. only_one _ (number_only _ _ λ n j. only_end _ (h v n i j)))))

post_message_in : Yields CommandIn post_message_of
post_message_in =
    only_inside
    (only_one _ (only_any λ _ _.
    only_one _ (gives_so window_in λ _ w i.
    only_one _ (number_only _ _ λ message m.
    only_one _ (gives_so addressee_in λ _ to a.
    only_end _ (i, m, a))))))

command_in : Yields CommandIn command_of
command_in =
    only_either (only_maps _ (only_any λ _ _. tt))
    (only_either href_in
    (only_either iframe-in
    (only_either form_in
    (only_either (setting_in _ _ (λ v n i j. (i, j)))
    (only_either (setting_in _ _ (λ v n i j. (i, j)))
    (only_either xhr_in
    (only_either (naming_in _ Back (λ v i. i))
    (only_either (naming_in _ Forward (λ v i. i))
    (only_either (naming_in _ Close (λ v i. i))
    post_message_in)))))))))

-- ANSWERS.
body_in : Yields BodyIn body_of
body_in =
    only_either (only_maps _ (number_only _ _ λ n i. i))
    (only_inside (only_one _ (number_only _ _ λ script s. only_one _ (number_only _ _ λ state t. only_end _ (s, t)))))

record HeadersIn (h : Headers) : Type 0 where
  cookies : SetCookiesIn h.cookies
  location : LocationIn h.location

header_in : (h : Headers) → HeadersIn h → Yields HeadersIn (one_header_of h)
header_in h p =
    only_either (unless_only _ (only_maps _ (header_only _ (gives_so cookies-in λ _ cs i. record { cookies = i; location = p.location }))))
    (only_either (unless_only _ (only_maps _ (header_only _ (url_only λ u i. record { cookies = p.cookies; location = i }))))
    (only_either (unless_only _ (only_maps _ (only_any λ _ _. record { cookies = p.cookies; location = p.location })))
    (unless_only _ (only_maps _ (only_any λ _ _. record { cookies = p.cookies; location = p.location })))))

more_in : (ts : Terms) (h : Headers) → HeadersIn h → (g : Headers) → more_headers h ts ≡ some g → HeadersIn g
unfolding more_headers
more_in nil h p g e = let z : h ≡ g = cc in subst HeadersIn z p
more_in (cons t ts) h p g e = go (one_header_of h t) refl e (more_in ts)
  where
    go : (o : Option Headers) → one_header_of h t ≡ o → and_then o (λ x. more_headers x ts) ≡ some g → ((x : Headers) → HeadersIn x → (g : Headers) → more_headers x ts ≡ some g → HeadersIn g) → HeadersIn g
    go none f k ih = never (cc)
    go (some x) f k ih = ih x ((header_in h p).is t x f) g k

headers_in : Yields HeadersIn headers_of
headers_in = only_inside (record { is = λ ts g e. more_in ts no_headers (record { cookies = none_in; location = tt }) g e })

record ReplyIn (r : Reply) : Type 0 where
  answer : AnswerIn r.answer
  cookies : SetCookiesIn r.cookies

reply_in : Yields ReplyIn reply_of
reply_in =
    only_inside
    (only_one _ (only_any λ _ _.
    only_one _ (labelled_only _ _ _ λ n i.
    only_one _ (number_only _ _ λ status s.
    only_one _ (gives_so headers_in λ _ headers h.
    only_one _ (gives_so body_in λ _ body b.
    only_end _ (record { answer = record { number = i; status = s; location = h.location; body = b }; cookies = h.cookies })))))))

-- MESSAGES AND CHOICES.
record HappeningIn (h : Happening) : Type 0 where
  event : EventIn h.event
  cookies : SetCookiesIn h.cookies

message_in : Yields HappeningIn message_of
message_in =
    only_either (only_maps _ (gives_so reply_in λ _ r i. record { event = i.answer; cookies = i.cookies }))
    (only_either
    (only_inside
    (only_one _ (only_any λ _ _.
    only_one _ (gives_so reply_in λ _ r i.
    only_one _ (labelled_only _ _ _ λ k n.
    only_end _ (record { event = (n, i.answer); cookies = i.cookies }))))))
    (only_either
    (only_inside
    (only_one _ (only_any λ _ _.
    only_one _ (number_only _ _ λ host h.
    only_one _ (number_only _ _ λ address a.
    only_one _ (labelled_only _ _ _ λ n i.
    only_end _ (record { event = record { host = h; address = a; number = i }; cookies = none_in })))))))
    (only_means _ _ (record { event = tt; cookies = none_in }))))

script_in : Yields HappeningIn script_of
script_in =
    only_inside
    (only_one _ (only_any λ _ _.
    only_one _ (gives_so window_in λ _ window w.
    only_one _ (number_only _ _ λ state s.
    only_one _ (gives_so cookies-in λ _ cookies c.
    only_one _ (optional_only _ λ local l.
    only_one _ (optional_only _ λ session v.
    only_one _ (gives_so command_in λ _ command k.
    only_end _ (record { event = (w, record { state = s; local = l; session = v; command = k }); cookies = c })))))))))

urlbar_in : Yields HappeningIn urlbar_of
urlbar_in =
    only_inside
    (only_one _ (only_any λ _ _.
    only_one _ (gives_so (target_in _) λ _ target t.
    only_one _ (only_any λ _ protocol.
    only_one _ (number_only _ _ λ host h.
    only_one _ (number_only _ _ λ path p.
    only_one _ (fragment_only λ fragment f.
    only_one _ (optional_only _ λ parameters q.
    only_end _ (record { event = (t, record { host = h; path = p; parameters = q; fragment = f }); cookies = none_in })))))))))

trigger_in : (w : List ℕ) (event : WindowNumber → Event) → ((v : WindowNumber) → WindowNumberIn v → EventIn (event v)) → Yields HappeningIn (trigger_of w event)
trigger_in w event h = only_inside (only_one _ (only_any λ _ _. only_one _ (gives_so window_in λ _ v i. only_end _ (record { event = h v i; cookies = none_in }))))

choices_in : Yields HappeningIn choices_of
choices_in =
    only_either script_in
    (only_either urlbar_in
    (only_either (trigger_in _ Reload (λ v i. i))
    (only_either (trigger_in _ GoForward (λ v i. i))
    (trigger_in _ GoBack (λ v i. i)))))

-- ITEMS.
-- a fresh number that may be absent: 0 stands for its absence
brought_in : {A : Type 0} {P : A → Type 0} (w : List ℕ) (k : ℕ → Fields A) → ((n : ℕ) → Between 0 most32 n → HoldsOnly (k n) (λ ts v. P v))
    → HoldsOnly (perhaps 0 (λ n. n) (labelled_of w 1 most32) k) (λ ts v. P v)
brought_in w k h = only_perhaps _ _ _ (labelled_only _ _ _ λ n i. h n (record { low = omega arith; high = i.high })) (h 0 (none_between most32))

fresh_in : Yields FreshIn fresh_of
fresh_in =
    only_inside
    (brought_in _ _ λ window w.
    brought_in _ _ λ request r.
    brought_in _ _ λ dns d.
    brought_in _ _ λ key k.
    brought_in _ _ λ document o.
    only_end _ (record { window = w; request = r; dns = d; key = k; document = o }))

event_in : {A : Type 0} {P : A → Type 0} {d : Decoder A} → Yields P d → Yields P (event_of d)
event_in y = only_inside (only_one _ (only_any λ _ receiver. only_one _ (only_any λ _ sender. only_one _ (gives_so y λ _ m p. only_end m p))))

item-in : Yields ItemIn item_of
item-in =
    only_either
    (only_inside
    (only_one _ (only_any λ _ _.
    only_one _ (gives_so choices_in λ _ h i.
    only_one _ (gives_so fresh_in λ _ fresh f.
    only_end _ (record { event = i.event; cookies = i.cookies; fresh = f }))))))
    (only_inside
    (only_one _ (gives_so (event_in message_in) λ _ h i.
    only_one _ (only_any λ _ _.
    only_one _ (gives_so fresh_in λ _ fresh f.
    only_end _ (record { event = i.event; cookies = i.cookies; fresh = f }))))))

-- WHAT A TEXT IS TAKEN FOR is in range.
pub read_in_range : (s : List ℕ) (i : Item) → item_in s ≡ item i → ItemIn i
read_in_range s i e = let w = item-is-written s i e in item-in.is w.term i w.shape
