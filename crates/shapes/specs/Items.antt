-- Items: what is taken, part by part; what is not decoded here is refusal 2 (01 "The text"; the messages of 000 section 2.2).
use Rattle.std.specs.Prelude.{Bool, true, false, List, [], ℕ, zero, suc, length, get_or}
use Rattle.std.specs.Prelude.{None as none, Some as some}
use Rattle.sorted.specs.Table.{fill}
use Rattle.csexp.specs.Text.{text}
use Rattle.csexp.specs.Term.{nil, cons}
use Rattle.csexp.specs.Decode.{Decoder, Fields, and_then, inside, one, end, up_to, perhaps, either, maps, word, means, numeral, empty_list, optionally, optional_of, labelled_of}
use Rattle.shapes.specs.Nouns.{WindowNumber, Fresh, Protocol, Plain, Secure, Fragment, Absent, Named, Url, Origin, CookieName, Cookie, SetCookies, Method, Matching, Unmatched, By, Policy, Unset, NoReferrer, OriginOnly, Target, NewWindow, Existing, Holder, Itself, Within, Addressee, Anyone, Only, Command, Nothing, Href, Iframe, Form, SetScript, SetScriptState, XmlHttpRequest, Back, Forward, Close, PostMessage, Location, Nowhere, To, Body, Number, Page, Headers, Reply, Event, RunScript, Urlbar, Reload, GoForward, GoBack, CloseCorrupt, EncryptedAnswer, PlainAnswer, DnsResolved, Happening, Item}
use Rattle.shapes.specs.Words.{most16, most32, spellings, method_in}

-- ADDRESSES.
-- 1:P or 1:S
abbrev pub protocol_of : Decoder Protocol
protocol_of = either (means (text "P") Plain) (means (text "S") Secure)

-- () or a number from 1 on: an absent fragment and 0 are one
abbrev pub fragment_of : Decoder Fragment
fragment_of = optionally Absent Named (numeral 1 most32)

-- (3:URL protocol host path parameters fragment)
abbrev pub url_of : Decoder Url
url_of =
    inside
    (one (word (text "URL")) λ _.
    one protocol_of λ protocol.
    one (numeral 1 most16) λ host.
    one (numeral 0 most16) λ path.
    one (optional_of most32) λ parameters.
    one fragment_of λ fragment.
    end (record { protocol = protocol; host = record { 0 = host }; path = record { 0 = path }; parameters = record { 0 = parameters }; fragment = fragment }))

-- (host protocol)
abbrev pub origin_of : Decoder Origin
origin_of =
    inside
    (one (numeral 1 most16) λ host.
    one protocol_of λ protocol.
    end (record { host = record { 0 = host }; protocol = protocol }))

-- (6:window number)
abbrev pub window_of : Decoder WindowNumber
window_of = maps (λ n. record { 0 = n }) (labelled_of (text "window") 1 most32)

-- COOKIES.
-- 1:T or 1:F
abbrev pub flag_of : Decoder Bool
flag_of = either (means (text "T") true) (means (text "F") false)

-- a number, or (6:__Host number)
abbrev pub name_of : Decoder CookieName
name_of =
    either
    (maps (λ n. record { prefixed = false; number = n }) (numeral 0 most16))
    (maps (λ n. record { prefixed = true; number = n }) (labelled_of (text "__Host") 0 most16))

-- (value secure session httpOnly), of the cookie with this name
abbrev pub content_of : CookieName → Decoder Cookie
content_of name =
    inside
    (one (numeral 0 most32) λ value.
    one flag_of λ secure.
    one flag_of λ session.
    one flag_of λ httponly.
    end (record { name = name; value = record { 0 = value }; secure = secure; session = session; httponly = httponly }))

-- (name content)
abbrev pub cookie_of : Decoder Cookie
cookie_of =
    inside
    (one name_of λ name.
    one (content_of name) λ cookie.
    end cookie)

abbrev pub blank_cookie : Cookie
blank_cookie = record { name = record { prefixed = false; number = 0 }; value = record { 0 = 0 }; secure = false; session = false; httponly = false }

abbrev pub set_cookies : List Cookie → SetCookies
set_cookies cs = record { rows = fill blank_cookie 4 cs; count = length cs }

-- "At most four cookies in one answer or from one script step"
abbrev pub cookies_of : Decoder SetCookies
cookies_of = maps set_cookies (inside (up_to 4 cookie_of))

-- COMMANDS.
-- the methods of n rows of the table, from row i on
abbrev pub method_from : ℕ → ℕ → Decoder Method
method_from zero i = λ _. none
method_from (suc n) i = either (means (get_or spellings i []) (method_in i)) (method_from n (suc i))

abbrev pub method_of : Decoder Method
method_of = method_from 8 0

-- 6:_BLANK, or a labelled window
abbrev pub target_of : Decoder Target
target_of = either (means (text "_BLANK") NewWindow) (maps Existing window_of)

-- 5:_SELF, or 4:SELF as A7:28 prints it, or a labelled window
abbrev pub holder_of : Decoder Holder
holder_of = either (means (text "_SELF") Itself) (either (means (text "SELF") Itself) (maps Within window_of))

-- () or a number
abbrev pub matching_of : Decoder Matching
matching_of = optionally Unmatched By (numeral 0 most32)

-- () or (host protocol)
abbrev pub addressee_of : Decoder Addressee
addressee_of = optionally Anyone Only origin_of

-- (4:HREF url window noreferrer)
abbrev pub href_of : Decoder Command
href_of = inside (one (word (text "HREF")) λ _. one url_of λ url. one target_of λ target. one flag_of λ noreferrer. end (Href url target noreferrer))

-- (6:IFRAME url window)
abbrev pub iframe_of : Decoder Command
iframe_of = inside (one (word (text "IFRAME")) λ _. one url_of λ url. one holder_of λ holder. end (Iframe url holder))

-- (4:FORM url method data window)
abbrev pub form_of : Decoder Command
form_of =
    inside
    (one (word (text "FORM")) λ _.
    one url_of λ url.
    one method_of λ method.
    one (optional_of most32) λ data'.
    one target_of λ target.
    end (Form url method (record { 0 = data' }) target))

-- (9:SETSCRIPT window script), (14:SETSCRIPTSTATE window scriptstate)
abbrev pub set_script_of : Decoder Command
set_script_of = inside (one (word (text "SETSCRIPT")) λ _. one window_of λ window. one (numeral 0 most32) λ script. end (SetScript window (record { 0 = script })))

abbrev pub set_script_state_of : Decoder Command
set_script_state_of = inside (one (word (text "SETSCRIPTSTATE")) λ _. one window_of λ window. one (numeral 0 most32) λ state. end (SetScriptState window (record { 0 = state })))

-- (14:XMLHTTPREQUEST url method data xhrreference)
abbrev pub xhr_of : Decoder Command
xhr_of =
    inside
    (one (word (text "XMLHTTPREQUEST")) λ _.
    one url_of λ url.
    one method_of λ method.
    one (optional_of most32) λ data'.
    one matching_of λ matching.
    end (XmlHttpRequest url method (record { 0 = data' }) matching))

-- (4:BACK window), (7:FORWARD window), (5:CLOSE window)
abbrev pub naming_of : List ℕ → (WindowNumber → Command) → Decoder Command
naming_of w command = inside (one (word w) λ _. one window_of λ window. end (command window))

-- (11:POSTMESSAGE window message origin)
abbrev pub post_message_of : Decoder Command
post_message_of =
    inside
    (one (word (text "POSTMESSAGE")) λ _.
    one window_of λ window.
    one (numeral 0 most32) λ message.
    one addressee_of λ to.
    end (PostMessage window message to))

-- one of the ten, or nothing: ()
abbrev pub command_of : Decoder Command
command_of =
    either (maps (λ _. Nothing) empty_list)
    (either href_of
    (either iframe_of
    (either form_of
    (either set_script_of
    (either set_script_state_of
    (either xhr_of
    (either (naming_of (text "BACK") Back)
    (either (naming_of (text "FORWARD") Forward)
    (either (naming_of (text "CLOSE") Close)
    post_message_of)))))))))

-- ANSWERS.
-- a number, or a list of two: script and script state
abbrev pub page_of : Decoder Body
page_of = inside (one (numeral 0 most32) λ script. one (numeral 0 most32) λ state. end (Page (record { 0 = script }) (record { 0 = state })))

abbrev pub body_of : Decoder Body
body_of = either (maps Number (numeral 0 most32)) page_of

abbrev pub policy_of : Decoder Policy
policy_of = either (means (text "no-referrer") NoReferrer) (means (text "origin") OriginOnly)

-- a header: a list of its name and its value
abbrev pub header_of : {A : Type 0} → List ℕ → Decoder A → Decoder A
header_of w d = inside (one (word w) λ _. one d λ v. end v)

abbrev pub no_headers : Headers
no_headers = record { set = false; cookies = set_cookies []; location = Nowhere; strict = false; policy = Unset }

abbrev pub with_cookies : Headers → SetCookies → Headers
with_cookies h cs = record { set = true; cookies = cs; location = h.location; strict = h.strict; policy = h.policy }

abbrev pub with_location : Headers → Url → Headers
with_location h u = record { set = h.set; cookies = h.cookies; location = To u; strict = h.strict; policy = h.policy }

abbrev pub with_strict : Headers → Unit {0} → Headers
with_strict h _ = record { set = h.set; cookies = h.cookies; location = h.location; strict = true; policy = h.policy }

abbrev pub with_policy : Headers → Policy → Headers
with_policy h p = record { set = h.set; cookies = h.cookies; location = h.location; strict = h.strict; policy = p }

abbrev pub has_location : Location → Bool
has_location Nowhere = false
has_location (To u) = true

abbrev pub has_policy : Policy → Bool
has_policy Unset = false
has_policy NoReferrer = true
has_policy OriginOnly = true

-- "each at most once"
unfoldable pub unless : {A : Type 0} → Bool → Decoder A → Decoder A
unless true d t = none
unless false d t = d t

-- one header more than those of h
abbrev pub one_header_of : Headers → Decoder Headers
one_header_of h =
    either (unless h.set (maps (with_cookies h) (header_of (text "Set-Cookie") cookies_of)))
    (either (unless (has_location h.location) (maps (with_location h) (header_of (text "Location") url_of)))
    (either (unless h.strict (maps (with_strict h) (header_of (text "Strict-Transport-Security") (word (text "T")))))
    (unless (has_policy h.policy) (maps (with_policy h) (header_of (text "ReferrerPolicy") policy_of)))))

-- in any order
unfoldable pub more_headers : Headers → Fields Headers
more_headers h nil = some h
more_headers h (cons t ts) = and_then (one_header_of h t) (λ h'. more_headers h' ts)

abbrev pub headers_of : Decoder Headers
headers_of = inside (more_headers no_headers)

-- (8:HTTPResp (7:request number) status headers body); "Status is 100 to 505"
abbrev pub reply_to : ℕ → ℕ → Headers → Body → Reply
reply_to n status h body = record {
  answer = record { number = record { 0 = n }; status = record { 0 = status }; location = h.location; strict = h.strict; policy = h.policy; body = body };
  cookies = h.cookies;
}

abbrev pub reply_of : Decoder Reply
reply_of =
    inside
    (one (word (text "HTTPResp")) λ _.
    one (labelled_of (text "request") 1 most32) λ n.
    one (numeral 100 505) λ status.
    one headers_of λ headers.
    one body_of λ body.
    end (reply_to n status headers body))

-- MESSAGES that a browser takes, but for TRIGGER.
abbrev pub plainly : Reply → Happening
plainly r = record { event = PlainAnswer r.answer; cookies = r.cookies }

abbrev pub encryptedly : Reply → ℕ → Happening
encryptedly r k = record { event = EncryptedAnswer (record { 0 = k }) r.answer; cookies = r.cookies }

abbrev pub quietly : Event → Happening
quietly e = record { event = e; cookies = set_cookies [] }

-- (5:enc_s answer (3:key number))
abbrev pub encrypted_of : Decoder Happening
encrypted_of =
    inside
    (one (word (text "enc_s")) λ _.
    one reply_of λ reply.
    one (labelled_of (text "key") 1 most32) λ k.
    end (encryptedly reply k))

-- (11:DNSResolved host address (3:dns number))
abbrev pub resolved_of : Decoder Happening
resolved_of =
    inside
    (one (word (text "DNSResolved")) λ _.
    one (numeral 1 most16) λ host.
    one (numeral 1 most16) λ address.
    one (labelled_of (text "dns") 1 most32) λ n.
    end (quietly (DnsResolved (record { host = record { 0 = host }; address = record { 0 = address }; number = record { 0 = n } }))))

abbrev pub message_of : Decoder Happening
message_of =
    either (maps plainly reply_of)
    (either encrypted_of
    (either resolved_of
    (means (text "CLOSECORRUPT") (quietly CloseCorrupt))))

-- CHOICES of a TRIGGER, in the order of Algorithms 7 and 9.
abbrev pub scripted : WindowNumber → ℕ → SetCookies → ℕ → ℕ → Command → Happening
scripted w state cookies local session command = record {
  event = RunScript w (record { state = record { 0 = state }; local = record { 0 = local }; session = record { 0 = session }; command = command });
  cookies = cookies;
}

-- (6:script window scriptstate cookies localStorage sessionStorage command)
abbrev pub script_of : Decoder Happening
script_of =
    inside
    (one (word (text "script")) λ _.
    one window_of λ window.
    one (numeral 0 most32) λ state.
    one cookies_of λ cookies.
    one (optional_of most32) λ local.
    one (optional_of most32) λ session.
    one command_of λ command.
    end (scripted window state cookies local session command))

-- 3:new, or a labelled window
abbrev pub place_of : Decoder Target
place_of = either (means (text "new") NewWindow) (maps Existing window_of)

-- (6:urlbar place protocol host path fragment parameters): A9:22 to 26 choose the fragment first
abbrev pub urlbar_of : Decoder Happening
urlbar_of =
    inside
    (one (word (text "urlbar")) λ _.
    one place_of λ target.
    one protocol_of λ protocol.
    one (numeral 1 most16) λ host.
    one (numeral 0 most16) λ path.
    one fragment_of λ fragment.
    one (optional_of most32) λ parameters.
    end (quietly (Urlbar target (record { protocol = protocol; host = record { 0 = host }; path = record { 0 = path }; parameters = record { 0 = parameters }; fragment = fragment }))))

-- (6:reload window), (7:forward window), (4:back window)
abbrev pub trigger_of : List ℕ → (WindowNumber → Event) → Decoder Happening
trigger_of w event = inside (one (word w) λ _. one window_of λ window. end (quietly (event window)))

abbrev pub choices_of : Decoder Happening
choices_of =
    either script_of
    (either urlbar_of
    (either (trigger_of (text "reload") Reload)
    (either (trigger_of (text "forward") GoForward)
    (trigger_of (text "back") GoBack))))

-- FRESH NUMBERS: "window, request, dns, key, document", each at most once; 0 for one that is not given.
abbrev pub fresh_of : Decoder Fresh
fresh_of =
    inside
    (perhaps 0 (λ n. n) (labelled_of (text "window") 1 most32) λ window.
    perhaps 0 (λ n. n) (labelled_of (text "request") 1 most32) λ request.
    perhaps 0 (λ n. n) (labelled_of (text "dns") 1 most32) λ dns.
    perhaps 0 (λ n. n) (labelled_of (text "key") 1 most32) λ key.
    perhaps 0 (λ n. n) (labelled_of (text "document") 1 most32) λ document.
    end (record { window = record { 0 = window }; request = record { 0 = request }; dns = record { 0 = dns }; key = record { 0 = key }; document = record { 0 = document } }))

-- ITEMS.
-- (receiver sender message): "an event's receiver must be 1, its sender is not compared with anything"
abbrev pub event_of : {A : Type 0} → Decoder A → Decoder A
event_of d =
    inside
    (one (numeral 1 1) λ receiver.
    one (numeral 1 most16) λ sender.
    one d λ message.
    end message)

abbrev pub item_from : Happening → Fresh → Item
item_from h f = record { event = h.event; cookies = h.cookies; fresh = f }

-- a TRIGGER with its choices, or another message with the choices ()
abbrev pub triggered_of : Decoder Item
triggered_of =
    inside
    (one (event_of (word (text "TRIGGER"))) λ _.
    one choices_of λ h.
    one fresh_of λ fresh.
    end (item_from h fresh))

abbrev pub told_of : Decoder Item
told_of =
    inside
    (one (event_of message_of) λ h.
    one empty_list λ _.
    one fresh_of λ fresh.
    end (item_from h fresh))

abbrev pub item_of : Decoder Item
item_of = either triggered_of told_of
