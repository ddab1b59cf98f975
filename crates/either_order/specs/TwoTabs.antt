-- An example: two tabs. In one a script stores and follows a link in its own window, which cancels a question that waits there; in the other an
-- answer sets a cookie and loads a page. The cancelled question is for the host of the answer: it goes by where it leads, not by its host.
-- Beside that answer stands another one, a redirect to its host for a window that has been closed: nothing goes there, so the two are apart.
use Rattle.std.specs.Prelude.{Bool, true, false, List, [], ◌∷◌, ◌++◌, map, ℕ}
use Prim.Native.String.{String}
use Rattle.tables.specs.Tables.{documents, pending_dns, Tables}
use Rattle.shapes.specs.Items.{set_cookies}
use Rattle.wim.specs.Nouns.{Plain, Absent, Unset, Cookie, Url, Existing, Href, Nowhere, To, Number, Page, RunScript, PlainAnswer, Item, Document, Question}
use Rattle.wim.specs.Step.{Browser, empty_browser}
use Rattle.wim.specs.Points.Compared.{Run}
use Rattle.wim.specs.Points.Paper.{leaves_all}

-- window 30 shows a page of host 5, and host 6 is asked for there; window 40 shows a page of host 6, whose next page has been requested; window 50,
-- which 30 opened, was closed while its page of host 8 was on its way
unfoldable pub set_up : List String
set_up =
    "((1:11:17:TRIGGER)(6:urlbar3:new1:P1:51:7()())((6:window2:30)(7:request2:30)(3:dns2:30)))"
    ∷ "((1:11:1(11:DNSResolved1:51:9(3:dns2:30)))()())"
    ∷ "((1:11:1(8:HTTPResp(7:request2:30)3:200()(1:11:0)))()((8:document2:30)))"
    ∷ "((1:11:17:TRIGGER)(6:urlbar3:new1:P1:61:7()())((6:window2:40)(7:request2:40)(3:dns2:40)))"
    ∷ "((1:11:1(11:DNSResolved1:61:9(3:dns2:40)))()())"
    ∷ "((1:11:1(8:HTTPResp(7:request2:40)3:200()(1:11:0)))()((8:document2:40)))"
    ∷ "((1:11:17:TRIGGER)(6:urlbar(6:window2:40)1:P1:61:8()())((7:request2:41)(3:dns2:41)))"
    ∷ "((1:11:1(11:DNSResolved1:61:9(3:dns2:41)))()())"
    ∷ "((1:11:17:TRIGGER)(6:urlbar(6:window2:30)1:P1:61:9()())((7:request2:32)(3:dns2:32)))"
    ∷ "((1:11:17:TRIGGER)(6:script(6:window2:30)1:0()()()(4:HREF(3:URL1:P1:81:7()())6:_BLANK1:F))((6:window2:50)(7:request2:50)(3:dns2:50)))"
    ∷ "((1:11:1(11:DNSResolved1:81:9(3:dns2:50)))()())"
    ∷ "((1:11:17:TRIGGER)(6:script(6:window2:30)1:0()()()(5:CLOSE(6:window2:50)))())"
    ∷ []

unfoldable pub set_up_lines : List String
set_up_lines =
    "(1:21:1(10:DNSResolve1:5(3:dns2:30)))"
    ∷ "(1:91:1(7:HTTPReq(7:request2:30)3:GET1:51:7()((6:Cookie()))()))"
    ∷ "()"
    ∷ "(1:21:1(10:DNSResolve1:6(3:dns2:40)))"
    ∷ "(1:91:1(7:HTTPReq(7:request2:40)3:GET1:61:7()((6:Cookie()))()))"
    ∷ "()"
    ∷ "(1:21:1(10:DNSResolve1:6(3:dns2:41)))"
    ∷ "(1:91:1(7:HTTPReq(7:request2:41)3:GET1:61:8()((6:Cookie()))()))"
    ∷ "(1:21:1(10:DNSResolve1:6(3:dns2:32)))"
    ∷ "(1:21:1(10:DNSResolve1:8(3:dns2:50)))"
    ∷ "(1:91:1(7:HTTPReq(7:request2:50)3:GET1:81:7()((6:Cookie())(7:Referer(3:URL1:P1:51:7()())))()))"
    ∷ "()"
    ∷ []

unfoldable pub here : Browser
here = leaves_all set_up empty_browser

-- the script of window 30: state 2, a cookie, both storages, and HREF to host 7 in its own window
unfoldable pub following : String
following = "((1:11:17:TRIGGER)(6:script(6:window2:30)1:2((1:3(1:11:F1:F1:F)))1:41:5(4:HREF(3:URL1:P1:71:8()())(6:window2:30)1:F))((7:request2:31)(3:dns2:31)))"

-- the page for window 40, with a cookie
unfoldable pub loading : String
loading = "((1:11:1(8:HTTPResp(7:request2:41)3:200((10:Set-Cookie((1:3(1:91:F1:F1:F)))))(1:11:0)))()((8:document2:41)))"

-- the answer for window 50, which is gone: a cookie, and a Location on host 6 that is not followed
unfoldable pub redirecting : String
redirecting = "((1:11:1(8:HTTPResp(7:request2:50)3:303((10:Set-Cookie((1:3(1:71:F1:F1:F))))(8:Location(3:URL1:P1:61:8()())))1:0))()())"

abbrev cookie3 : ℕ → Cookie
cookie3 v = record { name = record { prefixed = false; number = 3 }; value = record { 0 = v }; secure = false; session = false; httponly = false }

abbrev path8 : ℕ → Url
path8 h = record { protocol = Plain; host = record { 0 = h }; path = record { 0 = 8 }; parameters = record { 0 = 0 }; fragment = Absent }

unfoldable pub follow : Item
follow = record {
  event = RunScript (record { 0 = 30 }) (record { state = record { 0 = 2 }; local = record { 0 = 4 }; session = record { 0 = 5 }; command = Href (path8 7) (Existing (record { 0 = 30 })) false });
  cookies = set_cookies (cookie3 1 ∷ []);
  fresh = record { window = record { 0 = 0 }; request = record { 0 = 31 }; dns = record { 0 = 31 }; key = record { 0 = 0 }; document = record { 0 = 0 } };
}

unfoldable pub load : Item
load = record {
  event = PlainAnswer (record { number = record { 0 = 41 }; status = record { 0 = 200 }; location = Nowhere; strict = false; policy = Unset; body = Page (record { 0 = 1 }) (record { 0 = 0 }) });
  cookies = set_cookies (cookie3 9 ∷ []);
  fresh = record { window = record { 0 = 0 }; request = record { 0 = 0 }; dns = record { 0 = 0 }; key = record { 0 = 0 }; document = record { 0 = 41 } };
}

unfoldable pub redirect : Item
redirect = record {
  event = PlainAnswer (record { number = record { 0 = 50 }; status = record { 0 = 303 }; location = To (path8 6); strict = false; policy = Unset; body = Number 0 });
  cookies = set_cookies (cookie3 7 ∷ []);
  fresh = record { window = record { 0 = 0 }; request = record { 0 = 0 }; dns = record { 0 = 0 }; key = record { 0 = 0 }; document = record { 0 = 0 } };
}

-- what a document row says of its history and of its script
pub record Shown : Type 0 where
  pub window : ℕ
  pub place : ℕ
  pub number : ℕ
  pub state : ℕ
  pub active : Bool

abbrev pub shown : Document → Shown
shown d = record { window = d.window.0; place = d.place; number = d.number.0; state = d.state.0; active = d.active }

abbrev pub documents_shown : Tables → List Shown
documents_shown b = map shown (b documents)

-- the numbers of the questions that wait
abbrev pub questions_shown : Tables → List ℕ
questions_shown b = map (λ (q : Question). q.number.0) (b pending_dns)

unfoldable pub in_the_end : List Shown
in_the_end =
    record { window = 30; place = 1; number = 30; state = 2; active = true }
    ∷ record { window = 40; place = 1; number = 40; state = 0; active = false }
    ∷ record { window = 40; place = 2; number = 41; state = 0; active = true }
    ∷ []

abbrev pub follows_first : Run
follows_first = record { items = set_up ++ (following ∷ (loading ∷ [])); lines = set_up_lines ++ ("(1:21:1(10:DNSResolve1:7(3:dns2:31)))" ∷ ("()" ∷ [])) }

abbrev pub loads_first : Run
loads_first = record { items = set_up ++ (loading ∷ (following ∷ [])); lines = set_up_lines ++ ("()" ∷ ("(1:21:1(10:DNSResolve1:7(3:dns2:31)))" ∷ [])) }

abbrev pub redirects_first : Run
redirects_first = record { items = set_up ++ (redirecting ∷ (loading ∷ [])); lines = set_up_lines ++ ("()" ∷ ("()" ∷ [])) }

abbrev pub redirects_last : Run
redirects_last = record { items = set_up ++ (loading ∷ (redirecting ∷ [])); lines = set_up_lines ++ ("()" ∷ ("()" ∷ [])) }
