-- A dozen runs from text to text, settled from the papers alone. The player is played through these and many more (crates/player/data/cases).
use Rattle.std.specs.Prelude.{List, [], ◌∷◌}
use Rattle.wim.specs.Points.Compared.{Run}

-- 01: 'After refusal 1 it stops.'
abbrev pub refusal_1_stops : Run
refusal_1_stops = record {
  items =
      "03:abc((1:11:17:TRIGGER)(6:urlbar3:new1:P1:51:7()())((6:window2:30)(7:request2:31)(3:dns2:32)))"
      ∷ [];
  lines =
      "1"
      ∷ [];
}

-- A number that stands in the tables under its label is 5; under another label it is free.
abbrev pub fresh_number_in_use : Run
fresh_number_in_use = record {
  items =
      "((1:11:17:TRIGGER)(6:urlbar3:new1:P1:51:7()())((6:window2:30)(7:request2:31)(3:dns2:32)))"
      ∷ "((1:11:17:TRIGGER)(6:urlbar3:new1:P1:51:7()())((6:window2:30)(7:request1:1)(3:dns1:1)))"
      ∷ "((1:11:17:TRIGGER)(6:urlbar3:new1:P1:51:7()())((6:window1:1)(7:request2:31)(3:dns1:1)))"
      ∷ "((1:11:17:TRIGGER)(6:urlbar3:new1:P1:51:7()())((6:window1:1)(7:request1:1)(3:dns2:32)))"
      ∷ "((1:11:17:TRIGGER)(6:urlbar3:new1:P1:51:7()())((6:window2:31)(7:request2:32)(3:dns2:30)))"
      ∷ [];
  lines =
      "(1:21:1(10:DNSResolve1:5(3:dns2:32)))"
      ∷ "5"
      ∷ "5"
      ∷ "5"
      ∷ "(1:21:1(10:DNSResolve1:5(3:dns2:30)))"
      ∷ [];
}

-- Other host, other number, answered twice: 3.
abbrev pub dns_number_and_host_must_match : Run
dns_number_and_host_must_match = record {
  items =
      "((1:11:17:TRIGGER)(6:urlbar3:new1:P1:51:7()())((6:window2:30)(7:request2:31)(3:dns2:32)))"
      ∷ "((1:11:1(11:DNSResolved1:61:9(3:dns2:32)))()())"
      ∷ "((1:11:1(11:DNSResolved1:51:9(3:dns2:31)))()())"
      ∷ "((1:11:2(11:DNSResolved1:51:9(3:dns2:32)))()())"
      ∷ "((1:11:2(11:DNSResolved1:51:9(3:dns2:32)))()())"
      ∷ [];
  lines =
      "(1:21:1(10:DNSResolve1:5(3:dns2:32)))"
      ∷ "3"
      ∷ "3"
      ∷ "(1:91:1(7:HTTPReq(7:request2:31)3:GET1:51:7()((6:Cookie()))()))"
      ∷ "3"
      ∷ [];
}

-- Wrong number under the key 3, unknown key 3, plain answer to a keyed request 3, then taken, then gone.
abbrev pub encrypted_answer_by_key_and_number : Run
encrypted_answer_by_key_and_number = record {
  items =
      "((1:11:17:TRIGGER)(6:urlbar3:new1:S1:51:7()())((6:window1:1)(7:request1:1)(3:dns1:1)))"
      ∷ "((1:11:1(11:DNSResolved1:51:9(3:dns1:1)))()((3:key1:1)))"
      ∷ "((1:11:1(5:enc_s(8:HTTPResp(7:request1:1)3:200()(1:11:0))(3:key1:1)))()((8:document1:1)))"
      ∷ "((1:11:17:TRIGGER)(6:reload(6:window1:1))((7:request1:2)(3:dns1:2)))"
      ∷ "((1:11:1(11:DNSResolved1:51:9(3:dns1:2)))()((3:key1:9)))"
      ∷ "((1:11:1(5:enc_s(8:HTTPResp(7:request1:3)3:200()(1:11:0))(3:key1:9)))()((8:document1:2)))"
      ∷ "((1:11:1(5:enc_s(8:HTTPResp(7:request1:2)3:200()(1:11:0))(3:key1:2)))()((8:document1:2)))"
      ∷ "((1:11:1(8:HTTPResp(7:request1:2)3:200()(1:11:0)))()((8:document1:2)))"
      ∷ "((1:11:1(5:enc_s(8:HTTPResp(7:request1:2)3:200()(1:11:0))(3:key1:9)))()((8:document1:2)))"
      ∷ "((1:11:1(5:enc_s(8:HTTPResp(7:request1:2)3:200()(1:11:0))(3:key1:9)))()((8:document1:3)))"
      ∷ [];
  lines =
      "(1:21:1(10:DNSResolve1:5(3:dns1:1)))"
      ∷ "(1:91:1(5:enc_a((7:HTTPReq(7:request1:1)3:GET1:51:7()((6:Cookie()))())(3:key1:1))(3:pub1:5)))"
      ∷ "()"
      ∷ "(1:21:1(10:DNSResolve1:5(3:dns1:2)))"
      ∷ "(1:91:1(5:enc_a((7:HTTPReq(7:request1:2)3:GET1:51:7()((6:Cookie()))())(3:key1:9))(3:pub1:5)))"
      ∷ "3"
      ∷ "3"
      ∷ "3"
      ∷ "()"
      ∷ "3"
      ∷ [];
}

-- Cookies belong to the request's host only.
abbrev pub cookies-by-host : Run
cookies-by-host = record {
  items =
      "((1:11:17:TRIGGER)(6:urlbar3:new1:P1:51:7()())((6:window1:1)(7:request1:1)(3:dns1:1)))"
      ∷ "((1:11:1(11:DNSResolved1:51:9(3:dns1:1)))()())"
      ∷ "((1:11:1(8:HTTPResp(7:request1:1)3:200((10:Set-Cookie((1:3(1:11:F1:F1:F)))))(1:11:0)))()((8:document1:1)))"
      ∷ "((1:11:17:TRIGGER)(6:urlbar3:new1:P1:61:7()())((6:window1:2)(7:request1:2)(3:dns1:2)))"
      ∷ "((1:11:1(11:DNSResolved1:61:9(3:dns1:2)))()())"
      ∷ "((1:11:1(8:HTTPResp(7:request1:2)3:200()(1:11:0)))()((8:document1:2)))"
      ∷ "((1:11:17:TRIGGER)(6:urlbar(6:window1:2)1:P1:51:9()())((7:request1:3)(3:dns1:3)))"
      ∷ "((1:11:1(11:DNSResolved1:51:9(3:dns1:3)))()())"
      ∷ [];
  lines =
      "(1:21:1(10:DNSResolve1:5(3:dns1:1)))"
      ∷ "(1:91:1(7:HTTPReq(7:request1:1)3:GET1:51:7()((6:Cookie()))()))"
      ∷ "()"
      ∷ "(1:21:1(10:DNSResolve1:6(3:dns1:2)))"
      ∷ "(1:91:1(7:HTTPReq(7:request1:2)3:GET1:61:7()((6:Cookie()))()))"
      ∷ "()"
      ∷ "(1:21:1(10:DNSResolve1:5(3:dns1:3)))"
      ∷ "(1:91:1(7:HTTPReq(7:request1:3)3:GET1:51:9()((6:Cookie((1:31:1))))()))"
      ∷ [];
}

-- 01: 'of equal names the later stays', and it replaces the old one.
abbrev pub script-later-cookie-wins : Run
script-later-cookie-wins = record {
  items =
      "((1:11:17:TRIGGER)(6:urlbar3:new1:S1:51:7()())((6:window1:1)(7:request1:1)(3:dns1:1)))"
      ∷ "((1:11:1(11:DNSResolved1:51:9(3:dns1:1)))()((3:key1:1)))"
      ∷ "((1:11:1(5:enc_s(8:HTTPResp(7:request1:1)3:200((10:Set-Cookie((1:3(1:11:F1:F1:F)))))(1:11:0))(3:key1:1)))()((8:document1:1)))"
      ∷ "((1:11:17:TRIGGER)(6:script(6:window1:1)1:0((1:3(1:21:F1:F1:F))(1:3(1:41:F1:F1:F))(1:2(1:81:F1:F1:F)))()()())())"
      ∷ "((1:11:17:TRIGGER)(6:urlbar(6:window1:1)1:S1:51:9()())((7:request1:2)(3:dns1:2)))"
      ∷ "((1:11:1(11:DNSResolved1:51:9(3:dns1:2)))()((3:key1:2)))"
      ∷ [];
  lines =
      "(1:21:1(10:DNSResolve1:5(3:dns1:1)))"
      ∷ "(1:91:1(5:enc_a((7:HTTPReq(7:request1:1)3:GET1:51:7()((6:Cookie()))())(3:key1:1))(3:pub1:5)))"
      ∷ "()"
      ∷ "()"
      ∷ "(1:21:1(10:DNSResolve1:5(3:dns1:2)))"
      ∷ "(1:91:1(5:enc_a((7:HTTPReq(7:request1:2)3:GET1:51:9()((6:Cookie((1:21:8)(1:31:4))))())(3:key1:2))(3:pub1:5)))"
      ∷ [];
}

-- 2 is not navigable from 1: the reference is window 1, whose waiting question is cancelled.
abbrev pub fallen_back_href_cancels_own_window : Run
fallen_back_href_cancels_own_window = record {
  items =
      "((1:11:17:TRIGGER)(6:urlbar3:new1:P1:51:7()())((6:window1:1)(7:request1:1)(3:dns1:1)))"
      ∷ "((1:11:1(11:DNSResolved1:51:9(3:dns1:1)))()())"
      ∷ "((1:11:1(8:HTTPResp(7:request1:1)3:200()(1:11:0)))()((8:document1:1)))"
      ∷ "((1:11:17:TRIGGER)(6:urlbar(6:window1:1)1:P1:51:9()())((7:request1:2)(3:dns1:2)))"
      ∷ "((1:11:17:TRIGGER)(6:urlbar3:new1:P1:61:7()())((6:window1:2)(7:request1:3)(3:dns1:3)))"
      ∷ "((1:11:1(11:DNSResolved1:61:9(3:dns1:3)))()())"
      ∷ "((1:11:1(8:HTTPResp(7:request1:3)3:200()(1:11:0)))()((8:document1:3)))"
      ∷ "((1:11:17:TRIGGER)(6:script(6:window1:1)1:0()()()(4:HREF(3:URL1:P1:71:7()())(6:window1:2)1:F))((7:request1:4)(3:dns1:4)))"
      ∷ "((1:11:1(11:DNSResolved1:51:9(3:dns1:2)))()())"
      ∷ "((1:11:1(11:DNSResolved1:71:9(3:dns1:4)))()())"
      ∷ "((1:11:1(8:HTTPResp(7:request1:4)3:200()(1:11:0)))()((8:document1:4)))"
      ∷ "((1:11:17:TRIGGER)(4:back(6:window1:2))())"
      ∷ "((1:11:17:TRIGGER)(4:back(6:window1:1))())"
      ∷ [];
  lines =
      "(1:21:1(10:DNSResolve1:5(3:dns1:1)))"
      ∷ "(1:91:1(7:HTTPReq(7:request1:1)3:GET1:51:7()((6:Cookie()))()))"
      ∷ "()"
      ∷ "(1:21:1(10:DNSResolve1:5(3:dns1:2)))"
      ∷ "(1:21:1(10:DNSResolve1:6(3:dns1:3)))"
      ∷ "(1:91:1(7:HTTPReq(7:request1:3)3:GET1:61:7()((6:Cookie()))()))"
      ∷ "()"
      ∷ "(1:21:1(10:DNSResolve1:7(3:dns1:4)))"
      ∷ "3"
      ∷ "(1:91:1(7:HTTPReq(7:request1:4)3:GET1:71:7()((6:Cookie())(7:Referer(3:URL1:P1:51:7()())))()))"
      ∷ "()"
      ∷ "4"
      ∷ "()"
      ∷ [];
}

-- A4:12: policy origin strips the Referer to path / (1:0).
abbrev pub referrer_policy_origin : Run
referrer_policy_origin = record {
  items =
      "((1:11:17:TRIGGER)(6:urlbar3:new1:P1:51:7()1:3)((6:window1:1)(7:request1:1)(3:dns1:1)))"
      ∷ "((1:11:1(11:DNSResolved1:51:9(3:dns1:1)))()())"
      ∷ "((1:11:1(8:HTTPResp(7:request1:1)3:200((14:ReferrerPolicy6:origin))(1:11:0)))()((8:document1:1)))"
      ∷ "((1:11:17:TRIGGER)(6:script(6:window1:1)1:0()()()(4:HREF(3:URL1:P1:61:8()())(6:window1:1)1:F))((7:request1:2)(3:dns1:2)))"
      ∷ "((1:11:1(11:DNSResolved1:61:9(3:dns1:2)))()())"
      ∷ [];
  lines =
      "(1:21:1(10:DNSResolve1:5(3:dns1:1)))"
      ∷ "(1:91:1(7:HTTPReq(7:request1:1)3:GET1:51:71:3((6:Cookie()))()))"
      ∷ "()"
      ∷ "(1:21:1(10:DNSResolve1:6(3:dns1:2)))"
      ∷ "(1:91:1(7:HTTPReq(7:request1:2)3:GET1:61:8()((6:Cookie())(7:Referer(3:URL1:P1:51:0()())))()))"
      ∷ [];
}

-- A8:17: kept from the Origin's own host, kept within one host, null at the first foreign hop, null stays.
abbrev pub redirect_307_post_origin_kept_then_null : Run
redirect_307_post_origin_kept_then_null = record {
  items =
      "((1:11:17:TRIGGER)(6:urlbar3:new1:P1:51:7()())((6:window1:1)(7:request1:1)(3:dns1:1)))"
      ∷ "((1:11:1(11:DNSResolved1:51:9(3:dns1:1)))()())"
      ∷ "((1:11:1(8:HTTPResp(7:request1:1)3:200()(1:11:0)))()((8:document1:1)))"
      ∷ "((1:11:17:TRIGGER)(6:script(6:window1:1)1:0()()()(4:FORM(3:URL1:P1:51:81:4())4:POST1:5(6:window1:1)))((7:request1:2)(3:dns1:2)))"
      ∷ "((1:11:1(11:DNSResolved1:51:9(3:dns1:2)))()())"
      ∷ "((1:11:1(8:HTTPResp(7:request1:2)3:307((8:Location(3:URL1:P1:61:9()())))1:0))()((7:request1:3)(3:dns1:3)))"
      ∷ "((1:11:1(11:DNSResolved1:61:9(3:dns1:3)))()())"
      ∷ "((1:11:1(8:HTTPResp(7:request1:3)3:307((8:Location(3:URL1:P1:62:10()())))1:0))()((7:request1:4)(3:dns1:4)))"
      ∷ "((1:11:1(11:DNSResolved1:61:9(3:dns1:4)))()())"
      ∷ "((1:11:1(8:HTTPResp(7:request1:4)3:307((8:Location(3:URL1:P1:72:11()())))1:0))()((7:request1:5)(3:dns1:5)))"
      ∷ "((1:11:1(11:DNSResolved1:71:9(3:dns1:5)))()())"
      ∷ "((1:11:1(8:HTTPResp(7:request1:5)3:307((8:Location(3:URL1:P1:72:12()())))1:0))()((7:request1:6)(3:dns1:6)))"
      ∷ "((1:11:1(11:DNSResolved1:71:9(3:dns1:6)))()())"
      ∷ [];
  lines =
      "(1:21:1(10:DNSResolve1:5(3:dns1:1)))"
      ∷ "(1:91:1(7:HTTPReq(7:request1:1)3:GET1:51:7()((6:Cookie()))()))"
      ∷ "()"
      ∷ "(1:21:1(10:DNSResolve1:5(3:dns1:2)))"
      ∷ "(1:91:1(7:HTTPReq(7:request1:2)4:POST1:51:81:4((6:Cookie())(6:Origin(1:51:P))(7:Referer(3:URL1:P1:51:7()())))1:5))"
      ∷ "(1:21:1(10:DNSResolve1:6(3:dns1:3)))"
      ∷ "(1:91:1(7:HTTPReq(7:request1:3)4:POST1:61:9()((6:Cookie())(6:Origin(1:51:P))(7:Referer(3:URL1:P1:51:7()())))1:5))"
      ∷ "(1:21:1(10:DNSResolve1:6(3:dns1:4)))"
      ∷ "(1:91:1(7:HTTPReq(7:request1:4)4:POST1:62:10()((6:Cookie())(6:Origin(1:51:P))(7:Referer(3:URL1:P1:51:7()())))1:5))"
      ∷ "(1:21:1(10:DNSResolve1:7(3:dns1:5)))"
      ∷ "(1:91:1(7:HTTPReq(7:request1:5)4:POST1:72:11()((6:Cookie())(6:Origin4:null)(7:Referer(3:URL1:P1:51:7()())))1:5))"
      ∷ "(1:21:1(10:DNSResolve1:7(3:dns1:6)))"
      ∷ "(1:91:1(7:HTTPReq(7:request1:6)4:POST1:72:12()((6:Cookie())(6:Origin4:null)(7:Referer(3:URL1:P1:51:7()())))1:5))"
      ∷ [];
}

-- A8:2-6 act on cookies and STS before the redirect is sent: P turns to S and the secure cookie goes along.
abbrev pub redirect_sees_own_headers_first : Run
redirect_sees_own_headers_first = record {
  items =
      "((1:11:17:TRIGGER)(6:urlbar3:new1:S1:51:7()())((6:window1:1)(7:request1:1)(3:dns1:1)))"
      ∷ "((1:11:1(11:DNSResolved1:51:9(3:dns1:1)))()((3:key1:1)))"
      ∷ "((1:11:1(5:enc_s(8:HTTPResp(7:request1:1)3:303((8:Location(3:URL1:P1:51:8()()))(25:Strict-Transport-Security1:T)(10:Set-Cookie((1:3(1:91:T1:F1:F)))))1:0)(3:key1:1)))()((7:request1:2)(3:dns1:2)))"
      ∷ "((1:11:1(11:DNSResolved1:51:9(3:dns1:2)))()((3:key1:2)))"
      ∷ [];
  lines =
      "(1:21:1(10:DNSResolve1:5(3:dns1:1)))"
      ∷ "(1:91:1(5:enc_a((7:HTTPReq(7:request1:1)3:GET1:51:7()((6:Cookie()))())(3:key1:1))(3:pub1:5)))"
      ∷ "(1:21:1(10:DNSResolve1:5(3:dns1:2)))"
      ∷ "(1:91:1(5:enc_a((7:HTTPReq(7:request1:2)3:GET1:51:8()((6:Cookie((1:31:9)))(6:Origin4:null))())(3:key1:2))(3:pub1:5)))"
      ∷ [];
}

-- Wrong turn 3: window 31 under an inactive document is not reached (3); back makes it reached again.
abbrev pub wrong_turn_window_under_inactive_document : Run
wrong_turn_window_under_inactive_document = record {
  items =
      "((1:11:17:TRIGGER)(6:urlbar3:new1:P1:51:7()())((6:window2:30)(7:request2:30)(3:dns2:30)))"
      ∷ "((1:11:1(11:DNSResolved1:51:9(3:dns2:30)))()())"
      ∷ "((1:11:1(8:HTTPResp(7:request2:30)3:200()(1:11:0)))()((8:document2:30)))"
      ∷ "((1:11:17:TRIGGER)(6:script(6:window2:30)1:0()()()(6:IFRAME(3:URL1:P1:61:8()())(6:window2:30)))((6:window2:31)(7:request2:31)(3:dns2:31)))"
      ∷ "((1:11:1(11:DNSResolved1:61:9(3:dns2:31)))()())"
      ∷ "((1:11:1(8:HTTPResp(7:request2:31)3:200()(1:11:0)))()((8:document2:31)))"
      ∷ "((1:11:17:TRIGGER)(6:urlbar(6:window2:30)1:P1:51:9()())((7:request2:40)(3:dns2:40)))"
      ∷ "((1:11:1(11:DNSResolved1:51:9(3:dns2:40)))()())"
      ∷ "((1:11:1(8:HTTPResp(7:request2:40)3:200()(1:11:0)))()((8:document2:40)))"
      ∷ "((1:11:17:TRIGGER)(6:script(6:window2:31)1:0()()()())())"
      ∷ "((1:11:17:TRIGGER)(6:reload(6:window2:31))((7:request1:1)(3:dns1:1)))"
      ∷ "((1:11:17:TRIGGER)(6:script(6:window2:30)1:0()()()(11:POSTMESSAGE(6:window2:31)1:4()))())"
      ∷ "((1:11:17:TRIGGER)(4:back(6:window2:30))())"
      ∷ "((1:11:17:TRIGGER)(6:script(6:window2:31)1:0()()()())())"
      ∷ "((1:11:17:TRIGGER)(6:script(6:window2:30)1:0()()()(11:POSTMESSAGE(6:window2:31)1:4()))())"
      ∷ [];
  lines =
      "(1:21:1(10:DNSResolve1:5(3:dns2:30)))"
      ∷ "(1:91:1(7:HTTPReq(7:request2:30)3:GET1:51:7()((6:Cookie()))()))"
      ∷ "()"
      ∷ "(1:21:1(10:DNSResolve1:6(3:dns2:31)))"
      ∷ "(1:91:1(7:HTTPReq(7:request2:31)3:GET1:61:8()((6:Cookie())(7:Referer(3:URL1:P1:51:7()())))()))"
      ∷ "()"
      ∷ "(1:21:1(10:DNSResolve1:5(3:dns2:40)))"
      ∷ "(1:91:1(7:HTTPReq(7:request2:40)3:GET1:51:9()((6:Cookie()))()))"
      ∷ "()"
      ∷ "3"
      ∷ "3"
      ∷ "3"
      ∷ "()"
      ∷ "()"
      ∷ "()"
      ∷ [];
}

-- Wrong turn 1: document 8 sits in window 9 while window 8 exists; the XHR answer becomes an input, loads nothing.
abbrev pub wrong_turn_xhr_answer_under_window_number : Run
wrong_turn_xhr_answer_under_window_number = record {
  items =
      "((1:11:17:TRIGGER)(6:urlbar3:new1:P1:51:7()())((6:window1:8)(7:request1:9)(3:dns1:9)))"
      ∷ "((1:11:1(11:DNSResolved1:51:9(3:dns1:9)))()())"
      ∷ "((1:11:1(8:HTTPResp(7:request1:9)3:200()(1:11:0)))()((8:document1:9)))"
      ∷ "((1:11:17:TRIGGER)(6:urlbar3:new1:P1:51:7()())((6:window1:9)(7:request1:8)(3:dns1:8)))"
      ∷ "((1:11:1(11:DNSResolved1:51:9(3:dns1:8)))()())"
      ∷ "((1:11:1(8:HTTPResp(7:request1:8)3:200()(1:11:0)))()((8:document1:8)))"
      ∷ "((1:11:17:TRIGGER)(6:script(6:window1:9)1:0()()()(14:XMLHTTPREQUEST(3:URL1:P1:51:7()())3:GET()1:1))((7:request1:1)(3:dns1:1)))"
      ∷ "((1:11:1(11:DNSResolved1:51:9(3:dns1:1)))()())"
      ∷ "((1:11:1(8:HTTPResp(7:request1:1)3:200()(1:11:0)))()((8:document2:10)))"
      ∷ "((1:11:1(8:HTTPResp(7:request1:1)3:200()(1:11:0)))()())"
      ∷ "((1:11:17:TRIGGER)(4:back(6:window1:8))())"
      ∷ "((1:11:17:TRIGGER)(4:back(6:window1:9))())"
      ∷ [];
  lines =
      "(1:21:1(10:DNSResolve1:5(3:dns1:9)))"
      ∷ "(1:91:1(7:HTTPReq(7:request1:9)3:GET1:51:7()((6:Cookie()))()))"
      ∷ "()"
      ∷ "(1:21:1(10:DNSResolve1:5(3:dns1:8)))"
      ∷ "(1:91:1(7:HTTPReq(7:request1:8)3:GET1:51:7()((6:Cookie()))()))"
      ∷ "()"
      ∷ "(1:21:1(10:DNSResolve1:5(3:dns1:1)))"
      ∷ "(1:91:1(7:HTTPReq(7:request1:1)3:GET1:51:7()((6:Cookie())(7:Referer(3:URL1:P1:51:7()())))()))"
      ∷ "5"
      ∷ "()"
      ∷ "4"
      ∷ "4"
      ∷ [];
}

abbrev pub runs : List Run
runs =
    refusal_1_stops
    ∷ fresh_number_in_use
    ∷ dns_number_and_host_must_match
    ∷ encrypted_answer_by_key_and_number
    ∷ cookies-by-host
    ∷ script-later-cookie-wins
    ∷ fallen_back_href_cancels_own_window
    ∷ referrer_policy_origin
    ∷ redirect_307_post_origin_kept_then_null
    ∷ redirect_sees_own_headers_first
    ∷ wrong_turn_window_under_inactive_document
    ∷ wrong_turn_xhr_answer_under_window_number
    ∷ []
