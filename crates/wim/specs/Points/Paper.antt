-- The points marked P in 01 (1 to 11), as one table; the run that 01 prints; and refusal 7, which no run of the player meets.
use Rattle.std.specs.Prelude.{Bool, true, false, ◌&&◌, List, [], ◌∷◌, ℕ, zero, suc, eqb}
use Prim.Native.String.{String}
use Rattle.tables.specs.Tables.{windows, documents}
use Rattle.csexp.specs.Text.{text}
use Rattle.csexp.specs.Term.{Term, atom, list}
use Rattle.csexp.specs.Read.{Got, no, got, read}
use Rattle.shapes.specs.Texts.{item_in}
use Rattle.wim.specs.Navigable.{navigable_mask, navigable_size}
use Rattle.wim.specs.Step.{verdict_number, Browser, empty_browser}
use Rattle.wim.specs.Wire.{rehearse}
use Rattle.wim.specs.Run.{performed, after}
use Rattle.wim.specs.Points.Compared.{Run, equal, prints}

-- 01 "The player's run"
abbrev pub example : Run
example = record {
  items =
      "((1:11:17:TRIGGER)(6:urlbar3:new1:P1:51:7()())((6:window2:30)(7:request2:31)(3:dns2:32)))"
      ∷ "((1:11:2(11:DNSResolved1:51:9(3:dns2:32)))()())"
      ∷ [];
  lines =
      "(1:21:1(10:DNSResolve1:5(3:dns2:32)))"
      ∷ "(1:91:1(7:HTTPReq(7:request2:31)3:GET1:51:7()((6:Cookie()))()))"
      ∷ [];
}

-- A point: its number in the paper, and whether the definitions say so.
pub record Point : Type 0 where
  pub number : ℕ
  pub holds : Bool

abbrev pub all_hold : List Point → Bool
all_hold [] = true
all_hold (p ∷ ps) = p.holds && all_hold ps

abbrev pub is_atom : Got Term → String → Bool
is_atom no w = false
is_atom (got (atom bs) rest) w = equal bs (text w) && equal rest []
is_atom (got (list ts) rest) w = false

abbrev pub zeros : ℕ → List ℕ
zeros room = elim room as (λ _. List ℕ) [ zero ↦ [] | suc (n → more) ↦ 0 ∷ more ]

-- the number that a text gets from the empty open browser, 0 where it is accepted; `room` bytes are lent
abbrev pub refusal_of : String → ℕ → ℕ → ℕ
refusal_of s room place = verdict_number (rehearse (text s) empty_browser (zeros room) place).verdict

-- the browser that a text leaves
abbrev pub leaves : String → Browser → Browser
leaves s b = after b (performed (item_in (text s)) b)

abbrev pub leaves_all : List String → Browser → Browser
leaves_all [] b = b
leaves_all (s ∷ ss) b = leaves_all ss (leaves s b)

abbrev pub set_from : ℕ → Browser → ℕ
set_from w b = navigable_mask (b.tables windows) (b.tables documents) (record { 0 = w })

abbrev pub size_from : ℕ → Browser → ℕ
size_from w b = navigable_size (b.tables windows) (b.tables documents) (record { 0 = w })

-- window 30 at the top shows a page of host 5
abbrev pub opened30 : List String
opened30 =
    "((1:11:17:TRIGGER)(6:urlbar3:new1:P1:51:7()())((6:window2:30)(7:request2:30)(3:dns2:30)))"
    ∷ "((1:11:1(11:DNSResolved1:51:9(3:dns2:30)))()())"
    ∷ "((1:11:1(8:HTTPResp(7:request2:30)3:200()(1:11:0)))()((8:document2:30)))"
    ∷ []

-- and 31, its child, a page of host 6
abbrev pub framed31 : List String
framed31 =
    "((1:11:17:TRIGGER)(6:script(6:window2:30)1:0()()()(6:IFRAME(3:URL1:P1:61:8()())(6:window2:30)))((6:window2:31)(7:request2:31)(3:dns2:31)))"
    ∷ "((1:11:1(11:DNSResolved1:61:9(3:dns2:31)))()())"
    ∷ "((1:11:1(8:HTTPResp(7:request2:31)3:200()(1:11:0)))()((8:document2:31)))"
    ∷ []

-- or 40, opened by it, a page of host 6
abbrev pub opened40 : List String
opened40 =
    "((1:11:17:TRIGGER)(6:script(6:window2:30)1:0()()()(4:HREF(3:URL1:P1:61:8()())6:_BLANK1:F))((6:window2:40)(7:request2:40)(3:dns2:40)))"
    ∷ "((1:11:1(11:DNSResolved1:61:9(3:dns2:40)))()())"
    ∷ "((1:11:1(8:HTTPResp(7:request2:40)3:200()(1:11:0)))()((8:document2:40)))"
    ∷ []

abbrev pub parent_and_child : Browser
parent_and_child = leaves_all framed31 (leaves_all opened30 empty_browser)

abbrev pub opener_and_opened : Browser
opener_and_opened = leaves_all opened40 (leaves_all opened30 empty_browser)

-- host 5 in STS, address P: goes out as S with the secure cookie
abbrev pub secure_cookie_after_sts : Run
secure_cookie_after_sts = record {
  items =
      "((1:11:17:TRIGGER)(6:urlbar3:new1:S1:51:7()())((6:window1:1)(7:request1:1)(3:dns1:1)))"
      ∷ "((1:11:1(11:DNSResolved1:51:9(3:dns1:1)))()((3:key1:1)))"
      ∷ "((1:11:1(5:enc_s(8:HTTPResp(7:request1:1)3:200((10:Set-Cookie((1:3(1:91:T1:F1:F))))(25:Strict-Transport-Security1:T))(1:11:0))(3:key1:1)))()((8:document1:1)))"
      ∷ "((1:11:17:TRIGGER)(6:urlbar(6:window1:1)1:P1:51:8()())((7:request1:2)(3:dns1:2)))"
      ∷ "((1:11:1(11:DNSResolved1:51:9(3:dns1:2)))()((3:key1:2)))"
      ∷ [];
  lines =
      "(1:21:1(10:DNSResolve1:5(3:dns1:1)))"
      ∷ "(1:91:1(5:enc_a((7:HTTPReq(7:request1:1)3:GET1:51:7()((6:Cookie()))())(3:key1:1))(3:pub1:5)))"
      ∷ "()"
      ∷ "(1:21:1(10:DNSResolve1:5(3:dns1:2)))"
      ∷ "(1:91:1(5:enc_a((7:HTTPReq(7:request1:2)3:GET1:51:8()((6:Cookie((1:31:9))))())(3:key1:2))(3:pub1:5)))"
      ∷ [];
}

-- without STS the cookie stays home
abbrev pub secure_cookie_stays_home : Run
secure_cookie_stays_home = record {
  items =
      "((1:11:17:TRIGGER)(6:urlbar3:new1:S1:51:7()())((6:window1:1)(7:request1:1)(3:dns1:1)))"
      ∷ "((1:11:1(11:DNSResolved1:51:9(3:dns1:1)))()((3:key1:1)))"
      ∷ "((1:11:1(5:enc_s(8:HTTPResp(7:request1:1)3:200((10:Set-Cookie((1:3(1:91:T1:F1:F)))))(1:11:0))(3:key1:1)))()((8:document1:1)))"
      ∷ "((1:11:17:TRIGGER)(6:urlbar(6:window1:1)1:P1:51:8()())((7:request1:2)(3:dns1:2)))"
      ∷ "((1:11:1(11:DNSResolved1:51:9(3:dns1:2)))()())"
      ∷ "((1:11:17:TRIGGER)(6:urlbar(6:window1:1)1:S1:51:8()())((7:request1:3)(3:dns1:3)))"
      ∷ "((1:11:1(11:DNSResolved1:51:9(3:dns1:3)))()((3:key1:3)))"
      ∷ [];
  lines =
      "(1:21:1(10:DNSResolve1:5(3:dns1:1)))"
      ∷ "(1:91:1(5:enc_a((7:HTTPReq(7:request1:1)3:GET1:51:7()((6:Cookie()))())(3:key1:1))(3:pub1:5)))"
      ∷ "()"
      ∷ "(1:21:1(10:DNSResolve1:5(3:dns1:2)))"
      ∷ "(1:91:1(7:HTTPReq(7:request1:2)3:GET1:51:8()((6:Cookie()))()))"
      ∷ "(1:21:1(10:DNSResolve1:5(3:dns1:3)))"
      ∷ "(1:91:1(5:enc_a((7:HTTPReq(7:request1:3)3:GET1:51:8()((6:Cookie((1:31:9))))())(3:key1:3))(3:pub1:5)))"
      ∷ [];
}

-- script sets name 3 value 1, then name 3 value 2 httpOnly: value 1 is stored
abbrev pub http_only_newcomer_dropped : Run
http_only_newcomer_dropped = record {
  items =
      "((1:11:17:TRIGGER)(6:urlbar3:new1:S1:51:7()())((6:window1:1)(7:request1:1)(3:dns1:1)))"
      ∷ "((1:11:1(11:DNSResolved1:51:9(3:dns1:1)))()((3:key1:1)))"
      ∷ "((1:11:1(5:enc_s(8:HTTPResp(7:request1:1)3:200()(1:11:0))(3:key1:1)))()((8:document1:1)))"
      ∷ "((1:11:17:TRIGGER)(6:script(6:window1:1)1:0((1:3(1:11:F1:F1:F))(1:3(1:21:F1:F1:T)))()()())())"
      ∷ "((1:11:17:TRIGGER)(6:urlbar(6:window1:1)1:S1:51:9()())((7:request1:2)(3:dns1:2)))"
      ∷ "((1:11:1(11:DNSResolved1:51:9(3:dns1:2)))()((3:key1:2)))"
      ∷ [];
  lines =
      "(1:21:1(10:DNSResolve1:5(3:dns1:1)))"
      ∷ "(1:91:1(5:enc_a((7:HTTPReq(7:request1:1)3:GET1:51:7()((6:Cookie()))())(3:key1:1))(3:pub1:5)))"
      ∷ "()"
      ∷ "()"
      ∷ "(1:21:1(10:DNSResolve1:5(3:dns1:2)))"
      ∷ "(1:91:1(5:enc_a((7:HTTPReq(7:request1:2)3:GET1:51:9()((6:Cookie((1:31:1))))())(3:key1:2))(3:pub1:5)))"
      ∷ [];
}

-- old name 3 httpOnly, new name 3: the old stays
abbrev pub old_http_only_stays : Run
old_http_only_stays = record {
  items =
      "((1:11:17:TRIGGER)(6:urlbar3:new1:S1:51:7()())((6:window1:1)(7:request1:1)(3:dns1:1)))"
      ∷ "((1:11:1(11:DNSResolved1:51:9(3:dns1:1)))()((3:key1:1)))"
      ∷ "((1:11:1(5:enc_s(8:HTTPResp(7:request1:1)3:200((10:Set-Cookie((1:3(1:11:F1:F1:T)))))(1:11:0))(3:key1:1)))()((8:document1:1)))"
      ∷ "((1:11:17:TRIGGER)(6:script(6:window1:1)1:0((1:3(1:21:F1:F1:F)))()()())())"
      ∷ "((1:11:17:TRIGGER)(6:urlbar(6:window1:1)1:S1:51:9()())((7:request1:2)(3:dns1:2)))"
      ∷ "((1:11:1(11:DNSResolved1:51:9(3:dns1:2)))()((3:key1:2)))"
      ∷ [];
  lines =
      "(1:21:1(10:DNSResolve1:5(3:dns1:1)))"
      ∷ "(1:91:1(5:enc_a((7:HTTPReq(7:request1:1)3:GET1:51:7()((6:Cookie()))())(3:key1:1))(3:pub1:5)))"
      ∷ "()"
      ∷ "()"
      ∷ "(1:21:1(10:DNSResolve1:5(3:dns1:2)))"
      ∷ "(1:91:1(5:enc_a((7:HTTPReq(7:request1:2)3:GET1:51:9()((6:Cookie((1:31:1))))())(3:key1:2))(3:pub1:5)))"
      ∷ [];
}

-- old name 2, new name 3: both are there
abbrev pub both_names_there : Run
both_names_there = record {
  items =
      "((1:11:17:TRIGGER)(6:urlbar3:new1:S1:51:7()())((6:window1:1)(7:request1:1)(3:dns1:1)))"
      ∷ "((1:11:1(11:DNSResolved1:51:9(3:dns1:1)))()((3:key1:1)))"
      ∷ "((1:11:1(5:enc_s(8:HTTPResp(7:request1:1)3:200((10:Set-Cookie((1:2(1:11:F1:F1:F)))))(1:11:0))(3:key1:1)))()((8:document1:1)))"
      ∷ "((1:11:17:TRIGGER)(6:script(6:window1:1)1:0((1:3(1:21:F1:F1:F)))()()())())"
      ∷ "((1:11:17:TRIGGER)(6:urlbar(6:window1:1)1:S1:51:9()())((7:request1:2)(3:dns1:2)))"
      ∷ "((1:11:1(11:DNSResolved1:51:9(3:dns1:2)))()((3:key1:2)))"
      ∷ [];
  lines =
      "(1:21:1(10:DNSResolve1:5(3:dns1:1)))"
      ∷ "(1:91:1(5:enc_a((7:HTTPReq(7:request1:1)3:GET1:51:7()((6:Cookie()))())(3:key1:1))(3:pub1:5)))"
      ∷ "()"
      ∷ "()"
      ∷ "(1:21:1(10:DNSResolve1:5(3:dns1:2)))"
      ∷ "(1:91:1(5:enc_a((7:HTTPReq(7:request1:2)3:GET1:51:9()((6:Cookie((1:21:1)(1:31:2))))())(3:key1:2))(3:pub1:5)))"
      ∷ [];
}

abbrev pub point : ℕ → Bool → Point
point n holds = record { number = n; holds = holds }

abbrev pub points : List Point
points =
    point 1 (is_atom (read (text "3:abc")) "abc")
    ∷ point 2 (eqb (refusal_of "03:abc" 100 0) 1)
    ∷ point 3 (eqb (refusal_of "" 100 0) 1)
    ∷ point 3 (eqb (refusal_of "()" 100 0) 2)
    ∷ point 4 (eqb (refusal_of "((1:11:17:TRIGGER)(6:reload(6:window1:0))((7:request1:1)(3:dns1:1)))" 100 0) 2)
    ∷ point 4 (eqb (refusal_of "((1:11:17:TRIGGER)(6:reload(6:window1:1))((7:request1:1)(3:dns1:1)))" 100 0) 3)
    ∷ point 5 (eqb (refusal_of "((1:11:1(8:HTTPResp(7:request1:1)3:505()1:0))()())" 100 0) 3)
    ∷ point 5 (eqb (refusal_of "((1:11:1(8:HTTPResp(7:request1:1)3:506()1:0))()())" 100 0) 2)
    ∷ point 6 (prints secure_cookie_after_sts)
    ∷ point 6 (prints secure_cookie_stays_home)
    ∷ point 7 (prints http_only_newcomer_dropped)
    ∷ point 8 (prints old_http_only_stays)
    ∷ point 9 (prints both_names_there)
    ∷ point 10 (eqb (set_from 31 parent_and_child) 3 && eqb (size_from 31 parent_and_child) 2)
    ∷ point 10 (eqb (set_from 30 parent_and_child) 3 && eqb (size_from 30 parent_and_child) 2)
    ∷ point 11 (eqb (set_from 30 opener_and_opened) 3 && eqb (size_from 30 opener_and_opened) 2)
    ∷ point 11 (eqb (set_from 40 opener_and_opened) 2 && eqb (size_from 40 opener_and_opened) 1)
    ∷ []

-- Refusal 7: 37 bytes are needed. They fit exactly from place 0 and from place 3 of 40; one byte less, a place one further, and a place past
-- the end are 7. A step without a message is never 7, wherever the place lies.
abbrev pub asking : String
asking = "((1:11:17:TRIGGER)(6:urlbar3:new1:P1:51:7()())((6:window2:30)(7:request2:31)(3:dns2:32)))"

abbrev pub room : List Bool
room =
    eqb (refusal_of asking 37 0) 0
    ∷ eqb (refusal_of asking 36 0) 7
    ∷ eqb (refusal_of asking 40 3) 0
    ∷ eqb (refusal_of asking 40 4) 7
    ∷ eqb (refusal_of asking 40 41) 7
    ∷ eqb (refusal_of "((1:11:112:CLOSECORRUPT)()())" 0 41) 0
    ∷ []

abbrev pub all_true : List Bool → Bool
all_true [] = true
all_true (b ∷ bs) = b && all_true bs
