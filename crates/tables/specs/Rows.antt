-- Rows and what stands in them compared, chosen and changed one by one: the tests and changes that the algorithms make.
use Rattle.std.specs.Prelude.{Bool, true, false, cond, not, ◌&&◌, ◌||◌, List, [], ◌∷◌, ℕ, eqb, length}
use Rattle.sorted.specs.Order.{cmp_bool, same}
use Rattle.sorted.specs.Table.{fill}
use Rattle.tables.specs.Nouns.{WindowNumber, DocumentNumber, KeyNumber, Host, Protocol, Plain, Secure, Absent, Url, Origin, CookieName, Cookie, Pair, Jar, Get, Unsent, Unknown, Request, Matching, Unmatched, By, Reference, Req, Xhr, Seal, Keyless, Keyed, Script, ScriptState, Document, HostCookie}
use Rattle.tables.specs.Tables.{is_secure}

-- NUMBERS under their labels.
abbrev pub same_window : WindowNumber → WindowNumber → Bool
same_window v w = eqb v.0 w.0

abbrev pub same_document : DocumentNumber → DocumentNumber → Bool
same_document d e = eqb d.0 e.0

-- one of some numbers
abbrev pub one_of : DocumentNumber → List DocumentNumber → Bool
one_of n [] = false
one_of n (m ∷ ms) = same_document n m || one_of n ms

abbrev pub window_one_of : WindowNumber → List WindowNumber → Bool
window_one_of v [] = false
window_one_of v (w ∷ ws) = same_window v w || window_one_of v ws

-- ORIGINS.
-- d.origin (Definition 30), and origins compared
abbrev pub origin_of : Document → Origin
origin_of d = record { host = d.location.host; protocol = d.location.protocol }

abbrev pub same_protocol : Protocol → Protocol → Bool
same_protocol Plain Plain = true
same_protocol Plain Secure = false
same_protocol Secure Plain = false
same_protocol Secure Secure = true

abbrev pub same_origin : Origin → Origin → Bool
same_origin o p = eqb o.host.0 p.host.0 && same_protocol o.protocol p.protocol

-- COOKIES.
abbrev pub same_host : Host → Host → Bool
same_host g h = eqb g.0 h.0

abbrev pub same_name : CookieName → CookieName → Bool
same_name m n = same (cmp_bool m.prefixed n.prefixed) && eqb m.number n.number

-- A4:4, "c.content.secure ⟹ url.protocol ≡ S"
abbrev pub goes_over : Protocol → Cookie → Bool
goes_over p c = not c.secure || is_secure p

-- what a request carries of a cookie
abbrev pub pair_of : HostCookie → Pair
pair_of r = record { name = r.cookie.name; value = r.cookie.value }

abbrev pub blank_pair : Pair
blank_pair = record { name = record { prefixed = false; number = 0 }; value = record { 0 = 0 } }

-- the Cookie header with these pairs, blank behind them
unfoldable pub jar : List Pair → Jar
jar ps = record { rows = fill blank_pair 64 ps; count = length ps }

-- an address and a request with nothing in them
abbrev pub blank_url : Url
blank_url = record { protocol = Plain; host = record { 0 = 0 }; path = record { 0 = 0 }; parameters = record { 0 = 0 }; fragment = Absent }

abbrev pub blank_request : Request
blank_request = record {
  number = record { 0 = 0 };
  method = Get;
  host = record { 0 = 0 };
  path = record { 0 = 0 };
  parameters = record { 0 = 0 };
  cookies = jar [];
  origin = Unsent;
  referrer = Unknown;
  body = record { 0 = 0 };
}

-- REFERENCES AND KEYS of waiting requests.
abbrev pub same_matching : Matching → Matching → Bool
same_matching Unmatched Unmatched = true
same_matching Unmatched (By n) = false
same_matching (By m) Unmatched = false
same_matching (By m) (By n) = eqb m n

abbrev pub same_reference : Reference → Reference → Bool
same_reference (Req v) (Req w) = same_window v w
same_reference (Req v) (Xhr e n) = false
same_reference (Xhr d m) (Req w) = false
same_reference (Xhr d m) (Xhr e n) = same_document d e && same_matching m n

abbrev pub has_key : KeyNumber → Seal → Bool
has_key k Keyless = false
has_key k (Keyed l) = eqb k.0 l.0

abbrev pub has_no_key : Seal → Bool
has_no_key Keyless = true
has_no_key (Keyed l) = false

-- DOCUMENTS changed.
abbrev pub with_active : Bool → Document → Document
with_active a d = record { window = d.window; place = d.place; number = d.number; location = d.location; policy = d.policy; referrer = d.referrer; script = d.script; state = d.state; active = a }

abbrev pub with_state : ScriptState → Document → Document
with_state s d = record { window = d.window; place = d.place; number = d.number; location = d.location; policy = d.policy; referrer = d.referrer; script = d.script; state = s; active = d.active }

abbrev pub with_script : Script → Document → Document
with_script s d = record { window = d.window; place = d.place; number = d.number; location = d.location; policy = d.policy; referrer = d.referrer; script = s; state = d.state; active = d.active }

-- the document with this number is changed, the others stay
abbrev pub changing : DocumentNumber → (Document → Document) → Document → Document
changing n f d = cond (same_document d.number n) (f d) d

-- of a window's history the document at one place is set active or not
abbrev pub setting_active : WindowNumber → ℕ → Bool → Document → Document
setting_active w place a d = cond (same_window d.window w && eqb d.place place) (with_active a d) d
