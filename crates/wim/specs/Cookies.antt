-- Cookies: which a script may set, which an answer may set (000 Definitions 36 and 37; RFC 6265 where it is silent).
use Rattle.std.specs.Prelude.{Bool, false, cond, not, ◌&&◌, ◌||◌, List, [], ◌∷◌, map}
use Rattle.sorted.specs.Table.{keep, put}
use Rattle.tables.specs.Tables.{is_secure, cookies, Edits}
use Rattle.tables.specs.Rows.{same_name}
use Rattle.wim.specs.Nouns.{Host, Protocol, CookieName, Cookie, HostCookie}

-- "(c.name.1 ≡ __Host) ∧ ((protocol ≡ P) ∨ (c.secure ≡ ⊥))": no such cookie is ever taken
abbrev pub bad_prefix : Protocol → Cookie → Bool
bad_prefix p c = c.name.prefixed && (not (is_secure p) || not c.secure)

-- Definition 36, CookieMerge: which of a script's cookies are stored. An old cookie stays unless one of these has its name.
-- "From newcookies remove all cookies c that have c.content.httpOnly ≡ ⊤ or where" the prefix is bad.
abbrev pub allowed : Protocol → Cookie → Bool
allowed p c = not (c.httponly || bad_prefix p c)

abbrev pub named : CookieName → List Cookie → Bool
named n [] = false
named n (c ∷ cs) = same_name c.name n || named n cs

-- "For any c, c' with c.name ≡ c'.name, remove the cookie that appears left of the other"
abbrev pub latest : List Cookie → List Cookie
latest [] = []
latest (c ∷ cs) = cond (named c.name cs) (latest cs) (c ∷ latest cs)

-- "add c_new to m if c_old.content.httpOnly ≡ ⊥ and add c_old to m otherwise"
abbrev pub guarded : List HostCookie → Cookie → Bool
guarded [] c = false
guarded (r ∷ old) c = (same_name r.cookie.name c.name && r.cookie.httponly) || guarded old c

unfoldable pub cookie_merge : List HostCookie → List Cookie → Protocol → List Cookie
cookie_merge old new p = keep (λ (c : Cookie). not (guarded old c)) (latest (keep (allowed p) new))

abbrev pub row_for : Host → Cookie → HostCookie
row_for h c = record { host = h; cookie = c }

abbrev pub store_all : Host → List Cookie → Edits cookies
store_all h cs = map (λ (c : Cookie). put (row_for h c)) cs

-- Definition 37, AddCookie, for each cookie of an answer in its order: "remove any c' that has c.name ≡ c'.name. Append c", unless its prefix is bad.
unfoldable pub add_cookies : Host → List Cookie → Protocol → Edits cookies
add_cookies h cs p = store_all h (keep (λ (c : Cookie). not (bad_prefix p c)) cs)
