-- Every kind of event over the small browser, with what 01 "Local steps, for demand 3" says of it: is it local, under which window it stands, its hosts, and
-- the numbers that it names. Demand 3 would say less if fewer kinds were local, or if a step had more hosts or names.
use Rattle.std.specs.Prelude.{Bool, true, false, List, [], ◌∷◌, map, ℕ}
use Rattle.std.specs.Prelude.{Option, None as none, Some as some}
use Rattle.tables.specs.Labels.{window, request, dns, key, Label}
use Rattle.wim.specs.Nouns.{WindowNumber, Host, Get, Unmatched, NewWindow, Existing, Itself, Within, Anyone, Nothing, Href, Iframe, Form, SetScript, SetScriptState, XmlHttpRequest, Back, Forward, Close, PostMessage, Nowhere, To, Number, Event, Urlbar, Reload, GoForward, GoBack, CloseCorrupt, EncryptedAnswer, PlainAnswer, DnsResolved}
use Rattle.wim.specs.LocalSteps.{is_local, stands, hosts, names}
use Rattle.wim.specs.Points.SmallBrowser.{plain, small_browser, script, answer}

pub record Placed : Type 0 where
  pub local : Bool
  pub under : ℕ  -- 0 for none
  pub hosts : List ℕ
  pub names : List Label

abbrev number_of : Option WindowNumber → ℕ
number_of none = 0
number_of (some w) = w.0

-- what the definitions say of an event
abbrev pub placed : Event → Placed
placed e = record { local = is_local e; under = number_of (stands e small_browser); hosts = map (λ (h : Host). h.0) (hosts e small_browser); names = names e }

abbrev row : Event → Bool → ℕ → List ℕ → List Label → Event × Placed
row e local under hs ns = (e, record { local = local; under = under; hosts = hs; names = ns })

abbrev own : WindowNumber
own = record { 0 = 1 }

abbrev another : WindowNumber
another = record { 0 = 5 }

abbrev gone : WindowNumber
gone = record { 0 = 9 }

abbrev resolved : ℕ → Event
resolved n = DnsResolved (record { host = record { 0 = 7 }; address = record { 0 = 9 }; number = record { 0 = n } })

abbrev plainly : ℕ → Event
plainly n = PlainAnswer (answer n 200 Nowhere (Number 0))

abbrev plainly_to7 : ℕ → ℕ → Event
plainly_to7 n status = PlainAnswer (answer n status (To (plain 7)) (Number 0))

abbrev sealed : ℕ → ℕ → Event
sealed k n = EncryptedAnswer (record { 0 = k }) (answer n 200 Nowhere (Number 0))

abbrev sealed_to7 : ℕ → ℕ → Event
sealed_to7 k n = EncryptedAnswer (record { 0 = k }) (answer n 303 (To (plain 7)) (Number 0))

abbrev pub local_steps : List (Event × Placed)
local_steps =
    -- scripts: in a window, in a frame, in one that isn't reached, in one that isn't there
    row (script 1 Nothing) true 1 (5 ∷ []) ((window, 1) ∷ [])
    ∷ row (script 3 Nothing) true 1 (6 ∷ []) ((window, 3) ∷ [])
    ∷ row (script 4 Nothing) true 1 (5 ∷ []) ((window, 4) ∷ [])
    ∷ row (script 9 Nothing) true 0 [] ((window, 9) ∷ [])
    -- each command, to a new window, to its own, to another
    ∷ row (script 1 (Href (plain 7) NewWindow false)) true 1 (5 ∷ 7 ∷ []) ((window, 1) ∷ [])
    ∷ row (script 1 (Href (plain 7) (Existing own) false)) true 1 (5 ∷ 7 ∷ []) ((window, 1) ∷ (window, 1) ∷ [])
    ∷ row (script 1 (Href (plain 7) (Existing another) false)) false 1 (5 ∷ 7 ∷ []) ((window, 1) ∷ (window, 5) ∷ [])
    ∷ row (script 1 (Iframe (plain 7) Itself)) true 1 (5 ∷ 7 ∷ []) ((window, 1) ∷ [])
    ∷ row (script 1 (Iframe (plain 7) (Within own))) true 1 (5 ∷ 7 ∷ []) ((window, 1) ∷ (window, 1) ∷ [])
    ∷ row (script 1 (Iframe (plain 7) (Within another))) false 1 (5 ∷ 7 ∷ []) ((window, 1) ∷ (window, 5) ∷ [])
    ∷ row (script 1 (Form (plain 7) Get (record { 0 = 0 }) NewWindow)) false 1 (5 ∷ 7 ∷ []) ((window, 1) ∷ [])
    ∷ row (script 1 (Form (plain 7) Get (record { 0 = 0 }) (Existing own))) true 1 (5 ∷ 7 ∷ []) ((window, 1) ∷ (window, 1) ∷ [])
    ∷ row (script 1 (Form (plain 7) Get (record { 0 = 0 }) (Existing another))) false 1 (5 ∷ 7 ∷ []) ((window, 1) ∷ (window, 5) ∷ [])
    ∷ row (script 1 (XmlHttpRequest (plain 7) Get (record { 0 = 0 }) Unmatched)) true 1 (5 ∷ 7 ∷ []) ((window, 1) ∷ [])
    ∷ row (script 1 (SetScript own (record { 0 = 0 }))) false 1 (5 ∷ []) ((window, 1) ∷ (window, 1) ∷ [])
    ∷ row (script 1 (SetScript another (record { 0 = 0 }))) false 1 (5 ∷ []) ((window, 1) ∷ (window, 5) ∷ [])
    ∷ row (script 1 (SetScriptState own (record { 0 = 0 }))) false 1 (5 ∷ []) ((window, 1) ∷ (window, 1) ∷ [])
    ∷ row (script 1 (SetScriptState another (record { 0 = 0 }))) false 1 (5 ∷ []) ((window, 1) ∷ (window, 5) ∷ [])
    ∷ row (script 1 (Back own)) false 1 (5 ∷ []) ((window, 1) ∷ (window, 1) ∷ [])
    ∷ row (script 1 (Back another)) false 1 (5 ∷ []) ((window, 1) ∷ (window, 5) ∷ [])
    ∷ row (script 1 (Forward own)) false 1 (5 ∷ []) ((window, 1) ∷ (window, 1) ∷ [])
    ∷ row (script 1 (Forward another)) false 1 (5 ∷ []) ((window, 1) ∷ (window, 5) ∷ [])
    ∷ row (script 1 (Close own)) false 1 (5 ∷ []) ((window, 1) ∷ (window, 1) ∷ [])
    ∷ row (script 1 (Close another)) false 1 (5 ∷ []) ((window, 1) ∷ (window, 5) ∷ [])
    ∷ row (script 1 (PostMessage own 0 Anyone)) false 1 (5 ∷ []) ((window, 1) ∷ (window, 1) ∷ [])
    ∷ row (script 1 (PostMessage another 0 Anyone)) false 1 (5 ∷ []) ((window, 1) ∷ (window, 5) ∷ [])
    -- the other triggers
    ∷ row (Urlbar NewWindow (plain 7)) false 0 (7 ∷ []) []
    ∷ row (Urlbar (Existing own) (plain 7)) true 1 (7 ∷ []) ((window, 1) ∷ [])
    ∷ row (Urlbar (Existing gone) (plain 7)) true 0 (7 ∷ []) ((window, 9) ∷ [])
    ∷ row (Reload own) true 1 (5 ∷ []) ((window, 1) ∷ [])
    ∷ row (Reload another) true 5 (5 ∷ []) ((window, 5) ∷ [])
    ∷ row (Reload (record { 0 = 3 })) true 1 (6 ∷ []) ((window, 3) ∷ [])
    ∷ row (Reload gone) true 0 [] ((window, 9) ∷ [])
    ∷ row (GoForward own) true 1 [] ((window, 1) ∷ [])
    ∷ row (GoForward another) true 5 [] ((window, 5) ∷ [])
    ∷ row (GoForward gone) true 0 [] ((window, 9) ∷ [])
    ∷ row (GoBack own) true 1 [] ((window, 1) ∷ [])
    ∷ row (GoBack another) true 5 [] ((window, 5) ∷ [])
    ∷ row (GoBack gone) true 0 [] ((window, 9) ∷ [])
    ∷ row CloseCorrupt false 0 [] []
    -- encrypted answers: to a window, to an XHR, to nothing that waits; each with a redirect
    ∷ row (sealed 1 12) true 5 (5 ∷ []) ((key, 1) ∷ (request, 12) ∷ [])
    ∷ row (sealed_to7 1 12) true 5 (5 ∷ 7 ∷ []) ((key, 1) ∷ (request, 12) ∷ [])
    ∷ row (sealed 2 13) true 5 (5 ∷ []) ((key, 2) ∷ (request, 13) ∷ [])
    ∷ row (sealed_to7 2 13) true 5 (5 ∷ []) ((key, 2) ∷ (request, 13) ∷ [])
    ∷ row (sealed 3 12) true 0 [] ((key, 3) ∷ (request, 12) ∷ [])
    ∷ row (sealed_to7 3 12) true 0 [] ((key, 3) ∷ (request, 12) ∷ [])
    -- plain ones: to a window, to a frame, to one that isn't reached, to one that is gone
    ∷ row (plainly 4) true 1 (6 ∷ []) ((request, 4) ∷ [])
    ∷ row (plainly_to7 4 303) true 1 (6 ∷ 7 ∷ []) ((request, 4) ∷ [])
    ∷ row (plainly_to7 4 307) true 1 (6 ∷ 7 ∷ []) ((request, 4) ∷ [])
    ∷ row (plainly_to7 4 302) true 1 (6 ∷ []) ((request, 4) ∷ [])
    ∷ row (plainly_to7 5 303) true 1 (6 ∷ 7 ∷ []) ((request, 5) ∷ [])
    ∷ row (plainly 6) true 1 (6 ∷ []) ((request, 6) ∷ [])
    ∷ row (plainly_to7 6 303) true 1 (6 ∷ []) ((request, 6) ∷ [])
    ∷ row (plainly 7) true 0 (8 ∷ []) ((request, 7) ∷ [])
    ∷ row (plainly_to7 7 303) true 0 (8 ∷ []) ((request, 7) ∷ [])
    -- to an XHR of a document that is active, inactive, unreached, gone; to a request that waits under a key, and to none
    ∷ row (plainly 8) true 1 (5 ∷ []) ((request, 8) ∷ [])
    ∷ row (plainly_to7 8 303) true 1 (5 ∷ []) ((request, 8) ∷ [])
    ∷ row (plainly 9) true 1 (5 ∷ []) ((request, 9) ∷ [])
    ∷ row (plainly 10) true 1 (5 ∷ []) ((request, 10) ∷ [])
    ∷ row (plainly 11) true 0 (5 ∷ []) ((request, 11) ∷ [])
    ∷ row (plainly 12) true 0 [] ((request, 12) ∷ [])
    ∷ row (plainly_to7 14 303) true 0 [] ((request, 14) ∷ [])
    -- DNS answers: for a window, for an XHR, for a window that is gone, for nothing that waits
    ∷ row (resolved 1) true 1 (7 ∷ []) ((dns, 1) ∷ [])
    ∷ row (resolved 2) true 1 (5 ∷ []) ((dns, 2) ∷ [])
    ∷ row (resolved 3) true 0 (8 ∷ []) ((dns, 3) ∷ [])
    ∷ row (resolved 9) true 0 [] ((dns, 9) ∷ [])
    ∷ []
