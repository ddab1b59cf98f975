-- A step: what the program says, then the refusals that are judged of every step alike (01 "Refusal numbers").
use Rattle.std.specs.Prelude.{Bool, true, false, cond, ◌&&◌, List, [], ◌∷◌, ℕ, leb, eqb, length}
use Rattle.std.specs.Prelude.{Option}
use Rattle.tables.specs.Tables.{Table, cap, Tables, no_rows}
use Rattle.tables.specs.Labels.{window, request, dns, key, document, Label, every, is_fresh}
use Rattle.shapes.specs.Events.{Message}
use Rattle.wim.specs.Nouns.{Fresh, Event, RunScript, Urlbar, Reload, GoForward, GoBack, CloseCorrupt, EncryptedAnswer, PlainAnswer, DnsResolved, Item, Missing, NoWindow, NoDocument, NoQuestion, NoRequest, Mismatch, Refusal, BadText, BadShape, Lacking, Stopped, NotFresh, Full, NoRoom, Closed}
use Rattle.wim.specs.Program.{Outcome, refused, made, run}
use Rattle.wim.specs.Main.{cookies_in, program}

-- The number of each refusal. Which thing is missing makes no difference.
abbrev pub missing_number : Missing → ℕ
missing_number NoWindow = 3
missing_number NoDocument = 3
missing_number NoQuestion = 3
missing_number NoRequest = 3
missing_number Mismatch = 3

abbrev pub refusal_number : Refusal → ℕ
refusal_number BadText = 1
refusal_number BadShape = 2
refusal_number (Lacking m) = missing_number m
refusal_number Stopped = 4
refusal_number NotFresh = 5
refusal_number Full = 6
refusal_number NoRoom = 7
refusal_number Closed = 8

pub data Verdict : Type 0 where
  Accepted : Verdict
  Refused : Refusal → Verdict

-- the number of a verdict: that of the refusal, and 0 where the step was accepted
abbrev pub verdict_number : Verdict → ℕ
verdict_number Accepted = 0
verdict_number (Refused why) = refusal_number why

-- A browser: nine tables, and open or closed (000 Definition 33: isCorrupted).
pub record Browser : Type 0 where
  pub tables : Tables
  pub closed : Bool

abbrev pub empty_browser : Browser
empty_browser = record { tables = no_rows; closed = false }

pub data Result : Type 0 where
  declined : Refusal → Result
  accepted : Browser → Option Message → Result

-- The fresh numbers of an item in 01's order; 0 stands for one that is not given.
abbrev pub numbers : Fresh → List Label
numbers f = (window, f.window.0) ∷ ((request, f.request.0) ∷ ((dns, f.dns.0) ∷ ((key, f.key.0) ∷ ((document, f.document.0) ∷ []))))

abbrev pub given : List Label → List Label
given [] = []
given (l ∷ ls) = cond (eqb l.1 0) (given ls) (l ∷ given ls)

abbrev pub fresh_labels : Fresh → List Label
fresh_labels f = given (numbers f)

-- 5: "or one stands anywhere in the tables under its label, references included", before the step
unfoldable pub all_fresh : Tables → List Label → Bool
all_fresh b [] = true
all_fresh b (l ∷ ls) = is_fresh b l && all_fresh b ls

-- 6: "the tables as they stand after the step would need more rows than they have"
abbrev pub fit : Tables → Table → Bool
fit b t = leb (length (b t)) (cap t)

unfoldable pub fits : Tables → Bool
fits b = every (fit b)

abbrev pub fitted : Outcome → Outcome
fitted (refused r) = refused r
fitted (made c m) = cond (fits c) (made c m) (refused Full)

-- 3, 4 and a label too few or too many by the program itself, then 5, then 6
abbrev pub admit : List Label → Tables → Outcome → Outcome
admit f b (refused r) = refused r
admit f b (made c m) = cond (all_fresh b f) (fitted (made c m)) (refused NotFresh)

-- A9:53: closed then, and only then
abbrev pub closes : Event → Bool
closes (RunScript w out) = false
closes (Urlbar target url) = false
closes (Reload w) = false
closes (GoForward w) = false
closes (GoBack w) = false
closes CloseCorrupt = true
closes (EncryptedAnswer k a) = false
closes (PlainAnswer a) = false
closes (DnsResolved a) = false

abbrev pub concluded : Bool → Outcome → Result
concluded shut (refused r) = declined r
concluded shut (made c m) = accepted (record { tables = c; closed = shut }) m

-- what an item does to the tables of an open browser
unfoldable pub step_tables : Item → Tables → Outcome
step_tables i b = admit (fresh_labels i.fresh) b (run (program i.event (cookies_in i.cookies)) b (fresh_labels i.fresh))

-- 8 stands before them all
unfoldable pub step : Item → Browser → Result
step i b = cond b.closed (declined Closed) (concluded (closes i.event) (step_tables i b.tables))
