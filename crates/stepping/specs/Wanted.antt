-- The labels that a step wants, and whether just those are given (01: "exactly those that the step uses").
use Rattle.std.specs.Prelude.{◌≡◌, Bool, true, false, cond, not, ◌&&◌, List, [], ◌∷◌, ℕ, eqb}
use Rattle.types.specs.declared.Fresh.{Fresh}
use Rattle.types.specs.declared.Wants.{Wants}
use Rattle.tables.specs.Tables.{Tables}
use Rattle.tables.specs.Labels.{Kind, Label, is_fresh}
use Rattle.wim.specs.Step.{numbers, fresh_labels, all_fresh}

-- which of the five are wanted, in 01's order
abbrev pub flags : Wants → List Bool
flags w = w.window ∷ (w.request ∷ (w.dns ∷ (w.key ∷ (w.document ∷ []))))

-- of some labels those that are wanted, and their kinds
abbrev pub chosen : List Bool → List Label → List Label
chosen [] ls = []
chosen (x ∷ xs) [] = []
chosen (x ∷ xs) (l ∷ ls) = cond x (l ∷ chosen xs ls) (chosen xs ls)

abbrev pub kinds : List Label → List Kind
kinds [] = []
kinds (l ∷ ls) = l.0 ∷ kinds ls

abbrev pub picked : Wants → Fresh → List Label
picked w f = chosen (flags w) (numbers f)

-- a number is given just where it is wanted; 0 is none
abbrev pub agrees : Bool → ℕ → Bool
agrees x n = cond (eqb n 0) (not x) x

abbrev pub exactly : List Bool → List Label → Bool
exactly [] [] = true
exactly [] (l ∷ ls) = false
exactly (x ∷ xs) [] = false
exactly (x ∷ xs) (l ∷ ls) = agrees x l.1 && exactly xs ls

-- the step may go on: no refusal 5
abbrev pub ready : Wants → Fresh → Tables → Bool
ready w f b = exactly (flags w) (numbers f) && all_fresh b (fresh_labels f)

-- the numbers that are given stand nowhere
abbrev pub spare : Tables → Label → Bool
spare b l = cond (eqb l.1 0) true (is_fresh b l)

abbrev pub all_spare : Tables → List Label → Bool
all_spare b [] = true
all_spare b (l ∷ ls) = spare b l && all_spare b ls

-- A step that brings no number, whatever the tables are; one that sends; one that opens a window and sends; one that loads a document.
abbrev pub wants_nothing : Wants
wants_nothing = record { window = false; request = false; dns = false; key = false; document = false }

abbrev pub wants_send : Wants
wants_send = record { window = false; request = true; dns = true; key = false; document = false }

abbrev pub wants_open : Wants
wants_open = record { window = true; request = true; dns = true; key = false; document = false }

abbrev pub wants_key : Wants
wants_key = record { window = false; request = false; dns = false; key = true; document = false }

abbrev pub wants_document : Wants
wants_document = record { window = false; request = false; dns = false; key = false; document = true }

pub record Unwanted (f : Fresh) (r : Bool) : Type 0 where
  pub is : (b : Tables) → r ≡ ready wants_nothing f b
