-- A program is ranged if, wherever it is run on tables in range, it ends with tables and a message in range: the rules by which that is seen, one for each command
-- of a program.
use mathlib.Core.Path.{◌≡◌, refl, sym, subst}
use mathlib.Core.Logic.{inl, inr}
use mathlib.Core.Bool.{Bool, true, false, cond, ◌&&◌}
use mathlib.Core.List.{List, [], ◌∷◌, map}
use Rattle.std.specs.Prelude.{Option, None as none, Some as some}
use Prim.Native.Nat.{ℕ, zero, suc, ◌≤◌}
use lib.ListN.{length}
use Rattle.sorted.specs.Table.{find, In, put, drop, sift}
use Rattle.sorted.proofs.Never.{never}
use Rattle.sorted.proofs.Member.{in_keep, find_in}
use Rattle.sorted.proofs.Edits.{in_acts}
use Rattle.sorted.proofs.Revise.{in_map}
use Rattle.tables.specs.Tables.{Table, windows, documents, pending_dns, pending_requests, Row, key_of, cmp, cap, Tables, Edits, changed, update, apply}
use Rattle.tables.specs.Labels.{Kind, Label}
use Rattle.tables.specs.Rows.{origin_of}
use Rattle.tables.proofs.Update.{update-one}
use Rattle.shapes.specs.Events.{Message}
use Rattle.shapes.specs.Ranges.{NumberIn, MessageIn}
use Rattle.wim.specs.Nouns.{WindowNumber, Parent, Top, Under, Window, Document, Refusal, Missing}
use Rattle.wim.specs.Walks.{documents_of, active_document, window_numbered, document_numbered, steps, Above, missing, topmost, held_by, above_document, above_parent, above_row, above, reached_at, reached_from, has_origin, is_reached}
use Rattle.wim.specs.Navigable.{may_navigate}
use Rattle.wim.specs.Program.{Query, reached, top_level, active, history, navigated, of_origin, listening, arrived, under, strict, cookies_of, cookies_for, question, keyless, keyed, Observed, when, with_origin, listens, observed, Program, ask, edit, revise, bring, refuse, done, needs, stop_if, refuse_unless}
use Rattle.wim.specs.Ranges.{DocumentIn, QuestionIn, WaitingIn, RowIn}
use Rattle.wim.specs.Invariant.{InRange}
use Rattle.invariant.proofs.Rooted.Walk.{Ends}
use Rattle.shapes.proofs.Ranges.{WindowNumberIn}

-- what is there, if anything is, is such
abbrev pub Held : {A : Type 0} → (A → Type 0) → Option A → Type 0
Held P none = Unit {0}
Held P (some x) = P x

-- WHAT IS OBSERVED of tables in range. Nothing is asked of what only decides, or names what goes.
abbrev pub ObservedIn : (q : Query) → Observed q → Type 0
ObservedIn (reached w) top = WindowNumberIn w → Held WindowNumberIn top
ObservedIn (top_level w) x = Unit {0}
ObservedIn (active w) d = Held DocumentIn d
ObservedIn (history w) ds = Unit {0}
ObservedIn (navigated w d v) x = WindowNumberIn w → WindowNumberIn v → WindowNumberIn x
ObservedIn (of_origin d v) e = Held DocumentIn e
ObservedIn (listening n) d = Held DocumentIn d
ObservedIn (arrived n) x = Unit {0}
ObservedIn (under gone) x = Unit {0}
ObservedIn (strict h) x = Unit {0}
ObservedIn (cookies_of h) rs = Unit {0}
ObservedIn (cookies_for h p) rs = Unit {0}
ObservedIn (question n) q = Held QuestionIn q
ObservedIn (keyless n) w = Held WaitingIn w
ObservedIn (keyed k) w = Held WaitingIn w

found_in : {A : Type 0} (P : A → Type 0) (p : A → Bool) (l : List A) → ((x : A) → In x l → P x) → Held P (find p l)
found_in {A} P p l h = go (find p l) refl
  where
    go : (o : Option A) → find p l ≡ o → Held P o
    go none e = tt
    go (some x) e = h x (find_in p l x e).0

when_in : {A : Type 0} (P : A → Type 0) (c : Bool) (o : Option A) → Held P o → Held P (when c o)
when_in P true o h = h
when_in P false o h = tt

of_origin_in : (d : Document) (o : Option Document) → Held DocumentIn o → Held DocumentIn (with_origin d o)
of_origin_in d none h = tt
of_origin_in d (some e) h = when_in DocumentIn (has_origin (origin_of d) (some e)) (some e) h

listens_in : (ws : List Window) (ds : List Document) (o : Option Document) → Held DocumentIn o → Held DocumentIn (listens ws ds o)
listens_in ws ds none h = tt
listens_in ws ds (some d) h = when_in DocumentIn (d.active && is_reached ws ds d.window) (some d) h

module _ (b : Tables) (I : InRange b) where
  active_in : (w : WindowNumber) → Held DocumentIn (active_document (b documents) w)
  unfolding active_document documents_of
  active_in w = found_in DocumentIn _ (documents_of (b documents) w) (λ d i. I.rows documents d (in_keep _ (b documents) d i).0)

  abbrev AboveIn : Above → Type 0
  AboveIn missing = Unit {0}
  AboveIn topmost = Unit {0}
  AboveIn (held_by d) = DocumentIn d

  above_in : (w : WindowNumber) → AboveIn (above (b windows) (b documents) w)
  unfolding above document_numbered
  above_in w = row (window_numbered (b windows) w)
    where
      held : (o : Option Document) → Held DocumentIn o → AboveIn (above_document o)
      held none h = tt
      held (some d) h = h

      parent : (p : Parent) → AboveIn (above_parent (b documents) p)
      parent Top = tt
      parent (Under n) = held (document_numbered (b documents) n) (found_in DocumentIn _ (b documents) (I.rows documents))

      row : (o : Option Window) → AboveIn (above_row (b documents) o)
      row none = tt
      row (some r) = parent r.parent

  reached_in : (n : ℕ) (w : WindowNumber) → WindowNumberIn w → Held WindowNumberIn (reached_from n (b windows) (b documents) w)
  unfolding reached_from
  reached_in zero w i = tt
  reached_in (suc n) w i = go (above (b windows) (b documents) w) (above_in w) (reached_in n)
    where
      if_active : (c : Bool) (o : Option WindowNumber) → Held WindowNumberIn o → Held WindowNumberIn (cond c o none)
      if_active true o h = h
      if_active false o h = tt

      go : (x : Above) → AboveIn x → ((v : WindowNumber) → WindowNumberIn v → Held WindowNumberIn (reached_from n (b windows) (b documents) v))
          → Held WindowNumberIn (reached_at (reached_from n (b windows) (b documents)) w x)
      go missing h ih = tt
      go topmost h ih = i
      go (held_by d) h ih = if_active d.active _ (ih d.window h.window)

  pub observed_in : (q : Query) → ObservedIn q (observed q b)
  unfolding observed document_numbered
  observed_in (reached w) = reached_in steps w
  observed_in (top_level w) = tt
  observed_in (active w) = active_in w
  observed_in (history w) = tt
  observed_in (navigated w d v) = go (may_navigate (b windows) (b documents) (origin_of d) w v)
    where
      go : (c : Bool) → WindowNumberIn w → WindowNumberIn v → WindowNumberIn (cond c v w)
      go true i j = j
      go false i j = i
  observed_in (of_origin d v) = when_in DocumentIn (is_reached (b windows) (b documents) v) _ (of_origin_in d (active_document (b documents) v) (active_in v))
  observed_in (listening n) = listens_in (b windows) (b documents) (document_numbered (b documents) n) (found_in DocumentIn _ (b documents) (I.rows documents))
  observed_in (arrived n) = tt
  observed_in (under gone) = tt
  observed_in (strict h) = tt
  observed_in (cookies_of h) = tt
  observed_in (cookies_for h p) = tt
  observed_in (question n) = found_in QuestionIn _ (b pending_dns) (I.rows pending_dns)
  observed_in (keyless n) = found_in WaitingIn _ (b pending_requests) (I.rows pending_requests)
  observed_in (keyed k) = found_in WaitingIn _ (b pending_requests) (I.rows pending_requests)

-- WHAT IS PUT is in range.
abbrev pub PutsIn : (t : Table) → Edits t → Type 0
PutsIn t [] = Unit {0}
PutsIn t (put r ∷ es) = RowIn t r × PutsIn t es
PutsIn t (drop k ∷ es) = PutsIn t es
PutsIn t (sift p ∷ es) = PutsIn t es

puts_in : (t : Table) (es : Edits t) → PutsIn t es → (r : Row t) → In (put r) es → RowIn t r
puts_in t [] h r x'' = elim x'' [ ]
puts_in t (put x ∷ es) h r (inl e) = let z : r ≡ x = cc in subst (RowIn t) (sym z) h.0
puts_in t (put x ∷ es) h r (inr i) = puts_in t es h.1 r i
puts_in t (drop k ∷ es) h r (inl e) = never (cc)
puts_in t (drop k ∷ es) h r (inr i) = puts_in t es h r i
puts_in t (sift p ∷ es) h r (inl e) = never (cc)
puts_in t (sift p ∷ es) h r (inr i) = puts_in t es h r i

pub edited_in : (t : Table) (es : Edits t) (b : Tables) → PutsIn t es → InRange b → InRange (apply t es b)
edited_in t es b h I = record {
  rows = update-one (λ u l. (r : Row u) → In r l → RowIn u r) t (changed t es) b I.rows (λ r i. elim (in_acts (key_of t) (cmp t) es (b t) r i) [ inl j ↦ puts_in t es h r j | inr j ↦ I.rows t r j ]);
}

revised_in : (t : Table) (g : Row t → Row t) (b : Tables) → ((r : Row t) → RowIn t r → RowIn t (g r)) → InRange b → InRange (update t (map g) b)
revised_in t g b h I = record {
  rows = update-one (λ u l. (r : Row u) → In r l → RowIn u r) t (map g) b I.rows (λ r i. let z = in_map g (b t) r i in subst (RowIn t) (sym z.2) (h z.0 (I.rows t z.0 z.1)));
}

-- AT THE END: where the tables are no larger than they may be, they are in range, and what goes out is.
abbrev pub After : Tables → Option Message → Type 0
After b m = ((t : Table) → length (b t) ≤ cap t) → InRange b × Held MessageIn m

abbrev pub Brought : Label → Type 0
Brought l = NumberIn l.1

pub record Ranged (p : Program) : Type 0 where
  pub ends : (b : Tables) → InRange b → Ends After Brought p b

-- COMMANDS.
pub ranged_done : (m : Option Message) → Held MessageIn m → Ranged (done m)
ranged_done m i = record { ends = λ b I s. (I, i) }

pub ranged_refuse : (r : Refusal) → Ranged (refuse r)
ranged_refuse r = record { ends = λ b I. tt }

pub ranged_ask : (q : Query) (k : Observed q → Program) → ((x : Observed q) → ObservedIn q x → Ranged (k x)) → Ranged (ask q k)
ranged_ask q k g = record { ends = λ b I. (g (observed q b) (observed_in b I q)).ends b I }

pub ranged_bring : (κ : Kind) (k : ℕ → Program) → ((n : ℕ) → NumberIn n → Ranged (k n)) → Ranged (bring κ k)
ranged_bring κ k g = record { ends = λ b I n i. (g n i).ends b I }

pub ranged_edit : (t : Table) (es : Edits t) (p : Program) → PutsIn t es → Ranged p → Ranged (edit t es p)
ranged_edit t es p h g = record { ends = λ b I. g.ends (apply t es b) (edited_in t es b h I) }

pub ranged_revise : (t : Table) (f : Row t → Row t) (p : Program) → ((r : Row t) → RowIn t r → RowIn t (f r)) → Ranged p → Ranged (revise t f p)
ranged_revise t f p h g = record { ends = λ b I. g.ends (update t (map f) b) (revised_in t f b h I) }

-- WHERE A PROGRAM MAY STOP.
pub ranged_needs : {A : Type 0} (P : A → Type 0) (m : Missing) (o : Option A) (k : A → Program) → Held P o → ((x : A) → P x → Ranged (k x)) → Ranged (needs m o k)
ranged_needs P m none k h g = ranged_refuse _
ranged_needs P m (some x) k h g = g x h

pub ranged_stop : (c : Bool) (p : Program) → Ranged p → Ranged (stop_if c p)
ranged_stop true p g = ranged_refuse _
ranged_stop false p g = g

pub ranged_unless : (c : Bool) (m : Missing) (p : Program) → Ranged p → Ranged (refuse_unless c m p)
ranged_unless true m p g = g
ranged_unless false m p g = ranged_refuse _
