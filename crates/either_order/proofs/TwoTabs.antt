-- The example computed: both orders print the lines and leave the rows that are written out, and the theorem speaks of both pairs.
use mathlib.Core.Path.{◌≡◌, refl, sym, subst}
use mathlib.Core.Logic.{inl, inr}
use mathlib.Core.Bool.{Bool, true, false, ◌||◌}
use mathlib.Core.List.{List, [], ◌∷◌, map}
use Rattle.std.specs.Prelude.{Option, None as none, Some as some}
use Prim.Native.Nat.{ℕ, ◌+◌}
use Prim.Native.String.{String}
use borrow.Author.Tests.{leb-true}
use lib.Dec.{leb}
use lib.ListN.{length}
use Rattle.csexp.specs.Text.{text}
use Rattle.csexp.specs.Answers
use Rattle.csexp.specs.At
use Rattle.csexp.specs.Decode
use Rattle.csexp.specs.Limits
use Rattle.csexp.specs.Read
use Rattle.csexp.specs.Term
use Rattle.csexp.specs.Encode
use Rattle.csexp.specs.Puts
use Rattle.sorted.specs.Table
use Rattle.tables.specs.Labels
use Rattle.tables.specs.Rows
use Rattle.shapes.specs.Events
use Rattle.shapes.specs.Items
use Rattle.shapes.specs.Texts
use Rattle.wim.specs.Cookies
use Rattle.wim.specs.History
use Rattle.wim.specs.LocalSteps
use Rattle.wim.specs.Main
use Rattle.wim.specs.Navigable
use Rattle.wim.specs.Program
use Rattle.wim.specs.Response
use Rattle.wim.specs.Run
use Rattle.wim.specs.Script
use Rattle.wim.specs.Sending
use Rattle.wim.specs.Step
use Rattle.wim.specs.Walks
use Rattle.wim.specs.Wire
use Rattle.sorted.specs.Table.{In}
use Rattle.sorted.proofs.Revise.{map_in}
use Rattle.tables.specs.Tables.{Table, cap}
use Rattle.tables.specs.Labels.{window, host, Label, among, every}
use Rattle.tables.proofs.Update.{every_one}
use Rattle.shapes.specs.Texts.{Taken, unread, item, item_in}
use Rattle.wim.specs.Nouns.{WindowNumber, Host, Item}
use Rattle.wim.specs.Step.{Accepted}
use Rattle.wim.specs.Step.{fresh_labels, Browser, empty_browser, Result, declined, accepted, step}
use Rattle.wim.specs.LocalSteps.{is_local, stands, hosts, names}
use Rattle.wim.specs.Wire.{rehearse}
use Rattle.wim.specs.Run.{performed, after}
use Rattle.wim.specs.Points.Compared.{prints}
use Rattle.wim.specs.Points.Paper.{zeros, leaves, leaves_all}
use Rattle.invariant.proofs.Numbered.Fresh.{in_among}
use Rattle.invariant.proofs.Rooted.Tests.{or_neither, not-both}
use Rattle.either_order.specs.Statement.{Made, empty, next, Apart}
use Rattle.either_order.specs.TwoTabs.{set_up, set_up_lines, here, following, loading, redirecting, follow, load, redirect, documents_shown, questions_shown, in_the_end, follows_first, loads_first, redirects_first, redirects_last}
use Rattle.either_order.proofs.OnTexts.{either_order_on_texts}

-- LABELS IN COMMON.
abbrev meet : List Label → List Label → Bool
meet [] ns = false
meet (m ∷ ms) ns = among m ns || meet ms ns

never_both : (ms ns : List Label) → meet ms ns ≡ false → (l : Label) → In l ms → In l ns → ⊥
never_both [] ns e l x3 j = elim x3 [ ]
never_both (m ∷ ms) ns e l (inl p) j = not-both (in_among m ns (subst (λ (v : Label). In v ns) p j)) (or_neither (among m ns) (meet ms ns) e).0
never_both (m ∷ ms) ns e l (inr i) j = never_both ms ns (or_neither (among m ns) (meet ms ns) e).1 l i j

abbrev top_label : Option WindowNumber → List Label
top_label none = []
top_label (some t) = (window, t.0) ∷ []

abbrev host_labels : List Host → List Label
host_labels hs = map (λ (h : Host). (host, h.0)) hs

-- WHAT IS COMPUTED of one item: what it is read as, its hosts, where it stands, that it is accepted.
record Alone (s : String) (i : Item) (out : List ℕ) (top : Option WindowNumber) (hs : List Host) : Type 0 where
  is_read : item_in (text s) ≡ item i
  is-local : is_local i.event ≡ true
  has-hosts : hosts i.event here.tables ≡ hs
  stands-under : stands i.event here.tables ≡ top
  is-accepted : (rehearse (text s) here out 0).verdict ≡ Accepted

-- and of two: that nothing is in common
record Beside (i j : Item) : Type 0 where
  tops : meet (top_label (stands i.event here.tables)) (top_label (stands j.event here.tables)) ≡ false
  no-host : meet (host_labels (hosts i.event here.tables)) (host_labels (hosts j.event here.tables)) ≡ false
  new-new : meet (fresh_labels i.fresh) (fresh_labels j.fresh) ≡ false
  new-named : meet (fresh_labels i.fresh) (names j.event) ≡ false
  named_new : meet (names i.event) (fresh_labels j.fresh) ≡ false

pub record Computed : Type 0 where
  eight_free : every (λ t. leb (length (here.tables t) + 8) (cap t)) ≡ true
  following-alone : Alone following follow (zeros 100) (some (record { 0 = 30 })) (record { 0 = 5 } ∷ (record { 0 = 7 } ∷ []))
  loading-alone : Alone loading load [] (some (record { 0 = 40 })) (record { 0 = 6 } ∷ [])
  -- the redirect stands under none, and the Location's host is none of its hosts
  redirecting-alone : Alone redirecting redirect [] none (record { 0 = 8 } ∷ [])
  following-beside : Beside follow load
  redirecting-beside : Beside redirect load
  -- both orders print the lines that are written out
  pub lines : (prints follows_first ≡ true) × (prints loads_first ≡ true) × (prints redirects_first ≡ true) × (prints redirects_last ≡ true)
  pub rows : (documents_shown (leaves_all (following ∷ (loading ∷ [])) here).tables ≡ in_the_end) × (documents_shown (leaves_all (loading ∷ (following ∷ [])) here).tables ≡ in_the_end)
  -- the question that waits is cancelled
  pub questions : (questions_shown here.tables ≡ 32 ∷ []) × (questions_shown (leaves_all (following ∷ (loading ∷ [])) here).tables ≡ 31 ∷ []) × (questions_shown (leaves_all (loading ∷ (following ∷ [])) here).tables ≡ 31 ∷ [])

pub computed : Computed
unfolding Answers.digit_at Answers.value_at Answers.fields_at At.term_at At.terms_at At.string_at At.number_at At.mark_at Decode.inside Decode.one Decode.end Decode.up_to Decode.perhaps Decode.atom_of Decode.either Decode.maps Decode.same Decode.word Decode.means Decode.numeral Decode.optionally Decode.optional_of Decode.labelled_of Limits.shallow Limits.shallows Limits.ending_of Limits.whole_of Read.run Read.number Read.mark Read.bytes Read.string Read.read Read.reads Read.term Read.terms Term.digits Term.decimal Term.write Term.writes Term.levels Term.levels_in Encode.number_term Encode.optional_term Encode.each Encode.labelled Encode.joins Puts.put Table.find Table.keep Table.insert Table.lower Table.has Labels.clean Labels.is_fresh Events.event_of Items.unless Items.more_headers Texts.item_in Rows.jar Cookies.cookie_merge Cookies.add_cookies History.moved History.nav_back History.nav_forward LocalSteps.is_local LocalSteps.home LocalSteps.top_of LocalSteps.stands LocalSteps.hosts LocalSteps.names Main.urlbar Main.reload Main.forward Main.back Main.close_corrupt Main.encrypted_answer Main.plain_answer Main.go_out Main.resolved Main.program Navigable.ancestor_has Navigable.navigable_directly Navigable.follows Navigable.navigable_mask Navigable.navigable_size Program.observed Program.run Response.window_course Response.script_course Response.course_of Response.takes Response.process_response Run.play_from Run.play Script.href Script.iframe Script.form Script.setting Script.xhr Script.close Script.deliver Script.post_message Script.command Script.run_script Sending.send Step.all_fresh Step.fits Step.step_tables Step.step Walks.documents_of Walks.active_document Walks.window_numbered Walks.document_numbered Walks.above Walks.top_above Walks.reached_from Walks.is_under Walks.removal Wire.rehearse set_up set_up_lines here following loading redirecting follow load redirect in_the_end
computed = record {
  eight_free = refl;
  following-alone = record { is_read = refl; is-local = refl; has-hosts = refl; stands-under = refl; is-accepted = refl };
  loading-alone = record { is_read = refl; is-local = refl; has-hosts = refl; stands-under = refl; is-accepted = refl };
  redirecting-alone = record { is_read = refl; is-local = refl; has-hosts = refl; stands-under = refl; is-accepted = refl };
  following-beside = record { tops = refl; no-host = refl; new-new = refl; new-named = refl; named_new = refl };
  redirecting-beside = record { tops = refl; no-host = refl; new-new = refl; new-named = refl; named_new = refl };
  lines = (refl, refl, refl, refl);
  rows = (refl, refl);
  questions = (refl, refl, refl);
}

-- accepted steps have made the browser
made-leaves : (s : String) (b : Browser) → Made b → Made (leaves s b)
made-leaves s b R = go (item_in (text s))
  where
    stepped : (i : Item) (o : Result) → step i b ≡ o → Made (after b o)
    stepped i (declined r) e = R
    stepped i (accepted c m) e = next i m R e

    go : (t : Taken) → Made (after b (performed t b))
    go (unread r) = R
    go (item i) = stepped i (step i b) refl

made_all : (ss : List String) (b : Browser) → Made b → Made (leaves_all ss b)
made_all [] b R = R
made_all (s ∷ ss) b R = made_all ss (leaves s b) (made-leaves s b R)

made-here : Made here
unfolding here
made-here = made_all set_up empty_browser empty

-- THE PREMISES ARE MET.
apart : (i j : Item) → Beside i j → Apart i j here.tables
apart i j B = record {
  tops = λ t p q. never_both (top_label (stands i.event here.tables)) (top_label (stands j.event here.tables)) B.tops (window, t.0) (under t (stands i.event here.tables) p) (under t (stands j.event here.tables) q);
  no-host = λ h p q. never_both (host_labels (hosts i.event here.tables)) (host_labels (hosts j.event here.tables)) B.no-host (host, h.0) (labelled h (hosts i.event here.tables) p) (labelled h (hosts j.event here.tables) q);
  new-new = λ l. never_both (fresh_labels i.fresh) (fresh_labels j.fresh) B.new-new l;
  new-named = λ l. never_both (fresh_labels i.fresh) (names j.event) B.new-named l;
  named_new = λ l. never_both (names i.event) (fresh_labels j.fresh) B.named_new l;
}
  where
    under : (t : WindowNumber) (o : Option WindowNumber) → o ≡ some t → In (window, t.0) (top_label o)
    under t o e = subst (λ (x : Option WindowNumber). In (window, t.0) (top_label x)) (sym e) (inl refl)

    labelled : (h : Host) (hs : List Host) → In h hs → In (host, h.0) (host_labels hs)
    labelled h hs k = map_in (λ (x : Host). (host, x.0)) hs h k

-- so the theorem speaks of them: the browsers are the same, to the last row
abbrev Same : String → String → List ℕ → List ℕ → Type 0
Same s u out lent = (rehearse (text u) (rehearse (text s) here out 0).browser lent 0).browser ≡ (rehearse (text s) (rehearse (text u) here lent 0).browser out 0).browser

same : (s u : String) (i j : Item) (out lent : List ℕ) {ti tj : Option WindowNumber} {hi hj : List Host} → Alone s i out ti hi → Alone u j lent tj hj → Beside i j → Same s u out lent
same s u i j out lent I J B =
    (either_order_on_texts here made-here (λ t. leb-true (length (here.tables t) + 8) (cap t) (every_one (λ u. leb (length (here.tables u) + 8) (cap u)) computed.eight_free t))
    (text s) (text u) i j I.is_read J.is_read I.is-local J.is-local (apart i j B) out lent 0 0 I.is-accepted J.is-accepted).2

pub same-browser : Same following loading (zeros 100) [] × Same redirecting loading [] []
same-browser = (
  same following loading follow load (zeros 100) [] computed.following-alone computed.loading-alone computed.following-beside,
  same redirecting loading redirect load [] [] computed.redirecting-alone computed.loading-alone computed.redirecting-beside,
)
