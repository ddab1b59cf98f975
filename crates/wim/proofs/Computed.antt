-- What the definitions compute: 01's points under one statement, its run, refusal 7, a dozen runs, the guards, and the table of local steps.
use mathlib.Core.Path.{◌≡◌, refl}
use mathlib.Core.Bool.{true}
use mathlib.Core.List.{map}
use Rattle.csexp.specs.Answers
use Rattle.csexp.specs.At
use Rattle.csexp.specs.Decode
use Rattle.csexp.specs.Limits
use Rattle.csexp.specs.Read
use Rattle.csexp.specs.Term
use Rattle.csexp.specs.Encode
use Rattle.csexp.specs.Puts
use Rattle.sorted.specs.Table
use Rattle.tables.specs.Labels
use Rattle.tables.specs.Rows
use Rattle.shapes.specs.Events
use Rattle.shapes.specs.Items
use Rattle.shapes.specs.Texts
use Rattle.wim.specs.Cookies
use Rattle.wim.specs.History
use Rattle.wim.specs.LocalSteps
use Rattle.wim.specs.Main
use Rattle.wim.specs.Navigable
use Rattle.wim.specs.Program
use Rattle.wim.specs.Response
use Rattle.wim.specs.Run
use Rattle.wim.specs.Script
use Rattle.wim.specs.Sending
use Rattle.wim.specs.Shown
use Rattle.wim.specs.Step
use Rattle.wim.specs.Walks
use Rattle.wim.specs.Wire
use Rattle.wim.specs.Points.Compared.{prints, all_print}
use Rattle.wim.specs.Points.Paper.{example, points, all_hold, room, all_true}
use Rattle.wim.specs.Points.Runs.{runs}
use Rattle.wim.specs.Points.Guards.{Guards}
use Rattle.wim.specs.Points.Local.{placed, local_steps}

pub record Computed : Type 0 where
  pub points_hold : all_hold points ≡ true
  pub example-prints : prints example ≡ true
  pub seven_for_want_of_room : all_true room ≡ true
  pub runs_print : all_print runs ≡ true
  pub guards : Guards
  pub local-steps : map (λ r. placed r.0) local_steps ≡ map (λ r. r.1) local_steps

pub computed : Computed
unfolding Answers.digit_at Answers.value_at Answers.fields_at At.term_at At.terms_at At.string_at At.number_at At.mark_at Decode.inside Decode.one Decode.end Decode.up_to Decode.perhaps Decode.atom_of Decode.either Decode.maps Decode.same Decode.word Decode.means Decode.numeral Decode.optionally Decode.optional_of Decode.labelled_of Limits.shallow Limits.shallows Limits.ending_of Limits.whole_of Read.run Read.number Read.mark Read.bytes Read.string Read.read Read.reads Read.term Read.terms Term.digits Term.decimal Term.write Term.writes Term.levels Term.levels_in Encode.number_term Encode.optional_term Encode.each Encode.labelled Encode.joins Puts.put Table.find Table.keep Table.insert Table.lower Table.has Labels.clean Labels.is_fresh Events.event_of Items.unless Items.more_headers Texts.item_in Rows.jar Cookies.cookie_merge Cookies.add_cookies History.moved History.nav_back History.nav_forward LocalSteps.is_local LocalSteps.home LocalSteps.top_of LocalSteps.stands LocalSteps.hosts LocalSteps.names Main.urlbar Main.reload Main.forward Main.back Main.close_corrupt Main.encrypted_answer Main.plain_answer Main.go_out Main.resolved Main.program Navigable.ancestor_has Navigable.navigable_directly Navigable.follows Navigable.navigable_mask Navigable.navigable_size Program.observed Program.run Response.window_course Response.script_course Response.course_of Response.takes Response.process_response Run.play_from Run.play Script.href Script.iframe Script.form Script.setting Script.xhr Script.close Script.deliver Script.post_message Script.command Script.run_script Sending.send Step.all_fresh Step.fits Step.step_tables Step.step Walks.documents_of Walks.active_document Walks.window_numbered Walks.document_numbered Walks.above Walks.top_above Walks.reached_from Walks.is_under Walks.removal Wire.rehearse Shown.tree Shown.shown_to Shown.what_is_shown
computed = record {
  points_hold = refl;
  example-prints = refl;
  seven_for_want_of_room = refl;
  runs_print = refl;
  guards = record {
    state-stored = refl;
    script-set = refl;
    state-set = refl;
    own-fragment = refl;
    inherited_fragment = refl;
    no-fragment = refl;
    kept-fragment = refl;
    sent-again = refl;
    not_followed = refl;
    answer_filed = refl;
    answer_lost = refl;
    answer-taken = refl;
    page_filed = refl;
    later-windows = refl;
    later-documents = refl;
    later-inputs = refl;
    session-stored = refl;
    reload-cancels = refl;
    href-cancels = refl;
    methods_refused = refl;
    closing_keeps = refl;
    closing_keeps_cookies = refl;
    shown_in_frame = refl;
    shown-over-s = refl;
    not_shown = refl;
  };
  local-steps = refl;
}

-- "The points marked P form a single table under one statement about the definitions."
pub the_points_hold : all_hold points ≡ true
the_points_hold = computed.points_hold
