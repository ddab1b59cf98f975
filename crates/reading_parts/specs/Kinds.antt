-- The tail ends of `command_of`, by which its reader goes.
use Rattle.csexp.specs.Text.{text}
use Rattle.csexp.specs.Decode.{Decoder, either}
use Rattle.shapes.specs.Nouns.{Command, Back, Forward, Close}
use Rattle.shapes.specs.Items.{href_of, iframe_of, form_of, set_script_of, set_script_state_of, xhr_of, naming_of, post_message_of}

abbrev pub moving_of : Decoder Command
moving_of =
    either (naming_of (text "BACK") Back)
    (either (naming_of (text "FORWARD") Forward)
    (either (naming_of (text "CLOSE") Close)
    post_message_of))

abbrev pub changing_of : Decoder Command
changing_of =
    either set_script_of
    (either set_script_state_of
    (either xhr_of
    moving_of))

abbrev pub loading_of : Decoder Command
loading_of =
    either href_of
    (either iframe_of
    (either form_of
    changing_of))
