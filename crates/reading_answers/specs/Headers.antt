-- The parts of `one_header_of`, by which its reader goes: one header more than those of h.
use Rattle.csexp.specs.Text.{text}
use Rattle.csexp.specs.Decode.{Decoder, maps, word}
use Rattle.shapes.specs.Nouns.{Headers}
use Rattle.shapes.specs.Items.{cookies_of, url_of, policy_of, header_of, unless, has_location, has_policy, with_cookies, with_location, with_strict, with_policy}

abbrev pub cookies_header : Headers → Decoder Headers
cookies_header h = unless h.set (maps (with_cookies h) (header_of (text "Set-Cookie") cookies_of))

abbrev pub location_header : Headers → Decoder Headers
location_header h = unless (has_location h.location) (maps (with_location h) (header_of (text "Location") url_of))

abbrev pub strict_header : Headers → Decoder Headers
strict_header h = unless h.strict (maps (with_strict h) (header_of (text "Strict-Transport-Security") (word (text "T"))))

abbrev pub policy_header : Headers → Decoder Headers
policy_header h = unless (has_policy h.policy) (maps (with_policy h) (header_of (text "ReferrerPolicy") policy_of))
