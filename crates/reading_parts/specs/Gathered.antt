-- The cookies from a position on up to a ')'.
use Rattle.std.specs.Prelude.{◌≡◌, List, ℕ, Option, option_map}
use Rattle.csexp.specs.declared.At.{At}
use Rattle.csexp.specs.At.{ends}
use Rattle.csexp.specs.Decode.{up_to}
use Rattle.csexp.specs.Answers.{fields_at}
use Rattle.shapes.specs.Nouns.{SetCookies}
use Rattle.shapes.specs.Items.{cookie_of, set_cookies}

pub record Gathered (s : List ℕ) (at : ℕ) (r : Option (At SetCookies)) : Type 0 where
  pub exactly : r ≡ option_map (λ l. ends (set_cookies l.value) l.next) (fields_at (up_to 4 cookie_of) s at)
