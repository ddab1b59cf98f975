-- "Status is 100 to 505; only 303 and 307 with a Location redirect" (01 "The text").
use Rattle.std.specs.Prelude.{cond, ℕ, leb, Option, None as none, Some as some}
use Rattle.shapes.specs.Words.{redirects}
pub use Rattle.words.specs.declared.statuses.StatusKind.{StatusKind}
pub use Rattle.words.specs.declared.statuses.StatusKind.TheVariants.{Redirects, Other}

abbrev pub status_kind : ℕ → Option StatusKind
status_kind n = cond (leb 100 n) (cond (leb n 505) (some (cond (redirects n) Redirects Other)) none) none
