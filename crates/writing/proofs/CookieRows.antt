-- What the code can hold of a cookie header, by the type itself: 64 rows.
use mathlib.Core.List.{List}
use mathlib.Core.Path.{◌≡◌}
use lib.ListN.{length}
use mir.Val.{Val}
use denote.Laws.{Is}
use Rattle.types.specs.contracts.cookies.Jar as a-jar
use Rattle.shapes.specs.Nouns.{Jar}

pub sixty_four : (j : Jar) (vs : List Val) → Is a-jar.the_row j vs → length j.rows ≡ 64
sixty_four j vs i = i.1.1.0.1.0.1
