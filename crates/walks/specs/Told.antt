-- What the code's answers mean.
use Rattle.wim.specs.Walks.{Above, missing, topmost, held_by}
use Rattle.walks.specs.declared.told.Above.{Above as Answered}
use Rattle.walks.specs.declared.told.Above.TheVariants.{Missing, Topmost, HeldBy}

abbrev pub standing : Answered → Above
standing Missing = missing
standing Topmost = topmost
standing (HeldBy d) = held_by d
