-- What may be absent: 000's ⊥, and what 000 leaves out, is None. These are the names that `src` gives to the options of the nouns.
use Rattle.std.specs.Prelude.{Option, ℕ}
use Rattle.types.specs.declared.WindowNumber.{WindowNumber}
use Rattle.types.specs.declared.DocumentNumber.{DocumentNumber}
use Rattle.types.specs.declared.KeyNumber.{KeyNumber}
use Rattle.types.specs.declared.Origin.{Origin}
use Rattle.types.specs.declared.Url.{Url}

abbrev pub Fragment : Type 0
Fragment = Option ℕ

abbrev pub Referrer : Type 0
Referrer = Option Url

abbrev pub Matching : Type 0
Matching = Option ℕ

abbrev pub Seal : Type 0
Seal = Option KeyNumber

abbrev pub Addressee : Type 0
Addressee = Option Origin

abbrev pub Location : Type 0
Location = Option Url

abbrev pub Parent : Type 0
Parent = Option DocumentNumber

abbrev pub Opener : Type 0
Opener = Option WindowNumber
