-- The numbers of a message have at most 32 bits, and its cookies are at most 64, as in every value that the code can hold: then its text is short.
use Rattle.std.specs.Prelude.{Option, None as none, Some as some}
use Rattle.std.specs.Prelude.{ℕ, ◌≤◌, length}
use Rattle.sorted.specs.Table.{All}
use Rattle.types.specs.Lists.{header_pairs}
use Rattle.shapes.specs.Nouns.{Fragment, Absent, Named, Url, Pair, OriginHeader, Unsent, Null, From, Referrer, Unknown, Known, Request}
use Rattle.shapes.specs.Words.{most32}
use Rattle.shapes.specs.Events.{Message, resolve, unsealed, sealed}

abbrev pub Small : ℕ → Type 0
Small n = n ≤ most32

abbrev pub FragmentSmall : Fragment → Type 0
FragmentSmall Absent = Unit {0}
FragmentSmall (Named n) = Small n

pub record UrlSmall (u : Url) : Type 0 where
  pub host : Small u.host.0
  pub path : Small u.path.0
  pub parameters : Small u.parameters.0
  pub fragment : FragmentSmall u.fragment

pub record PairSmall (p : Pair) : Type 0 where
  pub name : Small p.name.number
  pub value : Small p.value.0

abbrev pub OriginSmall : OriginHeader → Type 0
OriginSmall Unsent = Unit {0}
OriginSmall Null = Unit {0}
OriginSmall (From o) = Small o.host.0

abbrev pub ReferrerSmall : Referrer → Type 0
ReferrerSmall Unknown = Unit {0}
ReferrerSmall (Known u) = UrlSmall u

pub record RequestSmall (q : Request) : Type 0 where
  pub number : Small q.number.0
  pub host : Small q.host.0
  pub path : Small q.path.0
  pub parameters : Small q.parameters.0
  pub few : length (header_pairs q.cookies) ≤ 64
  pub pairs : All PairSmall (header_pairs q.cookies)
  pub origin : OriginSmall q.origin
  pub referrer : ReferrerSmall q.referrer
  pub body : Small q.body.0

abbrev pub MessageSmall : Message → Type 0
MessageSmall (resolve h n) = Small h.0 × Small n.0
MessageSmall (unsealed a q) = Small a.0 × RequestSmall q
MessageSmall (sealed a k q) = Small a.0 × (Small k.0 × RequestSmall q)

abbrev pub AnySmall : Option Message → Type 0
AnySmall none = Unit {0}
AnySmall (some m) = MessageSmall m
