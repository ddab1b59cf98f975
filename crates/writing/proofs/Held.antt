-- What the code can hold of each type, by the type itself: its numbers are small, and an array has as many rows as it says.
use mathlib.Core.List.{List, [], ◌∷◌}
use Prim.Native.Nat.{ℕ, zero, suc, ◌≤◌}
use native.Mathlib.Omega.{arith}
use lib.ListN.{length, take, length-take}
use mir.Val.{Val}
use denote.Array.{each}
use denote.Laws.{Is}
use denote.Shadow.{shadow}
use denote.RattleType.{RattleType}
use Rattle.writing.proofs.CookieRows.{sixty_four}
use Rattle.sorted.specs.Table.{All}
use Rattle.types.specs.contracts.Url as a-url
use Rattle.types.specs.contracts.cookies.Pair as a_pair
use Rattle.types.specs.contracts.OriginHeader as an-origin
use Rattle.types.specs.contracts.Request as a-request
use Rattle.types.specs.contracts.Message as a-message
use Rattle.std.specs.contracts.option.Option as an-option
use Rattle.std.specs.Borrow.{u32}
use Rattle.std.specs.Prelude.{Option, None as none, Some as some}
use Rattle.shapes.specs.Nouns.{Fragment, Absent, Named, Url, Pair, OriginHeader, Unsent, Null, From, Referrer, Unknown, Known, Request}
use Rattle.shapes.specs.Events.{Message, resolve, unsealed, sealed, event_text}
use Rattle.writing.proofs.Bounds.{short-text}
use Rattle.writing.specs.Sized.{FragmentSmall, UrlSmall, PairSmall, OriginSmall, ReferrerSmall, RequestSmall, MessageSmall, AnySmall}

url-small : (u : Url) (vs : List Val) → Is a-url.the_row u vs → UrlSmall u
url-small u vs i = record {
  host = omega arith;
  path = omega arith;
  parameters = omega arith;
  fragment = fragment-small u.fragment _ i.1.1.1.1.1.1.0;
}
  where
    fragment-small : (f : Fragment) (vs : List Val) → Is (an-option.the_row u32) f vs → FragmentSmall f
    fragment-small Absent vs i = tt
    fragment-small (Named n) vs i = omega arith

pair_small : (p : Pair) (vs : List Val) → Is a_pair.the_row p vs → PairSmall p
pair_small p vs i = record { name = omega arith; value = omega arith }

origin-small : (o : OriginHeader) (vs : List Val) → Is an-origin.the_row o vs → OriginSmall o
origin-small Unsent vs i = tt
origin-small Null vs i = tt
origin-small (From o) vs i = omega arith

referrer-small : (r : Referrer) (vs : List Val) → Is (an-option.the_row a-url.the_row) r vs → ReferrerSmall r
referrer-small Unknown vs i = tt
referrer-small (Known u) vs i = url-small u _ i.1.1.1.1.0

-- each row of an array
all_held : (R : RattleType) (P : R.Denot → Type 0) → ((x : R.Denot) (vs : List Val) → Is R x vs → P x)
    → (n : ℕ) (xs : List R.Denot) (us : List Val) → shadow (each R.Denot R.own_val xs us) → All P (take n xs)
all_held R P f zero xs us i = tt
all_held R P f (suc n) [] us i = tt
all_held R P f (suc n) (x ∷ xs) [] i = absurd i
all_held R P f (suc n) (x ∷ xs) (u ∷ us) i = (f x (u ∷ []) i.0, all_held R P f n xs us i.1)

request-small : (q : Request) (vs : List Val) → Is a-request.the_row q vs → RequestSmall q
request-small q vs i =
    let jar = i.1.1.1.1.1.1.1.0 in
    let all = sixty_four q.cookies _ jar in
    record {
      number = omega arith;
      host = omega arith;
      path = omega arith;
      parameters = omega arith;
      few = simp length-take (omega arith);
      pairs = all_held a_pair.the_row PairSmall pair_small q.cookies.count q.cookies.rows _ jar.1.1.0.1.1;
      origin = origin-small q.origin _ i.1.1.1.1.1.1.1.1.0;
      referrer = referrer-small q.referrer _ i.1.1.1.1.1.1.1.1.1.0;
      body = omega arith;
    }

message-small : (m : Message) (vs : List Val) → Is a-message.the_row m vs → MessageSmall m
message-small (resolve h n) vs i = (omega arith, omega arith)
message-small (unsealed a q) vs i = (omega arith, request-small q _ i.1.1.1.1.1.0)
message-small (sealed a k q) vs i = (omega arith, (omega arith, request-small q _ i.1.1.1.1.1.1.0))

any-small : (m : Option Message) (vs : List Val) → Is (an-option.the_row a-message.the_row) m vs → AnySmall m
any-small none vs i = tt
any-small (some m) vs i = message-small m _ i.1.1.1.1.0

-- 01 "An outgoing event has at most 4,096 bytes": whatever the code holds
pub short-sent : (m : Option Message) (vs : List Val) → Is (an-option.the_row a-message.the_row) m vs → length (event_text m) ≤ 4096
short-sent m vs i = short-text m (any-small m vs i)
