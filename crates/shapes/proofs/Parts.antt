-- What is read as a part that items and events share is what that part is written as, in range. Each law says: to show P of every term and value
-- that the decoder gives, show P of the term of each value in range.
--     number_only · optional_only · labelled_only     numbers
--     protocol_only · fragment_only · url_only · origin_only · name_only · method_only
--     header_only · unless_only                       a header, and one that may stand once
use mathlib.Core.Bool.{Bool, true, false}
use mathlib.Core.List.{List}
use Prim.Native.Nat.{ℕ}
use native.Mathlib.Omega.{arith}
use Rattle.sorted.proofs.Never.{never}
use Rattle.csexp.specs.Term.{Term, nil, cons, atom, list}
use Rattle.csexp.specs.Decode.{Decoder, numeral, optional_of, labelled_of}
use Rattle.csexp.specs.Encode.{number_term, optional_term, labelled}
use Rattle.csexp.proofs.write.Only.{GivesOnly, gives_so, only_nothing, only_inside, only_one, only_end, only_either, only_maps, only_optionally, only_word, only_means, only_numeral, only_optional, only_labelled}
use Rattle.shapes.specs.Nouns.{Protocol, Plain, Secure, Fragment, Absent, Named, Url, Origin, CookieName, Method, Get, Head, Post, Put, Delete, Connect, Options, Trace}
use Rattle.shapes.specs.Items.{protocol_of, fragment_of, url_of, origin_of, name_of, method_of, header_of, unless}
use Rattle.shapes.specs.Events.{protocol_term, fragment_term, url_term, origin_term, name_term, method_term}
use Rattle.shapes.specs.Ranges.{Between, NameIn, FragmentIn, UrlIn, OriginIn}

-- NUMBERS.
module _ {P : Term → ℕ → Type 0} where
  pub number_only : (lo hi : ℕ) → ((n : ℕ) → Between lo hi n → P (number_term n) n) → GivesOnly (numeral lo hi) P
  number_only lo hi p = only_numeral lo hi λ n low high. p n (record { low = low; high = high })

  pub optional_only : (hi : ℕ) → ((n : ℕ) → Between 0 hi n → P (optional_term n) n) → GivesOnly (optional_of hi) P
  optional_only hi p = only_optional hi λ n high. p n (record { low = omega arith; high = high })

  pub labelled_only : (w : List ℕ) (lo hi : ℕ) → ((n : ℕ) → Between lo hi n → P (labelled w n) n) → GivesOnly (labelled_of w lo hi) P
  labelled_only w lo hi p = only_labelled w lo hi λ n low high. p n (record { low = low; high = high })

-- ADDRESSES.
pub protocol_only : {P : Term → Protocol → Type 0} → ((p : Protocol) → P (protocol_term p) p) → GivesOnly protocol_of P
protocol_only p = only_either (only_means _ _ (p Plain)) (only_means _ _ (p Secure))

pub fragment_only : {P : Term → Fragment → Type 0} → ((f : Fragment) → FragmentIn f → P (fragment_term f) f) → GivesOnly fragment_of P
fragment_only p = only_optionally _ _ (p Absent tt) (number_only _ _ λ n i. p (Named n) i)

pub url_only : {P : Term → Url → Type 0} → ((u : Url) → UrlIn u → P (url_term u) u) → GivesOnly url_of P
url_only p =
    only_inside
    (only_one _ (only_word _
    (only_one _ (protocol_only λ protocol.
    only_one _ (number_only _ _ λ host h.
    only_one _ (number_only _ _ λ path a.
    only_one _ (optional_only _ λ parameters v.
    only_one _ (fragment_only λ fragment f.
    only_end _ (p _ (record { host = h; path = a; parameters = v; fragment = f }))))))))))

pub origin_only : {P : Term → Origin → Type 0} → ((o : Origin) → OriginIn o → P (origin_term o) o) → GivesOnly origin_of P
origin_only p = only_inside (only_one _ (number_only _ _ λ host h. only_one _ (protocol_only λ protocol. only_end _ (p _ h))))

-- COOKIES, METHODS, HEADERS.
pub name_only : {P : Term → CookieName → Type 0} → ((n : CookieName) → NameIn n → P (name_term n) n) → GivesOnly name_of P
name_only p =
    only_either (only_maps _ (number_only _ _ λ n i. p (record { prefixed = false; number = n }) i))
    (only_maps _ (labelled_only _ _ _ λ n i. p (record { prefixed = true; number = n }) i))

pub method_only : {P : Term → Method → Type 0} → ((m : Method) → P (method_term m) m) → GivesOnly method_of P
method_only p =
    only_either (only_means _ _ (p Get))
    (only_either (only_means _ _ (p Head))
    (only_either (only_means _ _ (p Post))
    (only_either (only_means _ _ (p Put))
    (only_either (only_means _ _ (p Delete))
    (only_either (only_means _ _ (p Connect))
    (only_either (only_means _ _ (p Options))
    (only_either (only_means _ _ (p Trace))
    only_nothing)))))))

module _ {A : Type 0} {d : Decoder A} {P : Term → A → Type 0} where
  pub header_only : (w : List ℕ) → GivesOnly d (λ t v. P (list (cons (atom w) (cons t nil))) v) → GivesOnly (header_of w d) P
  header_only w g = only_inside (only_one _ (only_word _ (only_one _ (gives_so g λ t v q. only_end v q))))

  pub unless_only : (c : Bool) → GivesOnly d P → GivesOnly (unless c d) P
  unfolding unless
  unless_only true g = record { is = λ t v e. never (cc) }
  unless_only false g = record { is = λ t v e. g.is t v e }
