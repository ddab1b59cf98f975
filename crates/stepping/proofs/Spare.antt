-- The code asks of each number that is given whether it stands anywhere, table by table; cookies, local storage and STS hosts speak of hosts alone.
use mathlib.Core.Path.{◌≡◌, refl, sym, ap, ◌∙◌}
use mathlib.Core.Bool.{Bool, true, false, cond, ◌&&◌}
use mathlib.Core.List.{List, [], ◌∷◌}
use lib.Dec.{eqb}
use Rattle.std.proofs.Math.Bool.{and-true}
use Rattle.types.specs.declared.Fresh.{Fresh}
use Rattle.types.specs.declared.Label.{Label as Mark}
use Rattle.types.specs.declared.rows.HostCookie.{HostCookie}
use Rattle.types.specs.declared.rows.LocalValue.{LocalValue}
use Rattle.types.specs.declared.rows.StrictHost.{StrictHost}
use Rattle.tables.specs.Tables.{Table, Tables, windows, documents, cookies, local_storage, session_storage, inputs, pending_dns, pending_requests, sts}
use Rattle.tables.specs.Labels.{window, request, dns, key, document, Label, clean, is_fresh}
use Rattle.wim.specs.Step.{numbers, given, fresh_labels, all_fresh}
use Rattle.tables.specs.View.{label_of}
use Rattle.labels.proofs.Laws.{no-host}
use Rattle.stepping.specs.Wanted.{spare, all_spare}
use Rattle.stepping.proofs.Exact.{five}

all-spare : (b : Tables) (ls : List Label) → all_fresh b (given ls) ≡ all_spare b ls
unfolding all_fresh
all-spare b [] = refl
all-spare b (l ∷ ls) = go (eqb l.1 0) (all-spare b ls)
  where
    go : (z : Bool) → all_fresh b (given ls) ≡ all_spare b ls → all_fresh b (cond z (given ls) (l ∷ given ls)) ≡ (cond z true (is_fresh b l) && all_spare b ls)
    go true ih = ih
    go false ih = ap (is_fresh b l &&◌) ih

-- of the five numbers
pub five_spare : (b : Tables) (f : Fresh) {x : Bool}
    → x ≡ (spare b (window, f.window.0) && (spare b (request, f.request.0) && (spare b (dns, f.dns.0) && (spare b (key, f.key.0) && spare b (document, f.document.0)))))
    → x ≡ all_fresh b (fresh_labels f)
five_spare b f e = e ∙ five (spare b (window, f.window.0)) (spare b (request, f.request.0)) (spare b (dns, f.dns.0)) (spare b (key, f.key.0)) (spare b (document, f.document.0)) ∙ sym (all-spare b (numbers f))

clean-cookies : (l : Mark) (rs : List HostCookie) → clean cookies (label_of l) rs ≡ true
unfolding clean
clean-cookies l [] = refl
clean-cookies l (r ∷ rs) = rw (no-host l r.host.0) (clean-cookies l rs)

clean-local : (l : Mark) (rs : List LocalValue) → clean local_storage (label_of l) rs ≡ true
unfolding clean
clean-local l [] = refl
clean-local l (r ∷ rs) = rw (no-host l r.origin.host.0) (clean-local l rs)

clean-sts : (l : Mark) (rs : List StrictHost) → clean sts (label_of l) rs ≡ true
unfolding clean
clean-sts l [] = refl
clean-sts l (r ∷ rs) = rw (no-host l r.host.0) (clean-sts l rs)

six : (a b c d e f : Bool) → (a && b && c && d && e && f) ≡ (a && (b && (c && (d && (e && (f && true))))))
six true true true true true f = sym (and-true f)
six true true true true false f = refl
six true true true false e f = refl
six true true false d e f = refl
six true false c d e f = refl
six false b c d e f = refl

-- no row of this table speaks of the label
abbrev pub silent : (l : Mark) (b : Tables) → Table → Bool
silent l b t = clean t (label_of l) (b t)

pub fresh-tables : (l : Mark) (b : Tables) {x : Bool}
    → x ≡ (silent l b windows && silent l b documents && silent l b session_storage && silent l b inputs && silent l b pending_dns && silent l b pending_requests)
    → x ≡ is_fresh b (label_of l)
unfolding is_fresh
fresh-tables l b e =
    rw (clean-cookies l (b cookies), clean-local l (b local_storage), clean-sts l (b sts))
    (e ∙ six (silent l b windows) (silent l b documents) (silent l b session_storage) (silent l b inputs) (silent l b pending_dns) (silent l b pending_requests))
