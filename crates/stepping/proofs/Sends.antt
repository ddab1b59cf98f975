-- HTTP_SEND refuses nothing, and takes a request's number and a DNS question's.
use mathlib.Core.Path.{refl}
use mathlib.Core.List.{List, [], ◌∷◌}
use Rattle.types.specs.declared.Fresh.{Fresh}
use Rattle.types.specs.declared.Sending.{Sending}
use Rattle.tables.specs.Labels.{request, dns, Label}
use Rattle.wim.specs.Sending.{send}
use Rattle.stepping.specs.Brings.{Brings}

abbrev pub numbers_of : Fresh → List Label
numbers_of f = (request, f.request.0) ∷ ((dns, f.dns.0) ∷ [])

pub brings_send : (o : Sending) → Brings (request ∷ (dns ∷ [])) (send o)
unfolding send
brings_send o = λ sts chosen. (refl, λ q. (refl, λ n. tt))
