-- What the code's labels mean.
use Rattle.types.specs.declared.Label.{Label as Mark}
use Rattle.types.specs.declared.Label.TheVariants.{OfWindow, OfRequest, OfDns, OfKey, OfDocument}
use Rattle.tables.specs.Labels.{window, request, dns, key, document, Label}

abbrev pub label_of : Mark → Label
label_of (OfWindow n) = (window, n.0)
label_of (OfRequest n) = (request, n.0)
label_of (OfDns n) = (dns, n.0)
label_of (OfKey n) = (key, n.0)
label_of (OfDocument n) = (document, n.0)
