-- `labels::blank::no_request` meets its contract: the cookies are those of an empty header.
use Rattle.labels.proofs.blank.no_request.Statement.{statement}
use Rattle.labels.proofs.blank.no_request.Tie as tie

returns : tie.Need-returns
returns c = rw c.empty_jar-cookies.ensures

pub no_request_spec : {M : Type 1} → statement M
no_request_spec = tie.close (tie.spec (λ c κs. tt) returns)
