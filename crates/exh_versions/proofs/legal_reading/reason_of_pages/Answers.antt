use Rattle.exh_versions.proofs.Legal.{first_unfit, reason_to}
use Rattle.exh_versions.proofs.legal_reading.reason_of_pages.Goals as goal

pub returns : goal.returns
returns g c = λ file valid are unfit.
    first_unfit file c.deref.result.now unfit c.in_ok-found.found c.unwrap_or.result c.unwrap_or.ensures (reason_to g.W.PageList.pages c.args.parts.now file are c.deref.result.now c.in_ok-found.found c.in_ok-found.ensures)
