use Rattle.exh_ward.proofs.HopsAreComputed.{has_outcome}
use Rattle.exh_ward.proofs.laws.hops_have_outcomes.Goals as goal

pub returns : goal.returns
returns c cap pseudo ward pages at call legal small covered = has_outcome cap pseudo pages at call ward c.right_links_lead_on.ensures legal small covered
