use Rattle.exh_walk.proofs.GoHome.{nearer}
use Rattle.exh_walk.proofs.laws.moves_come_nearer.Goals as goal

pub returns : goal.returns
returns c cap pseudo ward pages from call next distance on = nearer cap pseudo pages call c.one_hop.ensures c.right_links_lead_on.ensures ward from on next distance
