use Rattle.exh_ward.proofs.HopsAreComputed.{hop_is_hop_of}
use Rattle.exh_ward.proofs.laws.hops_are_computed.Goals as goal

pub returns : goal.returns
returns c = hop_is_hop_of
