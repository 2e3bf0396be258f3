use Rattle.exh_walk.proofs.DistancesComputed.{computed}
use Rattle.exh_walk.proofs.laws.distances_are_computed.Goals as goal

pub returns : goal.returns
returns c ward pages from pseudokey distance linked is = computed ward pages linked from pseudokey distance is
