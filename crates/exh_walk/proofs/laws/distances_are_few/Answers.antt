use Rattle.exh_ward.specs.DistanceLemmas.{distance_few}
use Rattle.exh_walk.proofs.laws.distances_are_few.Goals as goal

pub returns : goal.returns
returns c ward pages from pseudokey distance linked is = distance_few ward pages linked from pseudokey distance is
