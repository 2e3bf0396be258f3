use Rattle.exh_walk.proofs.OneDistance.{same_distance}
use Rattle.exh_walk.proofs.laws.one_distance.Goals as goal

pub returns : goal.returns
returns c = same_distance
