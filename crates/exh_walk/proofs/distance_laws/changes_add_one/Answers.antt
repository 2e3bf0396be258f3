use Rattle.exh_walk.proofs.ChangedDistances.{change_adds_one}
use Rattle.exh_walk.proofs.distance_laws.changes_add_one.Goals as goal

pub returns : goal.returns
returns c cap ward pages new from pseudokey distance linked change is = change_adds_one ward pages linked cap new change from pseudokey distance is
