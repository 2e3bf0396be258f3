use Rattle.exh_walk.proofs.RunDistances.{step_adds}
use Rattle.exh_walk.proofs.distance_laws.steps_add_changes.Goals as goal

pub returns : goal.returns
returns g c old new event from pseudokey distance linked step is = step_adds g.K.Keyer.pseudokey_of old new from pseudokey distance is linked event step
