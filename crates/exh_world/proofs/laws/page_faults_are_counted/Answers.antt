use Rattle.exh_world.proofs.FaultsCounted.{counted_step}
use Rattle.exh_world.proofs.laws.page_faults_are_counted.Goals as goal

pub returns : goal.returns
returns g c old event result new step = counted_step g.K.Keyer.pseudokey_of old event result new step
