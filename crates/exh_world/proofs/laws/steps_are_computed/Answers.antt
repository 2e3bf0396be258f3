use Rattle.exh_world.proofs.StepFunction.{step_computed}
use Rattle.exh_world.proofs.laws.steps_are_computed.Goals as goal

pub returns : goal.returns
returns g c old event result new sound fits step =
    step_computed g.K.Keyer.pseudokey_of old sound c.splits_are_computed.ensures c.merges_are_computed.ensures c.hops_are_computed.ensures c.distances_are_computed.ensures event result new fits step
