use Rattle.exh_world.proofs.StepOutcome.{step_outcome}
use Rattle.exh_world.proofs.laws.steps_have_outcomes.Goals as goal

pub returns : goal.returns
returns g c old event sound =
    step_outcome g.K.Keyer.pseudokey_of old sound c.hops_have_outcomes.ensures c.answers_keep_legal.ensures c.distances_are_computed.ensures c.gets_go_home.ensures.gets c.splits_have_outcomes.ensures c.merges_have_outcomes.ensures event
