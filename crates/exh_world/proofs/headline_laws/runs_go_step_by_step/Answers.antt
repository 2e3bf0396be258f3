use Rattle.exh_world.proofs.RunWords.{step_by_step}
use Rattle.exh_world.proofs.headline_laws.runs_go_step_by_step.Goals as goal

pub returns : goal.returns
returns g c = step_by_step g.K.Keyer.pseudokey_of
