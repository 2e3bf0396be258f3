use Rattle.exh_world.proofs.AlikeFunction.{function_alike}
use Rattle.exh_world.proofs.AlikeSteps.{steps_alike}
use Rattle.exh_world.proofs.laws.steps_go_alike.Goals as goal

pub returns-clause-steps : goal.returns-clause-steps
returns-clause-steps g c = steps_alike g.K.Keyer.pseudokey_of

pub returns-clause-function : goal.returns-clause-function
returns-clause-function g c = function_alike g.K.Keyer.pseudokey_of
