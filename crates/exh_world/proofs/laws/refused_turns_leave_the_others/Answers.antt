use Rattle.exh_world.proofs.OthersRun.{leave_others}
use Rattle.exh_world.proofs.laws.refused_turns_leave_the_others.Goals as goal

pub returns : goal.returns
returns g c start moments end run = leave_others g.K.Keyer.pseudokey_of c.steps_go_alike.ensures.steps start moments end run
