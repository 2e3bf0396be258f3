use Rattle.exh_world.proofs.RunWords.{combines_join}
use Rattle.exh_world.proofs.headline_laws.combines_give_the_join.Goals as goal

pub returns : goal.returns
returns g c = combines_join g.K.Keyer.pseudokey_of
