use Rattle.exh_world.proofs.RunWords.{from_one_leaf}
use Rattle.exh_world.proofs.headline_laws.answers_come_from_the_one_leaf.Goals as goal

pub returns : goal.returns
returns g c = from_one_leaf g.K.Keyer.pseudokey_of
