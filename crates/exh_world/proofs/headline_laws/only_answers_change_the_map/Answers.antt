use Rattle.exh_world.proofs.RunWords.{map_kept}
use Rattle.exh_world.proofs.headline_laws.only_answers_change_the_map.Goals as goal

pub returns : goal.returns
returns g c = map_kept g.K.Keyer.pseudokey_of
