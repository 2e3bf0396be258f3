use Rattle.exh_world.proofs.WorldOfWards.{wards_world_kept}
use Rattle.exh_world.proofs.laws.worlds_of_wards_are_sound.Goals as goal

pub returns : goal.returns
returns g c config wards bits count each sound =
    (wards_world_kept g.K.Keyer.pseudokey_of config wards g.met.K.Keyer.pseudokey_fits bits count each sound c.walks_name_homes.ensures).sound
