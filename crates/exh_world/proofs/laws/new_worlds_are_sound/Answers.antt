use Rattle.exh_world.proofs.FreshWorld.{new_sound}
use Rattle.exh_world.proofs.NewWards.{new_wards_sound}
use Rattle.exh_world.proofs.laws.new_worlds_are_sound.Goals as goal

pub returns : goal.returns
returns g c config bits =
    let pseudokey_of = g.K.Keyer.pseudokey_of in
    new_sound pseudokey_of config g.met.K.Keyer.pseudokey_fits bits (new_wards_sound pseudokey_of c.lone_pages_are_legal.ensures config bits)
