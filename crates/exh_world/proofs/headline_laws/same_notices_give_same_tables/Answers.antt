use Rattle.exh_world.proofs.RunWords.{same_tables}
use Rattle.exh_world.proofs.headline_laws.same_notices_give_same_tables.Goals as goal

pub returns : goal.returns
returns g c = same_tables g.K.Keyer.pseudokey_of
