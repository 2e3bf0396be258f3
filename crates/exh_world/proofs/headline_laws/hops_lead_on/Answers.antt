use Rattle.exh_world.proofs.RunWords.{hops_lead_on}
use Rattle.exh_world.proofs.headline_laws.hops_lead_on.Goals as goal

pub returns : goal.returns
returns g c = hops_lead_on g.K.Keyer.pseudokey_of
