use Rattle.exh_ward.proofs.MergesHaveOutcomes.{merge_outcome}
use Rattle.exh_ward.proofs.laws.merges_have_outcomes.Goals as goal

pub returns : goal.returns
returns g c ward at words sound = merge_outcome ward at (g.K.Keyer.pseudokey_of ward.keyer) words sound c.merges_keep_legal.ensures
