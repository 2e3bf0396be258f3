use Rattle.exh_ward.proofs.SplitsHaveOutcomes.{split_outcome}
use Rattle.exh_ward.proofs.laws.splits_have_outcomes.Goals as goal

pub returns : goal.returns
returns g c ward at sound = split_outcome ward at (g.K.Keyer.pseudokey_of ward.keyer) sound c.live_pages_split.ensures c.splits_keep_legal.ensures
