use Rattle.exh_ward.proofs.SplitsAreComputed.{split_refused, split_is}
use Rattle.exh_ward.proofs.laws.splits_are_computed.Goals as goal

pub returns : goal.returns
returns g c ward at sound = record { refused = split_refused ward at; split = split_is ward at sound.legal.legal.legal.linked }
