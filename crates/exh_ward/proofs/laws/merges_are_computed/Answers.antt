use Rattle.exh_ward.proofs.MergesAreComputed.{merge_refused, merge_is}
use Rattle.exh_ward.proofs.laws.merges_are_computed.Goals as goal

pub returns : goal.returns
returns g c ward at sound = record { refused = merge_refused ward at sound.legal.legal.legal.linked; merged = merge_is ward at sound.legal.legal.legal.linked }
