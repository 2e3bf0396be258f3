use Rattle.std.proofs.Common.{sym, ◌∙◌}
use Rattle.exh_ward.proofs.HopsAreComputed.{hop_is_hop_of}
use Rattle.exh_ward.proofs.laws.one_hop.Goals as goal

pub returns : goal.returns
returns c cap pseudo pages at call one other first second =
    hop_is_hop_of cap pseudo pages at call one first ∙ sym (hop_is_hop_of cap pseudo pages at call other second)
