use Rattle.exh_copy.specs.AdditionLemmas.{longer_up}
use Rattle.exh_copy.proofs.laws.copies_never_go_back.Goals as goal

pub returns : goal.returns
returns c = longer_up
