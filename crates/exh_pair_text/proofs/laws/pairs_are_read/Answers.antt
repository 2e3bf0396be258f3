use Rattle.exh_pair_text.proofs.Marks as marks
use Rattle.exh_pair_text.proofs.laws.pairs_are_read.Goals as goal

pub returns : goal.returns
returns c = marks.pairs_are_read c.fields_are_read.ensures
