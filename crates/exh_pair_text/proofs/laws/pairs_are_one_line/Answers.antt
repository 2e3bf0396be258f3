use Rattle.exh_pair_text.proofs.Marks as marks
use Rattle.exh_pair_text.proofs.laws.pairs_are_one_line.Goals as goal

pub returns : goal.returns
returns c = marks.pairs_are_one_line c.records_are_whole.ensures
