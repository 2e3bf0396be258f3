use Rattle.exh_pair_text.proofs.Whole as whole
use Rattle.exh_pair_text.proofs.csv_laws.records_are_whole.Goals as goal

pub returns : goal.returns
returns c = whole.records_are_whole
