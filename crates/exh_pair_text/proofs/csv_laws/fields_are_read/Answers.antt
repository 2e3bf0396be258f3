use Rattle.exh_pair_text.proofs.CsvReadAgain as again
use Rattle.exh_pair_text.proofs.csv_laws.fields_are_read.Goals as goal

pub returns : goal.returns
returns c = again.fields_are_read
