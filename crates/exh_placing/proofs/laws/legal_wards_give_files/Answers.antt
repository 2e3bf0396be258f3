use Rattle.exh_placing.proofs.WardFiles.{legal_file}
use Rattle.exh_placing.proofs.laws.legal_wards_give_files.Goals as goal

pub returns : goal.returns
returns c = legal_file c.cells_and_tables_tell.ensures.tables
