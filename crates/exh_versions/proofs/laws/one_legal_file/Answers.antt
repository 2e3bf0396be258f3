use Rattle.exh_versions.proofs.OneFile.{same_file}
use Rattle.exh_versions.proofs.laws.one_legal_file.Goals as goal

pub returns : goal.returns
returns c bytes one other first second = same_file c.one_file.ensures c.one_placed_file.ensures c.cells_and_tables_tell.ensures.tables bytes one other first second
