use Rattle.exh_table.specs.DirectoryLemmas.{has_directory}
use Rattle.exh_table.proofs.laws.one_directory.Goals as goal

pub returns : goal.returns
returns c = has_directory
