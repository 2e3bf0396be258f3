use Rattle.exh_table.specs.PathLemmas.{walk_is_path}
use Rattle.exh_table.proofs.laws.walks_are_paths.Goals as goal

pub returns : goal.returns
returns c = walk_is_path
