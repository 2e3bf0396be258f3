use Rattle.exh_table.specs.DirectoryLemmas.{walk_is_name}
use Rattle.exh_table.proofs.laws.walks_name_leaves.Goals as goal

pub returns : goal.returns
returns c table ward_bits pseudokey short small = walk_is_name table ward_bits short pseudokey small
