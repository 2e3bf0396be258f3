use Rattle.exh_table.specs.SetLemmas.{union_is_join}
use Rattle.exh_table.proofs.laws.union_is_join.Goals as goal

pub returns : goal.returns
returns c = union_is_join
