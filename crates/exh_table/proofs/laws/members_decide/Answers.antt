use Rattle.exh_table.specs.SetLemmas.{members_decide}
use Rattle.exh_table.proofs.laws.members_decide.Goals as goal

pub returns : goal.returns
returns c = members_decide
