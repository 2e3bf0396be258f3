use Rattle.exh_table.specs.SetLemmas.{own_entries}
use Rattle.exh_table.proofs.laws.own_entries_give_the_table.Goals as goal

pub returns : goal.returns
returns c = own_entries
