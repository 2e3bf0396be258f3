use Rattle.exh_copy.specs.AdditionLemmas.{table_after_of}
use Rattle.exh_copy.proofs.laws.copies_are_tables_of_their_sets.Goals as goal

pub returns : goal.returns
returns c = table_after_of
