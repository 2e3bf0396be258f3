use Rattle.exh_table.specs.PathLemmas.{parted}
use Rattle.exh_table.proofs.laws.leaves_part.Goals as goal

pub returns : goal.returns
returns c = parted
