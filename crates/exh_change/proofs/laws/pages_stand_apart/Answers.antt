use Rattle.exh_change.proofs.Apart.{stand_apart}
use Rattle.exh_change.proofs.laws.pages_stand_apart.Goals as goal

pub returns : goal.returns
returns c = stand_apart
