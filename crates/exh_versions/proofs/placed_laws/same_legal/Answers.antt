use Rattle.exh_versions.proofs.PlacedPlain.{placed_from, plain_from}
use Rattle.exh_versions.proofs.placed_laws.same_legal.Goals as goal

pub returns : goal.returns
returns c file tables plain valid fits have says = (plain_from file tables plain valid says, placed_from file tables plain valid says fits have)
