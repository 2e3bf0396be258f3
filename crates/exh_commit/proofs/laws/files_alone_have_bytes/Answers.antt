use Rattle.exh_commit.proofs.AloneLemmas.{alone_has}
use Rattle.exh_commit.proofs.laws.files_alone_have_bytes.Goals as goal

pub returns : goal.returns
returns c = alone_has
