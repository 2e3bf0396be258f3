use Rattle.std.proofs.Common.{refl}
use Rattle.sqlite_wal.specs.Format.{be32}
use Rattle.exh_commit.proofs.log_header.get_be32.Goals as goal

pub returns : goal.returns
unfolding be32
returns c = refl
