use Rattle.std.proofs.Common.{◌≡◌}
use Rattle.exh_edits.specs.FileTests.{IsWhole, block_at}
use Rattle.exh_commit.proofs.KnownLemmas.{honest, known_holds}
use Rattle.exh_commit.proofs.known.PagedFileBlocks.read.Goals as goal

pub returns-in-Ok-clause-block : goal.returns-in-Ok-clause-block
returns-in-Ok-clause-block g c =
    known_holds g.D.Truthful.is_truthful c.args.self.now (λ bytes. IsWhole c.args.place bytes × (c.load.new.block ≡ block_at c.args.place bytes)) (λ truthful ready.
    c.in-Ok.ensures.block ready (honest c.load.new.self (g.met.D.Truthful.tells_truth truthful)))
