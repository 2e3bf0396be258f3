use Rattle.std.proofs.Common.{◌≡◌, ◌/◌, length, ◌∙◌}
use Rattle.exh_commit.proofs.KnownLemmas.{counted_blocks, honest, known_holds}
use Rattle.exh_commit.proofs.known.PagedFileBlocks.count.Goals as goal

pub returns-clause-bytes : goal.returns-clause-bytes
returns-clause-bytes g c =
    let it = c.args.self.now in
    known_holds g.D.Truthful.is_truthful it (λ bytes. c.from.result ≡ length bytes / 4096) (λ truthful ready.
    c.from.ensures ∙ c.count.ensures ∙ counted_blocks it ready (honest it (g.met.D.Truthful.tells_truth truthful)))
