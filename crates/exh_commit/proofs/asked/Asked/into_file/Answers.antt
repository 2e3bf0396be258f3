use Rattle.std.proofs.Common.{◌≡◌, ◌∙◌}
use Rattle.exh_commit.proofs.ImageLemmas.{ready_leaves}
use Rattle.exh_commit.proofs.asked.Asked.into_file.Goals as goal

pub returns-clause-crash : goal.returns-clause-crash
returns-clause-crash g c ready =
    let it = c.args.self.file in
    ready_leaves it.pager (λ bytes. bytes ≡ g.K.Before.bytes) (c.args.self.ready ∙ ready) it.sized it.seen g.met.D.Disk.seen_may_stay (λ is_open. c.args.self.same)
