use Rattle.std.proofs.Common.{◌≡◌, ℕ, length, subst, arith, rules}
use Rattle.sqlite_disk.specs.Disk.{Holds}
use Rattle.exh_commit.proofs.LookLemmas.{block_within, content_held}
use Rattle.exh_commit.proofs.log_line.read_frame.Goals as goal

pub returns-clause-block : goal.returns-clause-block
returns-clause-block g c clean =
    let log = g.D.Disk.seen c.args.log.now in
    let was = c.read_at.ensures.clean clean in
    let within = block_within log c.args.numbers.now c.args.frame (c.requires.frames was) c.requires.within in
    let short = c.requires.short was in
    let at = c.content_at.ensures (omega (arith, within, short)) in
    let len : length c.read_at.new.buf ≡ 4096 = search rules in
    let holds = subst (λ (n : ℕ). Holds log n c.read_at.new.buf) at (c.in_ok-read_at.ensures.read clean (omega arith)) in
    content_held log c.read_at.new.buf c.args.frame holds len
