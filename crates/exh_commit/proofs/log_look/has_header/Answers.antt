use Rattle.std.proofs.Common.{◌≡◌, ℕ, length, subst, sym, arith, rules}
use Rattle.sqlite_disk.specs.Disk.{Holds}
use Rattle.sqlite_wal.specs.Format.{content}
use Rattle.sqlite_wal.specs.Recovery.{frame}
use Rattle.exh_commit.specs.LogLook.{IsHeaderOfPages}
use Rattle.exh_commit.proofs.LookLemmas.{block_within, content_held, header_if, own_if}
use Rattle.exh_commit.proofs.log_look.has_header.Goals as goal

pub returns-in-Err-clause-cause : goal.returns-in-Err-clause-cause
returns-in-Err-clause-cause g c clean =
    let log = g.D.Disk.seen c.args.log.now in
    c.in-Err.ensures.faults.0 (λ was.
    let within = block_within log c.args.numbers.now c.in-Some.frame (c.requires.frames was) c.in-Some.ensures.within in
    let short = c.requires.short was in
    let at = c.content_at.ensures (omega (arith, within, short)) in
    omega (arith, within, at))

pub returns-in-Ok-clause-own : goal.returns-in-Ok-clause-own
returns-in-Ok-clause-own g c clean =
    let log = g.D.Disk.seen c.args.log.now in
    let numbers = c.args.numbers.now in
    let i = c.in-Some.frame in
    let latest = c.in-Some.ensures in
    let was = c.read_at.ensures.clean clean in
    let are = c.requires.frames was in
    let within = block_within log numbers i are latest.within in
    let short = c.requires.short was in
    let at = c.content_at.ensures (omega (arith, within, short)) in
    let len : length c.read_at.new.buf ≡ 4096 = search rules in
    let holds = subst (λ (n : ℕ). Holds log n c.read_at.new.buf) at (c.in-Ok.ensures.read clean (omega arith)) in
    let is : content (frame 4096 log i) ≡ c.read_at.new.buf = content_held log c.read_at.new.buf i holds len in (
      λ yes. own_if log numbers i are latest (subst IsHeaderOfPages (sym is) (c.is_header_of_pages.ensures.0 yes)),
      λ own. c.is_header_of_pages.ensures.1 (subst IsHeaderOfPages is (header_if log numbers i are latest own)),
    )
