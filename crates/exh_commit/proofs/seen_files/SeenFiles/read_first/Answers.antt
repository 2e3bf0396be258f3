use Rattle.std.proofs.Common.{◌≡◌, ℕ, List, length, sym, subst, arith, rules}
use Rattle.sqlite_disk.specs.Disk.{Holds}
use Rattle.sqlite_wal.specs.Format.{part}
use Rattle.sqlite_wal.proofs.PartLemmas.{held_is_part}
use Rattle.exh_commit.proofs.seen_files.SeenFiles.read_first.Goals as goal

pub returns-clause-block : goal.returns-clause-block
unfolding part
returns-clause-block g c clean whole =
    let db = g.D.Disk.seen c.args.self.now.db in
    let len : length c.read_at.new.buf ≡ 4096 = search rules in
    let held = subst (λ (bytes : List ℕ). Holds bytes 0 c.read_at.new.buf) c.len.ensures.seen (c.in_ok-read_at.ensures.read clean (omega arith)) in
    sym (held_is_part db c.read_at.new.buf 0 4096 held len)
