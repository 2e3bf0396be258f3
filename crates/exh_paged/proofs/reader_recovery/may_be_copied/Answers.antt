use Rattle.std.proofs.Common.{◌↔◌, ap, subst, IsTrue}
use Rattle.std.proofs.lemmas.Bool.{and_parts}
use Rattle.std.proofs.lemmas.Result.{IfOk-weaker}
use Rattle.sqlite_wal.specs.Files.{seen_image}
use Rattle.sqlite_wal.specs.Reads.{AreClean, IsClean}
use Rattle.exh_paged.specs.OwnLog.{MayBeCopied}
use Rattle.exh_paged.proofs.OwnLemmas.{IsHeaderOrCopy, may_copy}
use Rattle.exh_paged.proofs.reader_recovery.may_be_copied.Goals as goal

pub returns-in-Ok-true-clause-may : goal.returns-in-Ok-true-clause-may
returns-in-Ok-true-clause-may g c =
    let files = c.args.files.now in
    let read = c.read_first.new.self in
    let end = c.is_header_or_copy.new.files in
    IfOk-weaker c.is_header_or_copy.result
    (λ may. IsClean g.D.Disk end.log → (IsTrue may ↔ IsHeaderOrCopy (g.D.Disk.seen read.log) c.read_first.new.block))
    (λ may. AreClean g.D.Disk end.log end.db → (IsTrue may ↔ MayBeCopied (seen_image g.D.Disk files.log files.db)))
    (λ may holds clean.
    let parts = and_parts (g.D.Disk.is_clean end.log) (g.D.Disk.is_clean end.db) clean in
    let db_clean = subst (IsClean g.D.Disk) c.is_header_or_copy.ensures.same_db parts.1 in
    let whole = (c.in-Ok-true.ensures.whole db_clean).0 c.in-Ok-true.field-0-test in
    let first = c.in-Ok-true.ensures.block db_clean c.in-Ok-true.field-0-test in
    may_copy may (g.D.Disk.seen files.log) (g.D.Disk.seen files.db) (g.D.Disk.seen read.log) c.read_first.new.block (ap g.D.Disk.seen c.read_first.ensures.log) first whole (holds parts.0))
    c.is_header_or_copy.ensures.is
