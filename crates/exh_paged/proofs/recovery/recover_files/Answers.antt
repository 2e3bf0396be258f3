use Rattle.std.proofs.Common.{◌≡◌, ℕ, List, subst}
use Rattle.sqlite_wal.specs.Files.{seen_image}
use Rattle.exh_commit.specs.PagedFile.{bytes_in, files_in}
use Rattle.exh_paged.specs.OwnLog.{IsExpected}
use Rattle.exh_paged.proofs.FilesLemmas.{alone_as, clean_as, leaves_as}
use Rattle.exh_paged.proofs.OwnLemmas.{pair_never}
use Rattle.exh_paged.proofs.recovery.recover_files.Goals as goal

pub returns-in-Ok-clause-crash : goal.returns-in-Ok-clause-crash
returns-in-Ok-clause-crash g c old found =
    let it = c.in-Ok.file in
    leaves_as g.D.Disk (files_in it) (c.close.result.log, c.close.result.db) (λ was bytes. bytes ≡ was) (bytes_in it) old c.close.ensures
    (λ clean. c.in-Ok.ensures.one clean old found) c.in-Ok.ensures.crash

pub returns-in-Ok-clause-ok : goal.returns-in-Ok-clause-ok
returns-in-Ok-clause-ok g c old found =
    let it = c.in-Ok.file in
    alone_as g.D.Disk (files_in it) (c.close.result.log, c.close.result.db) (λ was bytes. bytes ≡ was) (bytes_in it) old c.close.ensures
    (λ clean. c.in-Ok.ensures.one clean old found) c.in-Ok.ensures.alone

pub returns-in-Ok-clause-expected : goal.returns-in-Ok-clause-expected
returns-in-Ok-clause-expected g c clean old found =
    let it = c.in-Ok.file in
    let honest = clean_as g.D.Disk (files_in it) (c.close.result.log, c.close.result.db) c.close.ensures clean in
    subst (λ (bytes : List ℕ). IsExpected c.args.expected (seen_image g.D.Disk c.args.files.log c.args.files.db) bytes) (c.in-Ok.ensures.one honest old found) (c.in-Ok.ensures.expected honest)

pub returns-in-Err-clause-own : goal.returns-in-Err-clause-own
returns-in-Err-clause-own g c clean pair told =
    pair_never (seen_image g.D.Disk c.args.files.log c.args.files.db) pair ((c.in-Err.ensures.refused clean pair.bytes pair.stands).others told)

pub returns-in-Ok-clause-clean : goal.returns-in-Ok-clause-clean
returns-in-Ok-clause-clean g c clean =
    let it = c.in-Ok.file in
    c.in-Ok.ensures.clean (clean_as g.D.Disk (files_in it) (c.close.result.log, c.close.result.db) c.close.ensures clean)
