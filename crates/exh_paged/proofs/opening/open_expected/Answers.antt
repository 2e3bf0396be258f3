use Rattle.std.proofs.Common.{◌≡◌, ℕ, List, IfErr, IfOk, sym, subst}
use Rattle.std.proofs.lemmas.Result.{IfOk-weaker}
use Rattle.sqlite_wal.specs.Files.{seen_image}
use Rattle.sqlite_wal.specs.Reads.{AreClean}
use Rattle.sqlite_wal.specs.Recovery.{Image}
use Rattle.exh_commit.specs.FilePages.{Leaves, StandsFor}
use Rattle.exh_commit.specs.PagedFile.{IsHonest, bytes_in}
use Rattle.exh_paged.specs.FilesFault.{IsCauseIn, IsEarly, IsSaved}
use Rattle.exh_paged.specs.OwnLog.{IsExpected, MustHaveFor}
use Rattle.exh_paged.proofs.FilesLemmas.{found_leaves, only_read, read_clean, read_leaves, same_image}
use Rattle.exh_paged.proofs.opening.open_expected.Goals as goal

-- ---- the file or its log couldn't be read

pub returns-in-Err-clause-unchanged : goal.returns-in-Err-clause-unchanged
returns-in-Err-clause-unchanged g c old found =
    let end = c.own_stamp.new.files in
    let left = found_leaves g.D.Disk (c.args.files.log, c.args.files.db) (end.log, end.db) old c.requires.log_synced c.requires.db_synced found
    (read_leaves g.D.Disk (c.args.files.log, c.args.files.db) (end.log, end.db) c.own_stamp.ensures.same_log c.own_stamp.ensures.same_db) in
    subst (λ (pair : _ × _). Leaves g.D.Disk pair (λ bytes. bytes ≡ old)) (sym c.into_files.ensures) left

pub returns-in-Err-clause-refused : goal.returns-in-Err-clause-refused
returns-in-Err-clause-refused g c clean old found =
    let (error, is) = c.in-Err.ensures.read in
    subst (λ fault. IsCauseIn c.args.expected (seen_image g.D.Disk c.args.files.log c.args.files.db) old fault) (sym is) (record { cause = tt; others = λ told. absurd told })

pub returns-in-Err-clause-early : goal.returns-in-Err-clause-early
returns-in-Err-clause-early g c =
    let (error, is) = c.in-Err.ensures.read in
    subst IsEarly (sym is) tt

pub returns-in-Err-clause-unsaved : goal.returns-in-Err-clause-unsaved
returns-in-Err-clause-unsaved g c saved =
    let (error, is) = c.in-Err.ensures.read in
    subst IsSaved is saved

-- ---- what was read leaves the two as they were

pub open_over-requires-clause-log_synced : goal.open_over-requires-clause-log_synced
open_over-requires-clause-log_synced g c = only_read g.D.Disk c.args.files.log c.own_stamp.new.files.log c.own_stamp.ensures.same_log c.requires.log_synced

pub open_over-requires-clause-db_synced : goal.open_over-requires-clause-db_synced
open_over-requires-clause-db_synced g c = only_read g.D.Disk c.args.files.db c.own_stamp.new.files.db c.own_stamp.ensures.same_db c.requires.db_synced

pub open_over-requires-clause-own : goal.open_over-requires-clause-own
open_over-requires-clause-own g c clean =
    let end = c.own_stamp.new.files in
    let same = same_image g.D.Disk (c.args.files.log, c.args.files.db) (end.log, end.db) c.own_stamp.ensures.same_log c.own_stamp.ensures.same_db in
    subst (λ (image : Image). MustHaveFor c.args.expected image c.in-Ok.own) (sym same) (c.in-Ok.ensures.own clean)

pub returns-in-Ok-clause-one : goal.returns-in-Ok-clause-one
returns-in-Ok-clause-one g c =
    let end = c.own_stamp.new.files in
    let same = same_image g.D.Disk (c.args.files.log, c.args.files.db) (end.log, end.db) c.own_stamp.ensures.same_log c.own_stamp.ensures.same_db in
    subst (λ (image : Image). IfOk c.open_over.result (λ it. IsHonest it → (old : List ℕ) → StandsFor image old → bytes_in it ≡ old)) same c.open_over.ensures.one

pub returns-in-Ok-clause-expected : goal.returns-in-Ok-clause-expected
returns-in-Ok-clause-expected g c =
    let end = c.own_stamp.new.files in
    let same = same_image g.D.Disk (c.args.files.log, c.args.files.db) (end.log, end.db) c.own_stamp.ensures.same_log c.own_stamp.ensures.same_db in
    subst (λ (image : Image). IfOk c.open_over.result (λ it. IsHonest it → IsExpected c.args.expected image (bytes_in it))) same c.open_over.ensures.expected

pub returns-in-Ok-clause-unchanged : goal.returns-in-Ok-clause-unchanged
returns-in-Ok-clause-unchanged g c =
    let end = c.own_stamp.new.files in
    let same = same_image g.D.Disk (c.args.files.log, c.args.files.db) (end.log, end.db) c.own_stamp.ensures.same_log c.own_stamp.ensures.same_db in
    subst (λ (image : Image). IfErr c.open_over.result (λ failed. (old : List ℕ) → StandsFor image old → Leaves g.D.Disk (failed.1.log, failed.1.db) (λ bytes. bytes ≡ old))) same c.open_over.ensures.unchanged

pub returns-in-Ok-clause-refused : goal.returns-in-Ok-clause-refused
returns-in-Ok-clause-refused g c =
    let end = c.own_stamp.new.files in
    let same = same_image g.D.Disk (c.args.files.log, c.args.files.db) (end.log, end.db) c.own_stamp.ensures.same_log c.own_stamp.ensures.same_db in
    subst (λ (image : Image). IfErr c.open_over.result (λ failed. AreClean g.D.Disk failed.1.log failed.1.db → (old : List ℕ) → StandsFor image old → IsCauseIn c.args.expected image old failed.0)) same c.open_over.ensures.refused

pub returns-in-Ok-clause-clean : goal.returns-in-Ok-clause-clean
returns-in-Ok-clause-clean g c =
    let end = c.own_stamp.new.files in
    IfOk-weaker c.open_over.result (λ it. IsHonest it → AreClean g.D.Disk end.log end.db) (λ it. IsHonest it → AreClean g.D.Disk c.args.files.log c.args.files.db)
    (λ it clean honest. read_clean g.D.Disk (c.args.files.log, c.args.files.db) (end.log, end.db) c.own_stamp.ensures.same_log c.own_stamp.ensures.same_db (clean honest)) c.open_over.ensures.clean
