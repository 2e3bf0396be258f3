use Rattle.std.proofs.Common.{◌≡◌, ℕ, List, subst, inl}
use Rattle.sqlite_wal.specs.Files.{seen_image}
use Rattle.exh_commit.specs.Change.{IsChanged, IsOldOrChanged, MayChange}
use Rattle.exh_commit.specs.Change as changes
use Rattle.exh_commit.specs.PagedFile.{bytes_in, files_in}
use Rattle.exh_paged.specs.OwnLog.{IsExpected}
use Rattle.exh_commit.proofs.KnownLemmas.{honest}
use Rattle.exh_paged.proofs.FilesLemmas.{alone_as, clean_as, early_fails, leaves_as, leaves_more}
use Rattle.exh_paged.proofs.OwnLemmas.{pair_never}
use Rattle.exh_paged.proofs.files_change.change_files.Goals as goal

-- ---- it wasn't opened

pub returns-in-Err-clause-crash : goal.returns-in-Err-clause-crash
returns-in-Err-clause-crash g c old found =
    let back = c.in-Err.files in
    leaves_more g.D.Disk (back.log, back.db) (λ bytes. bytes ≡ old) (IsOldOrChanged g.D.Truthful.is_truthful (g.C.Changer.allows c.args.changer.now) old) (λ bytes same. inl same) (c.in-Err.ensures.unchanged old found)

pub returns-in-Err-clause-saved : goal.returns-in-Err-clause-saved
returns-in-Err-clause-saved g c saved = absurd (c.in-Err.ensures.unsaved saved)

pub returns-in-Err-clause-cause : goal.returns-in-Err-clause-cause
returns-in-Err-clause-cause g c truth old found =
    early_fails (changes.IsCause (g.C.Changer.allows c.args.changer.now) (g.C.Changer.refuses c.args.changer.now) old) (λ error. tt) c.in-Err.fault c.in-Err.ensures.early

-- ---- the edits are saved

pub returns-in-Ok-changed-clause-crash : goal.returns-in-Ok-changed-clause-crash
returns-in-Ok-changed-clause-crash g c old found =
    let end = c.change-changed.result.1 in
    leaves_as g.D.Disk (files_in end) (c.close-files.result.log, c.close-files.result.db) (IsOldOrChanged g.D.Truthful.is_truthful (g.C.Changer.allows c.args.changer.now)) (bytes_in c.in-Ok.file) old c.close-files.ensures
    (λ clean. c.in-Ok.ensures.one (c.change-changed.ensures.honest clean) old found) c.change-changed.ensures.crash

pub returns-in-Ok-changed-clause-ok : goal.returns-in-Ok-changed-clause-ok
returns-in-Ok-changed-clause-ok g c old found =
    let end = c.change-changed.result.1 in
    let alone = rw c.in-Ok-changed.is at c.change-changed.ensures.alone in
    alone_as g.D.Disk (files_in end) (c.close-files.result.log, c.close-files.result.db) (IsChanged g.D.Truthful.is_truthful (g.C.Changer.allows c.args.changer.now) c.in-Ok-changed.answer) (bytes_in c.in-Ok.file) old c.close-files.ensures
    (λ clean. c.in-Ok.ensures.one (c.change-changed.ensures.honest clean) old found) alone

pub returns-in-Ok-changed-clause-expected : goal.returns-in-Ok-changed-clause-expected
returns-in-Ok-changed-clause-expected g c clean old found =
    let end = c.change-changed.result.1 in
    let clean_end = c.change-changed.ensures.honest (clean_as g.D.Disk (files_in end) (c.close-files.result.log, c.close-files.result.db) c.close-files.ensures clean) in
    subst (λ (bytes : List ℕ). IsExpected c.args.expected (seen_image g.D.Disk c.args.files.log c.args.files.db) bytes) (c.in-Ok.ensures.one clean_end old found) (c.in-Ok.ensures.expected clean_end)

-- ---- they aren't, or may not be

pub returns-in-Err-changed-clause-crash : goal.returns-in-Err-changed-clause-crash
returns-in-Err-changed-clause-crash g c old found =
    let end = c.change-changed.result.1 in
    leaves_as g.D.Disk (files_in end) (c.close-files.result.log, c.close-files.result.db) (IsOldOrChanged g.D.Truthful.is_truthful (g.C.Changer.allows c.args.changer.now)) (bytes_in c.in-Ok.file) old c.close-files.ensures
    (λ clean. c.in-Ok.ensures.one (c.change-changed.ensures.honest clean) old found) c.change-changed.ensures.crash

pub returns-in-Err-changed-clause-unchanged : goal.returns-in-Err-changed-clause-unchanged
returns-in-Err-changed-clause-unchanged g c unchanged old found =
    let end = c.change-changed.result.1 in
    let left = rw c.in-Err-changed.is at c.change-changed.ensures.unchanged in
    leaves_as g.D.Disk (files_in end) (c.close-files.result.log, c.close-files.result.db) (λ was bytes. bytes ≡ was) (bytes_in c.in-Ok.file) old c.close-files.ensures
    (λ clean. c.in-Ok.ensures.one (c.change-changed.ensures.honest clean) old found) (left unchanged)

pub returns-in-Err-changed-clause-saved : goal.returns-in-Err-changed-clause-saved
returns-in-Err-changed-clause-saved g c saved old found =
    let end = c.change-changed.result.1 in
    let left = rw c.in-Err-changed.is at c.change-changed.ensures.saved in
    leaves_as g.D.Disk (files_in end) (c.close-files.result.log, c.close-files.result.db) (MayChange g.D.Truthful.is_truthful (g.C.Changer.allows c.args.changer.now)) (bytes_in c.in-Ok.file) old c.close-files.ensures
    (λ clean. c.in-Ok.ensures.one (c.change-changed.ensures.honest clean) old found) (left saved)

pub returns-in-Err-changed-clause-cause : goal.returns-in-Err-changed-clause-cause
returns-in-Err-changed-clause-cause g c truth old found =
    let it = c.in-Ok.file in
    let cause = rw c.in-Err-changed.is at c.change-changed.ensures.cause in
    subst (λ (was : List ℕ). changes.IsCause (g.C.Changer.allows c.args.changer.now) (g.C.Changer.refuses c.args.changer.now) was c.in-Err-changed.fault) (c.in-Ok.ensures.one (honest it (g.met.D.Truthful.tells_truth truth)) old found) (cause truth)

pub returns-in-Err-changed-clause-refused : goal.returns-in-Err-changed-clause-refused
returns-in-Err-changed-clause-refused g c clean old found = record { cause = tt; others = λ told. absurd told }

pub returns-in-Err-clause-own : goal.returns-in-Err-clause-own
returns-in-Err-clause-own g c clean pair told =
    pair_never (seen_image g.D.Disk c.args.files.log c.args.files.db) pair ((c.in-Err.ensures.refused clean pair.bytes pair.stands).others told)
