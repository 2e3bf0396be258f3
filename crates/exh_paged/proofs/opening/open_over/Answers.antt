use Rattle.std.proofs.Common.{◌≡◌, ℕ, List, ◌∙◌, refl, sym, subst}
use Rattle.sqlite_wal.specs.Files.{seen_image}
use Rattle.exh_commit.specs.PagedFile.{bytes_in, files_in}
use Rattle.exh_paged.specs.FilesFault.{IsCauseIn}
use Rattle.exh_paged.specs.OwnLog.{IsExpected}
use Rattle.exh_paged.proofs.FilesLemmas.{alone_when, clean_as, found_leaves, leaves_as, leaves_when}
use Rattle.exh_paged.proofs.opening.open_over.Goals as goal

pub returns-in-Err-clause-unchanged : goal.returns-in-Err-clause-unchanged
returns-in-Err-clause-unchanged g c old found =
    let back = c.in-Err.files in
    found_leaves g.D.Disk (c.args.files.log, c.args.files.db) (back.log, back.db) old c.requires.log_synced c.requires.db_synced found c.in-Err.ensures.given_back

pub returns-in-Err-clause-refused : goal.returns-in-Err-clause-refused
returns-in-Err-clause-refused g c clean old found = record { cause = tt; others = λ told. absurd told }

pub returns-in-Err-see_expected-clause-unchanged : goal.returns-in-Err-see_expected-clause-unchanged
returns-in-Err-see_expected-clause-unchanged g c old found =
    let end = c.see_expected.new.file in
    leaves_as g.D.Disk (files_in end) (c.close.result.log, c.close.result.db) (λ was bytes. bytes ≡ was) (bytes_in c.in-Ok.file) old c.close.ensures
    (λ clean. c.in-Ok.ensures.one (c.see_expected.ensures.keeps.stays.clean clean) old found) c.see_expected.ensures.crash

pub returns-in-Err-see_expected-clause-refused : goal.returns-in-Err-see_expected-clause-refused
returns-in-Err-see_expected-clause-refused g c clean old found =
    let image = seen_image g.D.Disk c.args.files.log c.args.files.db in
    let honest = clean_as g.D.Disk (files_in c.see_expected.new.file) (c.close.result.log, c.close.result.db) c.close.ensures clean in
    let opened = c.see_expected.ensures.keeps.stays.clean honest in
    let must = c.requires.own (c.in-Ok.ensures.clean opened) in
    subst (λ (bytes : List ℕ). IsCauseIn c.args.expected image bytes c.in-Err-see_expected.fault) (c.in-Ok.ensures.one opened old found) (c.in-Err-see_expected.ensures.refused honest image must)

pub returns-in-Err-see_expected-clause-early : goal.returns-in-Err-see_expected-clause-early
returns-in-Err-see_expected-clause-early g c = c.in-Err-see_expected.ensures.early

pub returns-in-Err-see_expected-clause-unsaved : goal.returns-in-Err-see_expected-clause-unsaved
returns-in-Err-see_expected-clause-unsaved g c saved = c.in-Err-see_expected.ensures.unsaved saved

-- ---- what the log has couldn't be copied

pub returns-in-Err-settle-clause-unchanged : goal.returns-in-Err-settle-clause-unchanged
returns-in-Err-settle-clause-unchanged g c old found =
    let end = c.settle.new.self in
    leaves_as g.D.Disk (files_in end) (c.close-in-Err-settle.result.log, c.close-in-Err-settle.result.db) (λ was bytes. bytes ≡ was) (bytes_in c.see_expected.new.file) old c.close-in-Err-settle.ensures
    (λ clean. let seen = c.settle.ensures.keeps.stays.clean clean in
    c.see_expected.ensures.same_bytes ∙ c.in-Ok.ensures.one (c.see_expected.ensures.keeps.stays.clean seen) old found) c.settle.ensures.crash

pub returns-in-Err-settle-clause-refused : goal.returns-in-Err-settle-clause-refused
returns-in-Err-settle-clause-refused g c clean old found = record { cause = tt; others = λ told. absurd told }

-- ---- the file alone has it

pub returns-clause-one : goal.returns-clause-one
returns-clause-one g c honest old found =
    let seen = c.settle.ensures.keeps.stays.clean honest in
    c.settle.ensures.bytes c.in_default-settle.ensures.ready honest ∙ c.see_expected.ensures.same_bytes ∙ c.in-Ok.ensures.one (c.see_expected.ensures.keeps.stays.clean seen) old found

pub returns-clause-expected : goal.returns-clause-expected
returns-clause-expected g c honest =
    let image = seen_image g.D.Disk c.args.files.log c.args.files.db in
    let seen = c.settle.ensures.keeps.stays.clean honest in
    let must = c.requires.own (c.in-Ok.ensures.clean (c.see_expected.ensures.keeps.stays.clean seen)) in
    subst (λ (bytes : List ℕ). IsExpected c.args.expected image bytes) (sym (c.settle.ensures.bytes c.in_default-settle.ensures.ready honest ∙ c.see_expected.ensures.same_bytes)) (c.in_default.ensures.expected seen image must)

pub returns-clause-alone : goal.returns-clause-alone
returns-clause-alone g c =
    let end = c.settle.new.self in
    alone_when g.D.Disk (files_in end) (files_in end) (λ bytes. bytes ≡ bytes_in c.see_expected.new.file) (λ bytes. bytes ≡ bytes_in end) refl
    (λ clean bytes is. is ∙ sym (c.settle.ensures.bytes c.in_default-settle.ensures.ready clean)) c.in_default-settle.ensures.alone

pub returns-clause-crash : goal.returns-clause-crash
returns-clause-crash g c =
    let end = c.settle.new.self in
    leaves_when g.D.Disk (files_in end) (files_in end) (λ bytes. bytes ≡ bytes_in c.see_expected.new.file) (λ bytes. bytes ≡ bytes_in end) refl
    (λ clean bytes is. is ∙ sym (c.settle.ensures.bytes c.in_default-settle.ensures.ready clean)) c.settle.ensures.crash

pub returns-clause-clean : goal.returns-clause-clean
returns-clause-clean g c honest = c.in-Ok.ensures.clean (c.see_expected.ensures.keeps.stays.clean (c.settle.ensures.keeps.stays.clean honest))
