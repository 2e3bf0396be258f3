use Rattle.std.proofs.Common.{◌≡◌, refl, ◌∙◌, inr}
use Rattle.exh_commit.specs.BlockEdits.{with_edits}
use Rattle.exh_commit.specs.PagedFile.{IsOldOrEdited, bytes_in, files_in}
use Rattle.exh_paged.proofs.FilesLemmas.{alone_when, leaves_when}
use Rattle.exh_paged.proofs.saving.save_edits.Goals as goal

pub returns-in-Err-settle-clause-saved : goal.returns-in-Err-settle-clause-saved
returns-in-Err-settle-clause-saved g c saved =
    let end = c.settle.new.self in
    leaves_when g.D.Disk (files_in end) (files_in end) (λ bytes. bytes ≡ bytes_in c.commit.new.self) (λ bytes. bytes ≡ with_edits c.args.edits.now (bytes_in c.args.file)) refl
    (λ clean bytes is. is ∙ c.in_default.ensures.ok (c.settle.ensures.keeps.stays.clean clean)) c.settle.ensures.crash

pub returns-in-Err-settle-clause-crash : goal.returns-in-Err-settle-clause-crash
returns-in-Err-settle-clause-crash g c =
    let end = c.settle.new.self in
    leaves_when g.D.Disk (files_in end) (files_in end) (λ bytes. bytes ≡ bytes_in c.commit.new.self) (IsOldOrEdited c.args.edits.now (bytes_in c.args.file)) refl
    (λ clean bytes is. inr (is ∙ c.in_default.ensures.ok (c.settle.ensures.keeps.stays.clean clean))) c.settle.ensures.crash

pub returns-clause-alone : goal.returns-clause-alone
returns-clause-alone g c =
    let end = c.settle.new.self in
    alone_when g.D.Disk (files_in end) (files_in end) (λ bytes. bytes ≡ bytes_in c.commit.new.self) (λ bytes. bytes ≡ with_edits c.args.edits.now (bytes_in c.args.file)) refl
    (λ clean bytes is. is ∙ c.in_default.ensures.ok (c.settle.ensures.keeps.stays.clean clean)) c.in_default-settle.ensures.alone

pub returns-clause-crash : goal.returns-clause-crash
returns-clause-crash g c =
    let end = c.settle.new.self in
    leaves_when g.D.Disk (files_in end) (files_in end) (λ bytes. bytes ≡ bytes_in c.commit.new.self) (IsOldOrEdited c.args.edits.now (bytes_in c.args.file)) refl
    (λ clean bytes is. inr (is ∙ c.in_default.ensures.ok (c.settle.ensures.keeps.stays.clean clean))) c.settle.ensures.crash
