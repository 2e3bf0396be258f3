use Rattle.std.proofs.Common.{◌≡◌, ℕ, List, ◌∙◌, subst, inl, inr}
use Rattle.exh_commit.specs.BlockEdits.{with_edits}
use Rattle.exh_commit.specs.PagedFile.{IsOldOrEdited, bytes_in, files_in}
use Rattle.exh_paged.specs.declared.expected.Expected.TheVariants.{Stamp}
use Rattle.exh_paged.specs.OwnLog.{HasStamp}
use Rattle.exh_paged.specs.SaveFilesFault.{IsOfContent}
use Rattle.exh_paged.specs.Saving.{IsOldOrSaved, IsSavedOver}
use Rattle.exh_commit.proofs.KnownLemmas.{honest}
use Rattle.exh_paged.proofs.DraftLemmas.{known_gives, saved_over}
use Rattle.exh_paged.proofs.FilesLemmas.{alone_when, clean_as, leaves_as, leaves_more, leaves_when}
use Rattle.exh_paged.proofs.draft_saving.save_files.Goals as goal

-- ---- the file wasn't opened

pub returns-in-Err-clause-crash : goal.returns-in-Err-clause-crash
returns-in-Err-clause-crash g c old found =
    let back = c.in-Err.files in
    leaves_more g.D.Disk (back.log, back.db) (λ bytes. bytes ≡ old) (IsOldOrSaved g.D.Truthful.is_truthful c.args.draft old) (λ bytes same. inl same) (c.in-Err.ensures.unchanged old found)

pub returns-in-Err-clause-saved : goal.returns-in-Err-clause-saved
returns-in-Err-clause-saved g c saved = absurd (c.in-Err.ensures.unsaved saved)

pub returns-in-Err-clause-refused : goal.returns-in-Err-clause-refused
returns-in-Err-clause-refused g c clean old found = (c.in-Err.ensures.refused clean old found).cause

-- ---- no edits were made

pub returns-in-Err-made-clause-unchanged : goal.returns-in-Err-made-clause-unchanged
returns-in-Err-made-clause-unchanged g c unchanged old found =
    let end = c.edits_to-made.result.1 in
    leaves_as g.D.Disk (files_in end) (c.close.result.log, c.close.result.db) (λ was bytes. bytes ≡ was) (bytes_in c.in-Ok.file) old c.close.ensures
    (λ clean. c.in-Ok.ensures.one (c.edits_to-made.ensures.honest clean) old found) c.edits_to-made.ensures.crash

pub returns-in-Err-made-clause-crash : goal.returns-in-Err-made-clause-crash
returns-in-Err-made-clause-crash g c old found =
    let end = c.edits_to-made.result.1 in
    leaves_when g.D.Disk (files_in end) (c.close.result.log, c.close.result.db) (λ bytes. bytes ≡ (bytes_in c.in-Ok.file)) (IsOldOrSaved g.D.Truthful.is_truthful c.args.draft old) c.close.ensures
    (λ clean bytes same. inl (same ∙ (c.in-Ok.ensures.one (c.edits_to-made.ensures.honest clean) old found))) c.edits_to-made.ensures.crash

pub returns-in-Err-made-clause-saved : goal.returns-in-Err-made-clause-saved
returns-in-Err-made-clause-saved g c saved = absurd ((rw c.in-Err-made.is at c.edits_to-made.ensures.unsaved) saved)

pub returns-in-Err-made-clause-refused : goal.returns-in-Err-made-clause-refused
returns-in-Err-made-clause-refused g c clean old found =
    rw c.in-Err-made.is at c.edits_to-made.ensures.refused c.args.stamp old

pub returns-in-Err-made-clause-content : goal.returns-in-Err-made-clause-content
returns-in-Err-made-clause-content g c truth old found =
    let it = c.in-Ok.file in
    let content = rw c.in-Err-made.is at c.edits_to-made.ensures.content in
    subst (λ (bytes : List ℕ). IsOfContent c.args.draft bytes c.in-Err-made.fault) (c.in-Ok.ensures.one (honest it (g.met.D.Truthful.tells_truth truth)) old found)
    (known_gives g.D.Truthful.is_truthful it (λ bytes. IsOfContent c.args.draft bytes c.in-Err-made.fault) truth c.in-Ok.ensures.ready content)

-- ---- the edits are saved

pub returns-in-Ok-saved-clause-crash : goal.returns-in-Ok-saved-clause-crash
returns-in-Ok-saved-clause-crash g c old found =
    let it = c.in-Ok.file in
    let mid = c.edits_to-made.result.1 in
    let end = c.save_edits-saved.result.1 in
    let edits = c.in-Ok-made.edits.items in
    let passed = c.deref.result.now in
    let Over = IsSavedOver g.D.Truthful.is_truthful c.args.draft old in
    let made = rw c.in-Ok-made.is at c.edits_to-made.ensures.made in
    let legal = rw c.in-Ok-made.is at c.edits_to-made.ensures.legal in
    let ready = c.in-Ok.ensures.ready in
    leaves_when g.D.Disk (files_in end) (c.close-files.result.log, c.close-files.result.db) (IsOldOrEdited passed (bytes_in mid)) (IsOldOrSaved g.D.Truthful.is_truthful c.args.draft old) c.close-files.ensures
    (λ clean bytes. elim [
      | inl same ↦ inl (same ∙ c.edits_to-made.ensures.bytes ∙ c.in-Ok.ensures.one (c.edits_to-made.ensures.honest (c.save_edits-saved.ensures.honest clean)) old found)
      | inr is ↦ inr (saved_over g.D.Truthful.is_truthful c.args.draft it old (bytes_in mid) bytes found.count edits passed ready found.whole made legal c.deref.ensures.value
          (c.in-Ok.ensures.one (c.edits_to-made.ensures.honest (c.save_edits-saved.ensures.honest clean)) old found) c.edits_to-made.ensures.bytes is)
    ])
    c.save_edits-saved.ensures.crash

pub returns-in-Ok-saved-clause-ok : goal.returns-in-Ok-saved-clause-ok
returns-in-Ok-saved-clause-ok g c old found =
    let it = c.in-Ok.file in
    let mid = c.edits_to-made.result.1 in
    let end = c.save_edits-saved.result.1 in
    let edits = c.in-Ok-made.edits.items in
    let passed = c.deref.result.now in
    let Over = IsSavedOver g.D.Truthful.is_truthful c.args.draft old in
    let made = rw c.in-Ok-made.is at c.edits_to-made.ensures.made in
    let legal = rw c.in-Ok-made.is at c.edits_to-made.ensures.legal in
    let ready = c.in-Ok.ensures.ready in
    let alone = rw c.in-Ok-saved.is at c.save_edits-saved.ensures.alone in
    alone_when g.D.Disk (files_in end) (c.close-files.result.log, c.close-files.result.db) (λ bytes. bytes ≡ with_edits passed (bytes_in mid)) Over c.close-files.ensures
    (λ clean bytes is. saved_over g.D.Truthful.is_truthful c.args.draft it old (bytes_in mid) bytes found.count edits passed ready found.whole made legal c.deref.ensures.value
    (c.in-Ok.ensures.one (c.edits_to-made.ensures.honest (c.save_edits-saved.ensures.honest clean)) old found) c.edits_to-made.ensures.bytes is)
    alone

pub returns-in-Ok-saved-clause-opened : goal.returns-in-Ok-saved-clause-opened
returns-in-Ok-saved-clause-opened g c clean old found =
    let end = c.save_edits-saved.result.1 in
    let clean_end = c.edits_to-made.ensures.honest (c.save_edits-saved.ensures.honest (clean_as g.D.Disk (files_in end) (c.close-files.result.log, c.close-files.result.db) c.close-files.ensures clean)) in
    subst (λ (bytes : List ℕ). HasStamp c.args.stamp bytes) (c.in-Ok.ensures.one clean_end old found) (c.in-Ok.ensures.expected clean_end)

-- ---- they aren't, or may not be

pub returns-clause-crash : goal.returns-clause-crash
returns-clause-crash g c old found =
    let it = c.in-Ok.file in
    let mid = c.edits_to-made.result.1 in
    let end = c.save_edits-saved.result.1 in
    let edits = c.in-Ok-made.edits.items in
    let passed = c.deref.result.now in
    let Over = IsSavedOver g.D.Truthful.is_truthful c.args.draft old in
    let made = rw c.in-Ok-made.is at c.edits_to-made.ensures.made in
    let legal = rw c.in-Ok-made.is at c.edits_to-made.ensures.legal in
    let ready = c.in-Ok.ensures.ready in
    leaves_when g.D.Disk (files_in end) (c.close-files.result.log, c.close-files.result.db) (IsOldOrEdited passed (bytes_in mid)) (IsOldOrSaved g.D.Truthful.is_truthful c.args.draft old) c.close-files.ensures
    (λ clean bytes. elim [
      | inl same ↦ inl (same ∙ c.edits_to-made.ensures.bytes ∙ c.in-Ok.ensures.one (c.edits_to-made.ensures.honest (c.save_edits-saved.ensures.honest clean)) old found)
      | inr is ↦ inr (saved_over g.D.Truthful.is_truthful c.args.draft it old (bytes_in mid) bytes found.count edits passed ready found.whole made legal c.deref.ensures.value
          (c.in-Ok.ensures.one (c.edits_to-made.ensures.honest (c.save_edits-saved.ensures.honest clean)) old found) c.edits_to-made.ensures.bytes is)
    ])
    c.save_edits-saved.ensures.crash

pub returns-clause-unchanged : goal.returns-clause-unchanged
returns-clause-unchanged g c unchanged old found =
    let mid = c.edits_to-made.result.1 in
    let end = c.save_edits-saved.result.1 in
    let left = rw c.in-Err-saved.is at c.save_edits-saved.ensures.unchanged in
    leaves_as g.D.Disk (files_in end) (c.close-files.result.log, c.close-files.result.db) (λ was bytes. bytes ≡ was) (bytes_in mid) old c.close-files.ensures
    (λ clean. c.edits_to-made.ensures.bytes ∙ c.in-Ok.ensures.one (c.edits_to-made.ensures.honest (c.save_edits-saved.ensures.honest clean)) old found) (left unchanged)

pub returns-clause-saved : goal.returns-clause-saved
returns-clause-saved g c saved old found =
    let it = c.in-Ok.file in
    let mid = c.edits_to-made.result.1 in
    let end = c.save_edits-saved.result.1 in
    let edits = c.in-Ok-made.edits.items in
    let passed = c.deref.result.now in
    let Over = IsSavedOver g.D.Truthful.is_truthful c.args.draft old in
    let made = rw c.in-Ok-made.is at c.edits_to-made.ensures.made in
    let legal = rw c.in-Ok-made.is at c.edits_to-made.ensures.legal in
    let ready = c.in-Ok.ensures.ready in
    let left = rw c.in-Err-saved.is at c.save_edits-saved.ensures.saved in
    leaves_when g.D.Disk (files_in end) (c.close-files.result.log, c.close-files.result.db) (λ bytes. bytes ≡ with_edits passed (bytes_in mid)) Over c.close-files.ensures
    (λ clean bytes is. saved_over g.D.Truthful.is_truthful c.args.draft it old (bytes_in mid) bytes found.count edits passed ready found.whole made legal c.deref.ensures.value
    (c.in-Ok.ensures.one (c.edits_to-made.ensures.honest (c.save_edits-saved.ensures.honest clean)) old found) c.edits_to-made.ensures.bytes is)
    (left saved)

pub returns-clause-refused : goal.returns-clause-refused
returns-clause-refused g c clean old found =
    rw c.in-Err-saved.is at c.save_edits-saved.ensures.refused (Stamp c.args.stamp) old
