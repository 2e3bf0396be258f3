use Rattle.std.proofs.Common.{◌≡◌, refl, sym, ◌∙◌, inl, inr}
use Rattle.sqlite_wal.proofs.StateLemmas.{clean_of, Keeps-refl, Keeps-trans, StaysOrFails-trans}
use Rattle.sqlite_pager.specs.Pager.{state}
use Rattle.exh_edits.specs.BlockEdits.{with_edits}
use Rattle.exh_commit.specs.PagedFile.{IsOldOrEdited, bytes_seen}
use Rattle.exh_commit.proofs.ImageLemmas.{commit_leaves, kept_leaves, ready_leaves, seen_once}
use Rattle.exh_commit.proofs.writing.commit_edits.Goals as goal

-- ---- the writes failed

pub returns-in-Err-clause-err : goal.returns-in-Err-clause-err
returns-in-Err-clause-err g c is_open =
    let old = c.args.pager.now in
    let new = c.rollback.new.self in
    let keeps = Keeps-trans (state old) (state c.write_all.new.pager) (state new) c.write_all.ensures.keeps c.rollback.ensures.keeps in
    let was = keeps.stays.was_open is_open in
    let fresh = c.rollback.ensures.clean (c.rollback.ensures.keeps.stays.was_open is_open) in
    seen_once old new was c.requires.size is_open (keeps.stays.size ∙ c.requires.size) (fresh.1 ∙ keeps.committed is_open ∙ sym (c.requires.seen was))

pub returns-in-Err-clause-unsaved : goal.returns-in-Err-clause-unsaved
returns-in-Err-clause-unsaved g c unsaved =
    let old = c.args.pager.now in
    let new = c.rollback.new.self in
    let keeps = Keeps-trans (state old) (state c.write_all.new.pager) (state new) c.write_all.ensures.keeps c.rollback.ensures.keeps in
    kept_leaves old new (λ bytes. bytes ≡ bytes_seen old) keeps c.requires.ready c.requires.size c.requires.seen g.met.D.Disk.seen_may_stay refl

pub returns-in-Err-clause-crash : goal.returns-in-Err-clause-crash
returns-in-Err-clause-crash g c =
    let old = c.args.pager.now in
    let new = c.rollback.new.self in
    let keeps = Keeps-trans (state old) (state c.write_all.new.pager) (state new) c.write_all.ensures.keeps c.rollback.ensures.keeps in
    kept_leaves old new (IsOldOrEdited c.args.edits.now (bytes_seen old)) keeps c.requires.ready c.requires.size c.requires.seen g.met.D.Disk.seen_may_stay (inl refl)

-- ---- the commit failed, and the pager may be used

pub returns-then-is_open-clause-err : goal.returns-then-is_open-clause-err
returns-then-is_open-clause-err g c is_open =
    let old = c.args.pager.now in
    let mid = c.write_all.new.pager in
    let done = c.commit.new.self in
    let new = c.rollback-in-Err-commit.new.self in
    let back = c.rollback-in-Err-commit.ensures in
    let there = back.keeps.stays.was_open is_open in
    let before = c.commit.ensures.crash.stays.was_open there in
    let was = c.write_all.ensures.keeps.stays.was_open before in
    let same : (state new).committed ≡ (state old).committed = back.keeps.committed is_open ∙ (c.in-Err-commit.ensures.err there ∙ c.write_all.ensures.keeps.committed before) in
    let size : (state new).page_size ≡ 4096 = back.keeps.stays.size ∙ (c.commit.ensures.crash.stays.size ∙ (c.write_all.ensures.keeps.stays.size ∙ c.requires.size)) in
    seen_once old new was c.requires.size is_open size ((back.clean there).1 ∙ same ∙ sym (c.requires.seen was))

pub returns-then-is_open-clause-unsaved : goal.returns-then-is_open-clause-unsaved
returns-then-is_open-clause-unsaved g c unsaved =
    let new = c.rollback-in-Err-commit.new.self in
    let back = c.rollback-in-Err-commit.ensures in
    let size : (state new).page_size ≡ 4096 = back.keeps.stays.size ∙ (c.commit.ensures.crash.stays.size ∙ (c.write_all.ensures.keeps.stays.size ∙ c.requires.size)) in
    let ready = sym c.is_open.ensures ∙ c.if-is_open.true in
    ready_leaves new (λ bytes. bytes ≡ bytes_seen c.args.pager.now) ready size (λ is_open. (back.clean (back.keeps.stays.was_open is_open)).1) g.met.D.Disk.seen_may_stay (λ is_open. returns-then-is_open-clause-err g c is_open)

pub returns-then-is_open-clause-crash : goal.returns-then-is_open-clause-crash
returns-then-is_open-clause-crash g c =
    let old = c.args.pager.now in
    commit_leaves old c.write_all.new.pager c.commit.new.self c.rollback-in-Err-commit.new.self (IsOldOrEdited c.args.edits.now (bytes_seen old))
    c.write_all.ensures.keeps c.commit.ensures.crash c.rollback-in-Err-commit.ensures.keeps c.requires.ready c.requires.size c.requires.seen g.met.D.Disk.seen_may_stay (inl refl) (λ is_open. inr (c.in_default.ensures.ok is_open))

-- ---- the commit failed, and the files have to be opened again

pub returns-in-Err-commit-clause-crash : goal.returns-in-Err-commit-clause-crash
returns-in-Err-commit-clause-crash g c =
    let old = c.args.pager.now in
    commit_leaves old c.write_all.new.pager c.commit.new.self c.rollback-in-Err-commit.new.self (IsOldOrEdited c.args.edits.now (bytes_seen old))
    c.write_all.ensures.keeps c.commit.ensures.crash c.rollback-in-Err-commit.ensures.keeps c.requires.ready c.requires.size c.requires.seen g.met.D.Disk.seen_may_stay (inl refl) (λ is_open. inr (c.in_default.ensures.ok is_open))

pub returns-in-Err-commit-clause-stays : goal.returns-in-Err-commit-clause-stays
returns-in-Err-commit-clause-stays g c =
    let old = state c.args.pager.now in
    let mid = state c.write_all.new.pager in
    let done = state c.commit.new.self in
    let new = state c.rollback-in-Err-commit.new.self in
    StaysOrFails-trans old done new (StaysOrFails-trans old mid done c.write_all.ensures.keeps.stays c.commit.ensures.crash.stays) c.rollback-in-Err-commit.ensures.keeps.stays

-- ---- it was committed

pub returns-clause-crash : goal.returns-clause-crash
returns-clause-crash g c =
    let old = c.args.pager.now in
    let done = c.commit.new.self in
    commit_leaves old c.write_all.new.pager done done (IsOldOrEdited c.args.edits.now (bytes_seen old))
    c.write_all.ensures.keeps c.commit.ensures.crash (Keeps-refl (state done)) c.requires.ready c.requires.size c.requires.seen g.met.D.Disk.seen_may_stay (inl refl) (λ is_open. inr (c.in_default.ensures.ok is_open))

pub returns-clause-ok : goal.returns-clause-ok
returns-clause-ok g c is_open =
    let mid = c.write_all.new.pager in
    let done = c.commit.new.self in
    let before = c.commit.ensures.crash.stays.was_open is_open in
    let size : (state mid).page_size ≡ 4096 = c.write_all.ensures.keeps.stays.size ∙ c.requires.size in
    seen_once mid done before size is_open (c.commit.ensures.crash.stays.size ∙ size) (c.commit.ensures.pages is_open) ∙ c.in_default.ensures.ok before

pub returns-clause-saved : goal.returns-clause-saved
returns-clause-saved g c =
    let done = c.commit.new.self in
    let e = c.in_default-commit.ensures in
    let size : (state done).page_size ≡ 4096 = c.commit.ensures.crash.stays.size ∙ (c.write_all.ensures.keeps.stays.size ∙ c.requires.size) in
    ready_leaves done (λ bytes. bytes ≡ with_edits c.args.edits.now (bytes_seen c.args.pager.now)) e.ready size (λ is_open. (e.clean (clean_of (state done) is_open)).1) g.met.D.Disk.seen_may_stay (returns-clause-ok g c)
