use Rattle.std.proofs.Common.{◌≡◌, ◌/◌, ℕ, List, length, ◌∙◌, ap, subst, inl, inr}
use Rattle.exh_commit.specs.Change.{IsChanged, IsOldOrChanged, MayChange}
use Rattle.exh_commit.specs.FilePages.{Leaves}
use Rattle.exh_commit.specs.PagedFile.{IsOldOrEdited, bytes_in, files_in}
use Rattle.exh_commit.proofs.ChangeLemmas.{alone_more, changed, commit_cause, known_gives, leaves_more}
use Rattle.exh_commit.proofs.KnownLemmas.{counted_blocks, honest}
use Rattle.exh_commit.proofs.ImageLemmas.{ready_leaves}
use Rattle.exh_commit.proofs.paged_file.PagedFile.change.Goals as goal

-- ---- the changer refused

pub returns-in-Err-clause-unchanged : goal.returns-in-Err-clause-unchanged
returns-in-Err-clause-unchanged g c unchanged =
    let mid = c.ask-made.result.1 in
    ready_leaves mid.pager (λ bytes. bytes ≡ bytes_in c.args.self) (c.ask-made.ensures.ready ∙ c.requires) mid.sized mid.seen g.met.D.Disk.seen_may_stay (λ is_open. c.ask-made.ensures.bytes)

pub returns-in-Err-clause-crash : goal.returns-in-Err-clause-crash
returns-in-Err-clause-crash g c =
    let mid = c.ask-made.result.1 in
    ready_leaves mid.pager (IsOldOrChanged g.D.Truthful.is_truthful (g.C.Changer.allows c.args.changer.now) (bytes_in c.args.self)) (c.ask-made.ensures.ready ∙ c.requires) mid.sized mid.seen g.met.D.Disk.seen_may_stay (λ is_open. inl c.ask-made.ensures.bytes)

pub returns-in-Err-clause-cause : goal.returns-in-Err-clause-cause
returns-in-Err-clause-cause g c truth =
    let refused = rw c.in-Err.is at c.ask-made.ensures.refused in
    known_gives g.D.Truthful.is_truthful c.args.self (λ bytes. g.C.Changer.refuses c.args.changer.now bytes c.in-Err.fault) truth c.requires refused

-- ---- the edits weren't committed

pub returns-in-Err-commit-clause-cause : goal.returns-in-Err-commit-clause-cause
returns-in-Err-commit-clause-cause g c truth =
    let mid = c.ask-made.result.1 in
    let Allows = g.C.Changer.allows c.args.changer.now in
    let made = c.in-Ok.made in
    let allowed = known_gives g.D.Truthful.is_truthful c.args.self (λ bytes. Allows bytes made.0 made.1.items) truth c.requires (rw c.in-Ok.is at c.ask-made.ensures.made) in
    let counted = counted_blocks mid (c.ask-made.ensures.ready ∙ c.requires) (honest mid (g.met.D.Truthful.tells_truth truth)) ∙ ap (λ (bytes : List ℕ). length bytes / 4096) c.ask-made.ensures.bytes in
    commit_cause Allows (g.C.Changer.refuses c.args.changer.now) (bytes_in c.args.self) made.0 made.1.items c.deref.result.now mid.pager.count c.in-Err-commit.fault allowed c.deref.ensures.value counted c.in-Err-commit.ensures.cause

pub returns-in-Err-commit-clause-unchanged : goal.returns-in-Err-commit-clause-unchanged
returns-in-Err-commit-clause-unchanged g c unchanged =
    subst (λ old. Leaves g.D.Disk (files_in c.commit.new.self) (λ bytes. bytes ≡ old)) c.ask-made.ensures.bytes (c.in-Err-commit.ensures.unsaved unchanged)

pub returns-in-Err-commit-clause-crash : goal.returns-in-Err-commit-clause-crash
returns-in-Err-commit-clause-crash g c =
    let mid = c.ask-made.result.1 in
    let Allows = g.C.Changer.allows c.args.changer.now in
    let allowed = rw c.in-Ok.is at c.ask-made.ensures.made in
    leaves_more g.D.Disk (files_in c.commit.new.self) (IsOldOrEdited c.deref.result.now (bytes_in mid)) (IsOldOrChanged g.D.Truthful.is_truthful Allows (bytes_in c.args.self))
    (λ clean bytes. elim [
      | inl same ↦ inl (same ∙ c.ask-made.ensures.bytes)
      | inr is ↦ inr (c.in-Ok.made.0, changed g.D.Truthful.is_truthful Allows c.args.self mid c.in-Ok.made.0 c.in-Ok.made.1.items c.deref.result.now bytes c.requires allowed c.deref.ensures.value c.ask-made.ensures.bytes is)
    ])
    c.commit.ensures.crash

-- ---- the edits are committed

pub returns-in-Err-settle-clause-saved : goal.returns-in-Err-settle-clause-saved
returns-in-Err-settle-clause-saved g c saved =
    let mid = c.ask-made.result.1 in
    let Allows = g.C.Changer.allows c.args.changer.now in
    let allowed = rw c.in-Ok.is at c.ask-made.ensures.made in
    leaves_more g.D.Disk (files_in c.settle.new.self) (λ bytes. bytes ≡ bytes_in c.commit.new.self) (MayChange g.D.Truthful.is_truthful Allows (bytes_in c.args.self))
    (λ clean bytes is. (
      c.in-Ok.made.0,
      changed g.D.Truthful.is_truthful Allows c.args.self mid c.in-Ok.made.0 c.in-Ok.made.1.items c.deref.result.now bytes c.requires allowed c.deref.ensures.value c.ask-made.ensures.bytes
          (is ∙ c.in_default.ensures.ok (c.settle.ensures.keeps.stays.clean clean)),
    ))
    c.settle.ensures.crash

pub returns-in-Err-settle-clause-crash : goal.returns-in-Err-settle-clause-crash
returns-in-Err-settle-clause-crash g c =
    leaves_more g.D.Disk (files_in c.settle.new.self) (MayChange g.D.Truthful.is_truthful (g.C.Changer.allows c.args.changer.now) (bytes_in c.args.self)) (IsOldOrChanged g.D.Truthful.is_truthful (g.C.Changer.allows c.args.changer.now) (bytes_in c.args.self))
    (λ clean bytes is. inr is) (returns-in-Err-settle-clause-saved g c tt)

pub returns-clause-alone : goal.returns-clause-alone
returns-clause-alone g c =
    let mid = c.ask-made.result.1 in
    let Allows = g.C.Changer.allows c.args.changer.now in
    let allowed = rw c.in-Ok.is at c.ask-made.ensures.made in
    alone_more g.D.Disk (files_in c.settle.new.self) (λ bytes. bytes ≡ bytes_in c.commit.new.self) (IsChanged g.D.Truthful.is_truthful Allows c.in-Ok.made.0 (bytes_in c.args.self))
    (λ clean bytes is. changed g.D.Truthful.is_truthful Allows c.args.self mid c.in-Ok.made.0 c.in-Ok.made.1.items c.deref.result.now bytes c.requires allowed c.deref.ensures.value c.ask-made.ensures.bytes
    (is ∙ c.in_default.ensures.ok (c.settle.ensures.keeps.stays.clean clean)))
    c.in_default-settle.ensures.alone

pub returns-clause-crash : goal.returns-clause-crash
returns-clause-crash g c =
    let mid = c.ask-made.result.1 in
    let Allows = g.C.Changer.allows c.args.changer.now in
    let allowed = rw c.in-Ok.is at c.ask-made.ensures.made in
    leaves_more g.D.Disk (files_in c.settle.new.self) (λ bytes. bytes ≡ bytes_in c.commit.new.self) (IsOldOrChanged g.D.Truthful.is_truthful Allows (bytes_in c.args.self))
    (λ clean bytes is. inr (
      c.in-Ok.made.0,
      changed g.D.Truthful.is_truthful Allows c.args.self mid c.in-Ok.made.0 c.in-Ok.made.1.items c.deref.result.now bytes c.requires allowed c.deref.ensures.value c.ask-made.ensures.bytes
          (is ∙ c.in_default.ensures.ok (c.settle.ensures.keeps.stays.clean clean)),
    ))
    c.settle.ensures.crash
