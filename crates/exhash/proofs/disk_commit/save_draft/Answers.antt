use Rattle.std.proofs.Common.{ℕ, List, Result, OnOk, subst}
use Rattle.sqlite_wal.specs.Files.{seen_image}
use Rattle.sqlite_wal.specs.Reads.{AreClean}
use Rattle.exh_map.specs.FilePages.{LeavesAlone, StandsFor}
use Rattle.exhash.specs.OwnLog.{HasStamp}
use Rattle.exhash.specs.Saving.{IsSavedOver}
use Rattle.exh_map.specs.declared.SaveFilesFault.{SaveFilesFault}
use Rattle.exhash.proofs.CommitLemmas.{leaves_committed, leaves_either, leaves_places}
use Rattle.exhash.proofs.FaultLemmas.{unsaved_for}
use Rattle.exhash.proofs.disk_commit.save_draft.Goals as goal

pub returns-in-Ok-clause-crash : goal.returns-in-Ok-clause-crash
returns-in-Ok-clause-crash g c whole stamps of old stands =
    let back = c.save_files-saved.result.1 in
    leaves_either g.D.Truthful.is_truthful c.args.draft whole stamps old of g.D.Disk (back.log, back.db) (c.save_files-saved.ensures.crash old stands)

pub returns-in-Err-clause-crash : goal.returns-in-Err-clause-crash
returns-in-Err-clause-crash g c whole stamps of old stands =
    let back = c.save_files-saved.result.1 in
    leaves_either g.D.Truthful.is_truthful c.args.draft whole stamps old of g.D.Disk (back.log, back.db) (c.save_files-saved.ensures.crash old stands)

pub returns-in-Ok-clause-ok : goal.returns-in-Ok-clause-ok
returns-in-Ok-clause-ok g c whole stamps of old stands =
    let back = c.save_files-saved.result.1 in
    let all : (old : List ℕ) → StandsFor (seen_image g.D.Disk c.args.files.log c.args.files.db) old → LeavesAlone g.D.Disk (back.log, back.db) (IsSavedOver g.D.Truthful.is_truthful c.args.draft old) =
    subst (λ (saved : Result (Unit {0}) SaveFilesFault). OnOk saved ((old : List ℕ) → StandsFor (seen_image g.D.Disk c.args.files.log c.args.files.db) old → LeavesAlone g.D.Disk (back.log, back.db) (IsSavedOver g.D.Truthful.is_truthful c.args.draft old)))
    c.in-Ok.is c.save_files-saved.ensures.ok in
    leaves_committed g.D.Truthful.is_truthful c.args.draft whole stamps old of g.D.Disk (back.log, back.db) (all old stands)

pub returns-in-Ok-clause-places : goal.returns-in-Ok-clause-places
returns-in-Ok-clause-places g c lows of old stands =
    let back = c.save_files-saved.result.1 in
    let all : (old : List ℕ) → StandsFor (seen_image g.D.Disk c.args.files.log c.args.files.db) old → LeavesAlone g.D.Disk (back.log, back.db) (IsSavedOver g.D.Truthful.is_truthful c.args.draft old) =
    subst (λ (saved : Result (Unit {0}) SaveFilesFault). OnOk saved ((old : List ℕ) → StandsFor (seen_image g.D.Disk c.args.files.log c.args.files.db) old → LeavesAlone g.D.Disk (back.log, back.db) (IsSavedOver g.D.Truthful.is_truthful c.args.draft old)))
    c.in-Ok.is c.save_files-saved.ensures.ok in
    leaves_places g.D.Truthful.is_truthful c.args.draft lows old of g.D.Disk (back.log, back.db) (all old stands)

pub returns-in-Ok-clause-opened : goal.returns-in-Ok-clause-opened
returns-in-Ok-clause-opened g c =
    let back = c.save_files-saved.result.1 in
    subst (λ (saved : Result (Unit {0}) SaveFilesFault). OnOk saved (AreClean g.D.Disk back.log back.db → (old : List ℕ) → StandsFor (seen_image g.D.Disk c.args.files.log c.args.files.db) old → HasStamp c.args.stamp old))
    c.in-Ok.is c.save_files-saved.ensures.opened

pub returns-in-Err-clause-unchanged : goal.returns-in-Err-clause-unchanged
returns-in-Err-clause-unchanged g c sure old stands =
    let left = rw c.in-Err.is at c.save_files-saved.ensures.unchanged in
    left (unsaved_for c.in-Err.fault c.from.result c.from-in-Err.result c.from.ensures c.from-in-Err.ensures.2 sure) old stands
