use Rattle.std.proofs.Common.{◌≡◌, Result, Ok, Err, OnOk, subst, sym}
use Rattle.exh_map.specs.FilePages.{Leaves}
use Rattle.exh_map.specs.declared.store_error.StoreError.{StoreError}
use Rattle.exhash.specs.Commit.{IsOldOrCommitted}
use Rattle.exhash.proofs.CommitLemmas.{leaves_same, leaves_untouched}
use Rattle.exhash.proofs.disk_commit.commit_files.Goals as goal

on_ok : {P Q : Type 0} (result : Result (Unit {0}) StoreError) → (P → Q) → OnOk result P → OnOk result Q
on_ok (Ok done) then holds = then holds
on_ok (Err fault) then holds = tt

pub returns-in-Ok-clause-ok : goal.returns-in-Ok-clause-ok
returns-in-Ok-clause-ok g c = on_ok c.save_draft.result.0 (λ all whole has old stands. all whole c.args.stamps (c.in-Ok.ensures.draft whole has) old stands) c.save_draft.ensures.ok

pub returns-in-Ok-clause-places : goal.returns-in-Ok-clause-places
returns-in-Ok-clause-places g c = on_ok c.save_draft.result.0 (λ all old stands. all c.args.lows.now c.in-Ok.ensures.places old stands) c.save_draft.ensures.places

pub returns-in-Ok-clause-crash : goal.returns-in-Ok-clause-crash
returns-in-Ok-clause-crash g c whole has old stands = c.save_draft.ensures.crash whole c.args.stamps (c.in-Ok.ensures.draft whole has) old stands

pub returns-in-Err-clause-crash : goal.returns-in-Err-clause-crash
returns-in-Err-clause-crash g c whole has old stands =
    subst (λ (pair : _ × _). Leaves g.D.Disk pair (IsOldOrCommitted g.D.Truthful.is_truthful whole c.args.stamps old)) (sym c.into_files.ensures)
    (leaves_untouched g.D.Disk c.args.files.log c.args.files.db g.D.Truthful.is_truthful whole c.args.stamps old c.requires.log_synced c.requires.db_synced stands)

pub returns-in-Ok-clause-opened : goal.returns-in-Ok-clause-opened
returns-in-Ok-clause-opened g c = c.save_draft.ensures.opened

pub returns-in-Ok-clause-unchanged : goal.returns-in-Ok-clause-unchanged
returns-in-Ok-clause-unchanged g c = c.save_draft.ensures.unchanged

pub returns-in-Err-clause-unchanged : goal.returns-in-Err-clause-unchanged
returns-in-Err-clause-unchanged g c sure old stands =
    subst (λ (pair : _ × _). Leaves g.D.Disk pair (λ bytes. bytes ≡ old)) (sym c.into_files.ensures)
    (leaves_same g.D.Disk c.args.files.log c.args.files.db old c.requires.log_synced c.requires.db_synced stands)
