use Rattle.std.proofs.Common.{Result, Ok, Err, IfOk}
use Rattle.exh_page.specs.KeyMap.{KeyMap}
use Rattle.exh_map.specs.Draft.{DraftState}
use Rattle.exh_map.specs.FileChange.{HasMap}
use Rattle.exh_map.specs.declared.Stamps.{Stamps}
use Rattle.exh_map.specs.Opened.{OpenedState}
use Rattle.exhash.specs.Commit.{Drafts}
use Rattle.exh_map.specs.FileMap.{KeepsMap}
use Rattle.exh_map.specs.declared.store_error.StoreError.{StoreError}
use Rattle.exhash.proofs.disk_commit.draft_of.Goals as goal

of_copy : (old copy : OpenedState) (stamps : Stamps) (result : Result DraftState StoreError) → KeepsMap old copy → IfOk result (λ draft. (whole : KeyMap) → HasMap copy whole → Drafts whole stamps draft) → IfOk result (λ draft. (whole : KeyMap) → HasMap old whole → Drafts whole stamps draft)
of_copy old copy stamps (Ok draft) same drafts = λ whole has. drafts whole (same whole has)
of_copy old copy stamps (Err fault) same drafts = tt

pub returns-in-Ok-clause-draft : goal.returns-in-Ok-clause-draft
returns-in-Ok-clause-draft g c = of_copy c.args.map.now c.in-Ok.copy c.args.stamps c.drafted.result c.in-Ok.ensures.same c.drafted.ensures.draft
