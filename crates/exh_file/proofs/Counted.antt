-- Faults of a page out of reach that are handed on, behind which a store has counted.
use Rattle.std.proofs.Common.{◌≡◌, Result, Ok, Err, IfErr, refl}
use Rattle.std.specs.Prelude.{◌≢◌, IsErr, IsErrAnd}
use Rattle.exh_file.specs.DraftFault.{draft_fault_of}
use Rattle.exh_file.specs.declared.draft_fault.DraftFault.TheVariants.{Page}
use Rattle.exh_file.specs.declared.save_fault.SaveFault.{SaveFault}
use Rattle.exh_file.specs.declared.save_fault.SaveFault.TheVariants as save

-- a refusal that is handed on as another
pub handed_on : {T F : Type 0} (From To : F → Type 0) → ((fault : F) → From fault → To fault) → (result : Result T F) → IsErr result × IsErrAnd result From → IfErr result To
handed_on From To so (Ok value) is = absurd is.1
handed_on From To so (Err fault) is = so fault is.1

-- what becomes a page out of reach is one, or the writer's fault
pub reached : (fault : SaveFault) → draft_fault_of fault ≡ Page → fault ≢ save.Write → fault ≡ save.Page
reached save.Memory is differs = cc
reached save.Page is differs = refl
reached save.Write is differs = absurd (differs refl)
