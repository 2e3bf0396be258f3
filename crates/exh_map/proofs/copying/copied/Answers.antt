use Rattle.std.proofs.Common.{ℕ, List, Result, Ok, Err, IfOk, sym, subst}
use Rattle.exh_in_place.specs.Opened.{OpenedState, in_file}
use Rattle.exh_in_place.specs.Reopened.{IsKept, IsReopened, OpensAs}
use Rattle.exh_map.specs.declared.store_error.StoreError.{StoreError}
use Rattle.exh_map.proofs.copying.copied.Goals as goal

reopened_if : (old : OpenedState) (bytes : List ℕ) (result : Result OpenedState StoreError) → IsKept old bytes → IfOk result (OpensAs bytes) → IfOk result (IsReopened old)
reopened_if old bytes (Ok opened) kept opens = kept.same opened opens
reopened_if old bytes (Err fault) kept opens = tt

pub returns-in-Ok-clause-copy : goal.returns-in-Ok-clause-copy
returns-in-Ok-clause-copy g c =
    let old = in_file c.args.settings c.args.wards.now in
    reopened_if old c.deref.result.now c.opened_of.result (subst (IsKept old) (sym c.deref.ensures.value) c.in-Ok.ensures.kept) c.opened_of.ensures.copy
