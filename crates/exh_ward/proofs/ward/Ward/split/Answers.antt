use Rattle.std.proofs.Common.{IfOk, OnErr, sym, subst}
use Rattle.std.proofs.lemmas.Result.{IfOk-from_err}
use Rattle.exh_ward.specs.SplitStep.{IsHalved, IsSplitStep}
use Rattle.exh_ward.specs.WardFault.{IsStoreFault, SplitRefused, CountsFailures}
use Rattle.exh_ward.specs.WardState.{IsUnchanged, WardState}
use Rattle.exh_ward.proofs.ChangesAreTold.{refused_so, stored_refuses}
use Rattle.exh_ward.proofs.Exits.{counted_as, on_err}
use Rattle.exh_ward.proofs.HalvesOfPages.{failed_with}
use Rattle.exh_ward.proofs.ward.Ward.split.Goals as goal

pub halve-requires : goal.halve-requires
halve-requires g c =
    let P : WardState g.row.K.Denot → Type 0 = λ w. IsHalved w c.args.page c.in_ok-prefix.prefix in
    subst P (sym c.in_ok-prefix.ensures.ok) c.in_ok-prefix.ensures.halved

pub returns-clause-ok : goal.returns-clause-ok
returns-clause-ok g c =
    let P : WardState g.row.K.Denot → Type 0 = λ w. IfOk c.halve.result (λ notice. IsSplitStep w c.args.page notice c.halve.new.self) in
    subst P c.in_ok-prefix.ensures.ok c.halve.ensures.ok

pub returns-clause-refused : goal.returns-clause-refused
returns-clause-refused g c =
    refused_so c.halve.result IsStoreFault (SplitRefused c.args.self.now.cap c.args.self.now.pages c.args.page) c.halve.ensures.fault (stored_refuses _ _ _)

pub returns-clause-err : goal.returns-clause-err
returns-clause-err g c =
    let P : WardState g.row.K.Denot → Type 0 = λ w. OnErr c.halve.result (IsUnchanged w c.halve.new.self) in
    subst P c.in_ok-prefix.ensures.ok c.halve.ensures.err

pub returns-in_err-prefix-clause-ok : goal.returns-in_err-prefix-clause-ok
returns-in_err-prefix-clause-ok g c = IfOk-from_err c.from_residual.result _ c.from_residual.ensures.0

pub returns-in_err-prefix-clause-refused : goal.returns-in_err-prefix-clause-refused
returns-in_err-prefix-clause-refused g c =
    failed_with c.from_residual.result c.in_err-prefix.field-0.0 (SplitRefused c.args.self.now.cap c.args.self.now.pages c.args.page) c.from_residual.ensures.1 c.in_err-prefix.ensures.refused

pub returns-in_err-prefix-clause-err : goal.returns-in_err-prefix-clause-err
returns-in_err-prefix-clause-err g c = on_err c.from_residual.result c.in_err-prefix.ensures.err

pub returns-in_err-prefix-clause-failures : goal.returns-in_err-prefix-clause-failures
returns-in_err-prefix-clause-failures g c = counted_as c.from_residual.result c.in_err-prefix.field-0.0 _ _ c.from_residual.ensures.1 c.in_err-prefix.ensures.failures

pub returns-in_err-prefix-clause-sound : goal.returns-in_err-prefix-clause-sound
returns-in_err-prefix-clause-sound g c = c.prefix_to_halve.ensures.sound

pub returns-clause-failures : goal.returns-clause-failures
returns-clause-failures g c =
    let P : WardState g.row.K.Denot → Type 0 = λ w. CountsFailures c.halve.result w.failures c.halve.new.self.failures in
    subst P c.in_ok-prefix.ensures.ok c.halve.ensures.failures

pub returns-clause-sound : goal.returns-clause-sound
returns-clause-sound g c = c.halve.ensures.sound
