use Rattle.std.proofs.Common.{OnErr, refl, sym, subst}
use Rattle.std.proofs.lemmas.Result.{IfOk-from_err}
use Rattle.exh_notice.specs.declared.entry.Kind.TheVariants.{Merge}
use Rattle.exh_legal.specs.ChangeNumbers.{next_notice}
use Rattle.exh_ward.specs.MergeStep.{FitTogether, IsMergeStep}
use Rattle.exh_ward.specs.Told.{MayChange}
use Rattle.exh_ward.specs.WardFault.{CountsFailures, IsTellingFault, MergeRefused}
use Rattle.exh_ward.specs.WardState.{IsUnchanged, WardState}
use Rattle.exh_ward.proofs.ChangesAreTold.{refused_so, told_as}
use Rattle.exh_ward.proofs.Exits.{counted_as, on_err}
use Rattle.exh_ward.proofs.HalvesOfPages.{failed_with}
use Rattle.exh_ward.proofs.MergesAreSteps.{merge_step, telling_refuses}
use Rattle.exh_ward.proofs.ward.Ward.merge.Goals as goal

pub returns-in_err-parent-clause-ok : goal.returns-in_err-parent-clause-ok
returns-in_err-parent-clause-ok g c = IfOk-from_err c.from_residual.result _ c.from_residual.ensures.0

pub returns-in_err-parent-clause-refused : goal.returns-in_err-parent-clause-refused
returns-in_err-parent-clause-refused g c =
    failed_with c.from_residual.result c.in_err-parent.field-0.0 (MergeRefused c.args.self.now c.args.page) c.from_residual.ensures.1 c.in_err-parent.ensures.refused

pub returns-in_err-parent-clause-err : goal.returns-in_err-parent-clause-err
returns-in_err-parent-clause-err g c = on_err c.from_residual.result c.in_err-parent.ensures.err

pub returns-in_err-parent-clause-failures : goal.returns-in_err-parent-clause-failures
returns-in_err-parent-clause-failures g c = counted_as c.from_residual.result c.in_err-parent.field-0.0 _ _ c.from_residual.ensures.1 c.in_err-parent.ensures.failures

pub returns-in_err-parent-clause-sound : goal.returns-in_err-parent-clause-sound
returns-in_err-parent-clause-sound g c = c.fitting_buddy.ensures.sound

pub change_two-requires : goal.change_two-requires
change_two-requires g c =
    let P : WardState g.row.K.Denot → Type 0 = λ w. MayChange (g.K.Keyer.pseudokey_of w.keyer) w c.args.page c.in_ok-parent.right c.in_ok-parent.parent Merge in
    subst P (sym c.in_ok-parent.ensures.ok) c.in_ok-parent.ensures.may

pub returns-clause-ok : goal.returns-clause-ok
returns-clause-ok g c =
    let F : WardState g.row.K.Denot → Type 0 = λ w. FitTogether w c.args.page c.in_ok-parent.parent c.in_ok-parent.right in
    let fit = subst F (sym c.in_ok-parent.ensures.ok) c.in_ok-parent.ensures.fit in
    let w = c.fitting_buddy.new.self in
    let notice = next_notice w.number w.table c.in_ok-parent.parent Merge in
    let after = c.change_two.new.self in
    let P : WardState g.row.K.Denot → Type 0 = λ old. IsMergeStep old c.args.page notice after in
    told_as c.change_two.result notice (λ notice. IsMergeStep c.args.self.now c.args.page notice after) _ c.change_two.ensures.notice c.change_two.ensures.ok
    (λ told. subst P c.in_ok-parent.ensures.ok (merge_step fit c.fitting_buddy.ensures.sound (g.met.K.Keyer.pseudokey_fits _) c.merges_keep_legal.ensures notice refl after (told _ fit.left.there _ fit.buddy)))

pub returns-clause-refused : goal.returns-clause-refused
returns-clause-refused g c =
    let F : WardState g.row.K.Denot → Type 0 = λ w. FitTogether w c.args.page c.in_ok-parent.parent c.in_ok-parent.right in
    let fit = subst F (sym c.in_ok-parent.ensures.ok) c.in_ok-parent.ensures.fit in
    refused_so c.change_two.result (IsTellingFault c.fitting_buddy.new.self c.in_ok-parent.parent) (MergeRefused c.args.self.now c.args.page) c.change_two.ensures.fault (λ fault is_told.
    let P : WardState g.row.K.Denot → Type 0 = λ old. MergeRefused old c.args.page fault in
    subst P c.in_ok-parent.ensures.ok (telling_refuses fit fault is_told))

pub returns-clause-err : goal.returns-clause-err
returns-clause-err g c =
    let P : WardState g.row.K.Denot → Type 0 = λ w. OnErr c.change_two.result (IsUnchanged w c.change_two.new.self) in
    subst P c.in_ok-parent.ensures.ok c.change_two.ensures.err

pub returns-clause-failures : goal.returns-clause-failures
returns-clause-failures g c =
    let P : WardState g.row.K.Denot → Type 0 = λ w. CountsFailures c.change_two.result w.failures c.change_two.new.self.failures in
    subst P c.in_ok-parent.ensures.ok c.change_two.ensures.failures

pub returns-clause-sound : goal.returns-clause-sound
returns-clause-sound g c = c.change_two.ensures.sound
