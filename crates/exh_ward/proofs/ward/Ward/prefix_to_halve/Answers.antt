use Rattle.std.proofs.Common.{refl, subst, ◌<◌}
use Rattle.std.proofs.lemmas.Result.{IfOk-from_err}
use Rattle.exh_ward.specs.SplitStep.{IsHalved}
use Rattle.exh_ward.specs.WardFault.{SplitRefused, fault_of_halves, fault_of}
use Rattle.exh_ward.specs.WardState.{WardState, IsSoundWard}
use Rattle.exh_ward.proofs.HalvesOfPages.{halved_in, refused_in, refused_as, failed_with}
use Rattle.exh_ward.proofs.StepsKeepSound.{kept_read}
use Rattle.exh_ward.proofs.Exits.{is_past, store_fault, on_err, unchanged_read, store_counted, halves_counted, same_read, same_failures}
use Rattle.exh_ward.proofs.ChangesAreTold.{stored_refuses}
use Rattle.exh_ward.proofs.ward.Ward.prefix_to_halve.Goals as goal

pub invariant_of-self : goal.invariant_of-self
invariant_of-self g c = kept_read c.self.invariant (g.P.Pages.takes c.head.new.self) c.head.ensures.takes (g.P.Pages.pages c.head.new.self) c.self.inside.journal.entries (g.P.Pages.failures c.head.new.self) c.head.ensures.pages refl

pub returns-in_err-head-clause-sound : goal.returns-in_err-head-clause-sound
returns-in_err-head-clause-sound g c = (invariant_of-self g c).sound

pub invariant_of-self-in_err-halved_prefix : goal.invariant_of-self-in_err-halved_prefix
invariant_of-self-in_err-halved_prefix g c = kept_read c.self.invariant (g.P.Pages.takes c.head.new.self) c.head.ensures.takes (g.P.Pages.pages c.head.new.self) c.self.inside.journal.entries (g.P.Pages.failures c.head.new.self) c.head.ensures.pages refl

pub returns-in_err-halved_prefix-clause-refused : goal.returns-in_err-halved_prefix-clause-refused
returns-in_err-halved_prefix-clause-refused g c =
    let refused = refused_in c.in_err-halved_prefix.field-0.0 c.self.inside.cap _ c.args.page _ c.in_ok-head.ensures.head c.in_err-halved_prefix.ensures.err in
    let P : WardState g.row.K.Denot → Type 0 = λ w. SplitRefused w.cap w.pages c.args.page (fault_of_halves c.in_err-halved_prefix.field-0.0) in
    let now = subst P c.self.view_is refused in
    refused_as c.from_residual-in_err-halved_prefix.result c.in_err-halved_prefix.field-0.0 (SplitRefused c.args.self.now.cap c.args.self.now.pages c.args.page) c.from_residual-in_err-halved_prefix.ensures.1 now

pub returns-in_err-halved_prefix-clause-sound : goal.returns-in_err-halved_prefix-clause-sound
returns-in_err-halved_prefix-clause-sound g c = (invariant_of-self-in_err-halved_prefix g c).sound

pub invariant_of-self-2 : goal.invariant_of-self-2
invariant_of-self-2 g c = kept_read c.self.invariant (g.P.Pages.takes c.head.new.self) c.head.ensures.takes (g.P.Pages.pages c.head.new.self) c.self.inside.journal.entries (g.P.Pages.failures c.head.new.self) c.head.ensures.pages refl

pub returns-clause-sound : goal.returns-clause-sound
returns-clause-sound g c = (invariant_of-self-2 g c).sound

pub returns-clause-halved : goal.returns-clause-halved
returns-clause-halved g c =
    let P : WardState g.row.K.Denot → Type 0 = λ w. IsHalved w c.args.page c.in_ok-halved_prefix.field-0 in
    subst P c.self.view_is (halved_in c.args.page _ _ c.in_ok-head.ensures.head c.in_ok-halved_prefix.ensures.ok)

pub returns-then-page-count-clause-halved : goal.returns-then-page-count-clause-halved
returns-then-page-count-clause-halved g c = tt

pub returns-then-page-count-clause-ok : goal.returns-then-page-count-clause-ok
returns-then-page-count-clause-ok g c = tt

pub returns-then-page-count-clause-err : goal.returns-then-page-count-clause-err
returns-then-page-count-clause-err g c = refl

pub returns-then-page-count-clause-failures : goal.returns-then-page-count-clause-failures
returns-then-page-count-clause-failures g c = refl

pub returns-then-page-count-clause-sound : goal.returns-then-page-count-clause-sound
returns-then-page-count-clause-sound g c =
    let P : WardState g.row.K.Denot → Type 0 = λ w. IsSoundWard g.K.Keyer.pseudokey_of w in
    subst P c.self.view_is c.self.invariant.sound

pub returns-then-page-count-clause-refused : goal.returns-then-page-count-clause-refused
returns-then-page-count-clause-refused g c = is_past c.self.view_is c.count.ensures c.if-page-count.true

pub head-requires : goal.head-requires
head-requires g c = subst (λ n. c.args.page < n) c.count.ensures c.if-page-count.false

pub returns-in_err-head-clause-halved : goal.returns-in_err-head-clause-halved
returns-in_err-head-clause-halved g c = IfOk-from_err c.from_residual.result _ c.from_residual.ensures.0

pub returns-in_err-head-clause-ok : goal.returns-in_err-head-clause-ok
returns-in_err-head-clause-ok g c = IfOk-from_err c.from_residual.result _ c.from_residual.ensures.0

pub returns-in_err-head-clause-refused : goal.returns-in_err-head-clause-refused
returns-in_err-head-clause-refused g c =
    let fault = c.in_err-head.field-0.0 in
    failed_with c.from_residual.result (fault_of fault) (SplitRefused c.args.self.now.cap c.args.self.now.pages c.args.page) c.from_residual.ensures.1 (stored_refuses c.args.self.now.cap c.args.self.now.pages c.args.page (fault_of fault) (store_fault fault))

pub returns-in_err-head-clause-err : goal.returns-in_err-head-clause-err
returns-in_err-head-clause-err g c = on_err c.from_residual.result (unchanged_read c.self.view_is (g.P.Pages.pages c.head.new.self) (g.P.Pages.failures c.head.new.self) c.head.ensures.pages)

pub returns-in_err-head-clause-failures : goal.returns-in_err-head-clause-failures
returns-in_err-head-clause-failures g c = store_counted c.self.view_is c.from_residual.result c.in_err-head.field-0.0 (g.P.Pages.failures c.self.inside.store) (g.P.Pages.failures c.head.new.self) refl c.from_residual.ensures.1 c.in_err-head.ensures.failures

pub returns-in_err-halved_prefix-clause-halved : goal.returns-in_err-halved_prefix-clause-halved
returns-in_err-halved_prefix-clause-halved g c = IfOk-from_err c.from_residual-in_err-halved_prefix.result _ c.from_residual-in_err-halved_prefix.ensures.0

pub returns-in_err-halved_prefix-clause-ok : goal.returns-in_err-halved_prefix-clause-ok
returns-in_err-halved_prefix-clause-ok g c = IfOk-from_err c.from_residual-in_err-halved_prefix.result _ c.from_residual-in_err-halved_prefix.ensures.0

pub returns-in_err-halved_prefix-clause-err : goal.returns-in_err-halved_prefix-clause-err
returns-in_err-halved_prefix-clause-err g c = on_err c.from_residual-in_err-halved_prefix.result (unchanged_read c.self.view_is (g.P.Pages.pages c.head.new.self) (g.P.Pages.failures c.head.new.self) c.head.ensures.pages)

pub returns-in_err-halved_prefix-clause-failures : goal.returns-in_err-halved_prefix-clause-failures
returns-in_err-halved_prefix-clause-failures g c =
    halves_counted c.self.view_is c.from_residual-in_err-halved_prefix.result c.in_err-halved_prefix.field-0.0 _ c.in_ok-head.ensures.failures c.from_residual-in_err-halved_prefix.ensures.1

pub returns-clause-refused : goal.returns-clause-refused
returns-clause-refused g c = tt

pub returns-clause-err : goal.returns-clause-err
returns-clause-err g c = tt

pub returns-clause-ok : goal.returns-clause-ok
returns-clause-ok g c = same_read c.self.view_is (g.P.Pages.pages c.head.new.self) (g.P.Pages.failures c.head.new.self) c.head.ensures.pages c.in_ok-head.ensures.failures

pub returns-clause-failures : goal.returns-clause-failures
returns-clause-failures g c = same_failures c.self.view_is (g.P.Pages.failures c.head.new.self) c.in_ok-head.ensures.failures
