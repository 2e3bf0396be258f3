use Rattle.std.proofs.Common.{refl, subst, ◌<◌}
use Rattle.std.proofs.lemmas.Result.{IfOk-from_err}
use Rattle.exh_stores.specs.PageStore.{HasHead}
use Rattle.exh_ward.specs.WardState.{WardState, IsSoundWard}
use Rattle.exh_ward.specs.WardFault.{PageRefused, fault_of}
use Rattle.exh_ward.proofs.StepsKeepSound.{kept_read}
use Rattle.exh_ward.proofs.Exits.{is_past, page_refused, on_err, unchanged_read, store_counted, same_read, same_failures}
use Rattle.exh_ward.proofs.HalvesOfPages.{failed_with}
use Rattle.exh_ward.proofs.ward.Ward.head.Goals as goal

pub invariant_of-self : goal.invariant_of-self
invariant_of-self g c = kept_read c.self.invariant (g.P.Pages.takes c.head.new.self) c.head.ensures.takes (g.P.Pages.pages c.head.new.self) c.self.inside.journal.entries (g.P.Pages.failures c.head.new.self) c.head.ensures.pages refl

pub returns-in_err-head-clause-sound : goal.returns-in_err-head-clause-sound
returns-in_err-head-clause-sound g c = (invariant_of-self g c).sound

pub invariant_of-self-2 : goal.invariant_of-self-2
invariant_of-self-2 g c = kept_read c.self.invariant (g.P.Pages.takes c.head.new.self) c.head.ensures.takes (g.P.Pages.pages c.head.new.self) c.self.inside.journal.entries (g.P.Pages.failures c.head.new.self) c.head.ensures.pages refl

pub returns-then-number-count-clause-head : goal.returns-then-number-count-clause-head
returns-then-number-count-clause-head g c = tt

pub returns-then-number-count-clause-ok : goal.returns-then-number-count-clause-ok
returns-then-number-count-clause-ok g c = tt

pub returns-then-number-count-clause-err : goal.returns-then-number-count-clause-err
returns-then-number-count-clause-err g c = refl

pub returns-then-number-count-clause-failures : goal.returns-then-number-count-clause-failures
returns-then-number-count-clause-failures g c = refl

pub returns-then-number-count-clause-sound : goal.returns-then-number-count-clause-sound
returns-then-number-count-clause-sound g c =
    let P : WardState g.row.K.Denot → Type 0 = λ w. IsSoundWard g.K.Keyer.pseudokey_of w in
    subst P c.self.view_is c.self.invariant.sound

pub returns-then-number-count-clause-refused : goal.returns-then-number-count-clause-refused
returns-then-number-count-clause-refused g c = is_past c.self.view_is c.count.ensures c.if-number-count.true

pub head-requires : goal.head-requires
head-requires g c = subst (λ n. c.args.number < n) c.count.ensures c.if-number-count.false

pub returns-in_err-head-clause-head : goal.returns-in_err-head-clause-head
returns-in_err-head-clause-head g c = IfOk-from_err c.from_residual.result _ c.from_residual.ensures.0

pub returns-in_err-head-clause-ok : goal.returns-in_err-head-clause-ok
returns-in_err-head-clause-ok g c = IfOk-from_err c.from_residual.result _ c.from_residual.ensures.0

pub returns-in_err-head-clause-refused : goal.returns-in_err-head-clause-refused
returns-in_err-head-clause-refused g c =
    let fault = c.in_err-head.field-0.0 in
    failed_with c.from_residual.result (fault_of fault) (PageRefused c.args.self.now.pages c.args.number) c.from_residual.ensures.1 (page_refused c.args.self.now.pages c.args.number fault)

pub returns-in_err-head-clause-err : goal.returns-in_err-head-clause-err
returns-in_err-head-clause-err g c = on_err c.from_residual.result (unchanged_read c.self.view_is (g.P.Pages.pages c.head.new.self) (g.P.Pages.failures c.head.new.self) c.head.ensures.pages)

pub returns-in_err-head-clause-failures : goal.returns-in_err-head-clause-failures
returns-in_err-head-clause-failures g c = store_counted c.self.view_is c.from_residual.result c.in_err-head.field-0.0 (g.P.Pages.failures c.self.inside.store) (g.P.Pages.failures c.head.new.self) refl c.from_residual.ensures.1 c.in_err-head.ensures.failures

pub returns-clause-refused : goal.returns-clause-refused
returns-clause-refused g c = tt

pub returns-clause-err : goal.returns-clause-err
returns-clause-err g c = tt

pub returns-clause-ok : goal.returns-clause-ok
returns-clause-ok g c = same_read c.self.view_is (g.P.Pages.pages c.head.new.self) (g.P.Pages.failures c.head.new.self) c.head.ensures.pages c.in_ok-head.ensures.failures

pub returns-clause-failures : goal.returns-clause-failures
returns-clause-failures g c = same_failures c.self.view_is (g.P.Pages.failures c.head.new.self) c.in_ok-head.ensures.failures

pub returns-clause-sound : goal.returns-clause-sound
returns-clause-sound g c = (invariant_of-self-2 g c).sound

pub returns-clause-head : goal.returns-clause-head
returns-clause-head g c =
    let P : WardState g.row.K.Denot → Type 0 = λ w. HasHead w.pages c.args.number c.in_ok-head.field-0 in
    subst P c.self.view_is c.in_ok-head.ensures.head
