use Rattle.std.proofs.Common.{◌<◌, length, List, None, refl, sym, subst, arith, ◌∙◌}
use Rattle.std.proofs.lemmas.Result.{IfOk-from_err}
use Rattle.exh_page.specs.declared.page.Page.{Page}
use Rattle.exh_stores.specs.PageStore.{HasHead}
use Rattle.exh_ward.specs.BuddySum.{IsBuddySum}
use Rattle.exh_ward.specs.WardState.{WardState, IsSoundWard}
use Rattle.exh_ward.specs.WardFault.{fault_of, IsStoreFault}
use Rattle.exh_ward.proofs.BuddySums.{none_here, none_past, sum_is_told}
use Rattle.exh_ward.proofs.StepsKeepSound.{kept_read, takes_both}
use Rattle.exh_ward.proofs.MergesAreSteps.{few_counted, few_left, own_in_front, right_within, to_sibling}
use Rattle.exh_ward.proofs.Exits.{on_err, unchanged_read, store_fault, store_counted, same_read, same_failures}
use Rattle.exh_ward.proofs.HalvesOfPages.{failed_with}
use Rattle.exh_ward.proofs.ward.Ward.buddy_sum.Goals as goal

pub returns-then-page-count-clause-sum : goal.returns-then-page-count-clause-sum
returns-then-page-count-clause-sum g c =
    let P : WardState g.row.K.Denot → Type 0 = λ w. IsBuddySum w c.args.page None in
    subst P c.self.view_is (none_past c.self.invariant c.args.page (omega (arith, c.count.ensures, c.if-page-count.true)))

pub invariant_of-self : goal.invariant_of-self
invariant_of-self g c = kept_read c.self.invariant (g.P.Pages.takes c.head.new.self) c.head.ensures.takes (g.P.Pages.pages c.head.new.self) c.self.inside.journal.entries (g.P.Pages.failures c.head.new.self) c.head.ensures.pages refl

pub returns-in_err-head-clause-sound : goal.returns-in_err-head-clause-sound
returns-in_err-head-clause-sound g c = (invariant_of-self g c).sound

pub of-requires : goal.of-requires
of-requires g c = own_in_front c.self.invariant c.args.page c.in_ok-head.field-0 c.in_ok-head.ensures.head

pub invariant_of-self-in_default : goal.invariant_of-self-in_default
invariant_of-self-in_default g c = kept_read c.self.invariant (g.P.Pages.takes c.head.new.self) c.head.ensures.takes (g.P.Pages.pages c.head.new.self) c.self.inside.journal.entries (g.P.Pages.failures c.head.new.self) c.head.ensures.pages refl

pub returns-in_default-clause-sum : goal.returns-in_default-clause-sum
returns-in_default-clause-sum g c =
    let P : WardState g.row.K.Denot → Type 0 = λ w. IsBuddySum w c.args.page None in
    subst P c.self.view_is (none_here c.self.invariant c.args.page c.in_ok-head.ensures.head _ c.in_default.ensures.err)

pub head-requires-2 : goal.head-requires-2
head-requires-2 g c =
    let within = right_within c.self.invariant c.args.page c.in_ok-head.ensures.head c.in-Ok.ensures.ok c.left_children_link_to_siblings.ensures c.in-Some.is in
    let P : List Page → Type 0 = λ pages. c.in-Some.right < length pages in
    subst P (sym c.head.ensures.pages) within

pub invariant_of-self-in_err-head-2 : goal.invariant_of-self-in_err-head-2
invariant_of-self-in_err-head-2 g c =
    kept_read c.self.invariant (g.P.Pages.takes c.head-2.new.self) (takes_both {between = g.P.Pages.takes c.head.new.self} c.head.ensures.takes c.head-2.ensures.takes) (g.P.Pages.pages c.head-2.new.self) c.self.inside.journal.entries (g.P.Pages.failures c.head-2.new.self) (c.head-2.ensures.pages ∙ c.head.ensures.pages) refl

pub returns-in_err-head-2-clause-sound : goal.returns-in_err-head-2-clause-sound
returns-in_err-head-2-clause-sound g c = (invariant_of-self-in_err-head-2 g c).sound

pub sum_beside-requires-clause-few : goal.sum_beside-requires-clause-few
sum_beside-requires-clause-few g c = few_left c.self.invariant c.args.page c.in_ok-head.ensures.head c.in-Ok.ensures.ok

pub sum_beside-requires-clause-few_others : goal.sum_beside-requires-clause-few_others
sum_beside-requires-clause-few_others g c =
    let P : List Page → Type 0 = λ pages. HasHead pages c.in-Some.right c.in_ok-head-2.field-0 in
    few_counted c.self.invariant c.in-Some.right c.in_ok-head-2.field-0 (subst P c.head.ensures.pages c.in_ok-head-2.ensures.head)

pub invariant_of-self-2 : goal.invariant_of-self-2
invariant_of-self-2 g c =
    kept_read c.self.invariant (g.P.Pages.takes c.head-2.new.self) (takes_both {between = g.P.Pages.takes c.head.new.self} c.head.ensures.takes c.head-2.ensures.takes) (g.P.Pages.pages c.head-2.new.self) c.self.inside.journal.entries (g.P.Pages.failures c.head-2.new.self) (c.head-2.ensures.pages ∙ c.head.ensures.pages) refl

pub returns-clause-sum : goal.returns-clause-sum
returns-clause-sum g c =
    let L : List Page → Type 0 = λ pages. HasHead pages c.in-Some.right c.in_ok-head-2.field-0 in
    let buddy = subst L c.head.ensures.pages c.in_ok-head-2.ensures.head in
    let P : WardState g.row.K.Denot → Type 0 = λ w. IsBuddySum w c.args.page c.sum_beside.result in
    subst P c.self.view_is (sum_is_told c.self.invariant c.args.page c.in_ok-head.ensures.head c.in-Ok.ensures.ok c.left_children_link_to_siblings.ensures c.in-Some.is buddy c.sum_beside.result c.sum_beside.ensures)

pub returns-then-page-count-clause-fault : goal.returns-then-page-count-clause-fault
returns-then-page-count-clause-fault g c = tt

pub returns-then-page-count-clause-err : goal.returns-then-page-count-clause-err
returns-then-page-count-clause-err g c = tt

pub returns-then-page-count-clause-ok : goal.returns-then-page-count-clause-ok
returns-then-page-count-clause-ok g c = refl

pub returns-then-page-count-clause-failures : goal.returns-then-page-count-clause-failures
returns-then-page-count-clause-failures g c = refl

pub returns-then-page-count-clause-sound : goal.returns-then-page-count-clause-sound
returns-then-page-count-clause-sound g c =
    let P : WardState g.row.K.Denot → Type 0 = λ w. IsSoundWard g.K.Keyer.pseudokey_of w in
    subst P c.self.view_is c.self.invariant.sound

pub head-requires : goal.head-requires
head-requires g c = subst (λ n. c.args.page < n) c.count.ensures c.if-page-count.false

pub returns-in_err-head-clause-sum : goal.returns-in_err-head-clause-sum
returns-in_err-head-clause-sum g c = IfOk-from_err c.from_residual.result _ c.from_residual.ensures.0

pub returns-in_err-head-clause-ok : goal.returns-in_err-head-clause-ok
returns-in_err-head-clause-ok g c = IfOk-from_err c.from_residual.result _ c.from_residual.ensures.0

pub returns-in_err-head-clause-err : goal.returns-in_err-head-clause-err
returns-in_err-head-clause-err g c = on_err c.from_residual.result (unchanged_read c.self.view_is (g.P.Pages.pages c.head.new.self) (g.P.Pages.failures c.head.new.self) c.head.ensures.pages)

pub returns-in_err-head-clause-fault : goal.returns-in_err-head-clause-fault
returns-in_err-head-clause-fault g c = failed_with c.from_residual.result (fault_of c.in_err-head.field-0.0) IsStoreFault c.from_residual.ensures.1 (store_fault c.in_err-head.field-0.0)

pub returns-in_err-head-clause-failures : goal.returns-in_err-head-clause-failures
returns-in_err-head-clause-failures g c = store_counted c.self.view_is c.from_residual.result c.in_err-head.field-0.0 (g.P.Pages.failures c.self.inside.store) (g.P.Pages.failures c.head.new.self) refl c.from_residual.ensures.1 c.in_err-head.ensures.failures

pub returns-in_default-clause-fault : goal.returns-in_default-clause-fault
returns-in_default-clause-fault g c = tt

pub returns-in_default-clause-err : goal.returns-in_default-clause-err
returns-in_default-clause-err g c = tt

pub returns-in_default-clause-ok : goal.returns-in_default-clause-ok
returns-in_default-clause-ok g c = same_read c.self.view_is (g.P.Pages.pages c.head.new.self) (g.P.Pages.failures c.head.new.self) c.head.ensures.pages c.in_ok-head.ensures.failures

pub returns-in_default-clause-failures : goal.returns-in_default-clause-failures
returns-in_default-clause-failures g c = same_failures c.self.view_is (g.P.Pages.failures c.head.new.self) c.in_ok-head.ensures.failures

pub returns-in_default-clause-sound : goal.returns-in_default-clause-sound
returns-in_default-clause-sound g c = (invariant_of-self-in_default g c).sound

pub returns-in_err-head-2-clause-sum : goal.returns-in_err-head-2-clause-sum
returns-in_err-head-2-clause-sum g c = IfOk-from_err c.from_residual-in_err-head-2.result _ c.from_residual-in_err-head-2.ensures.0

pub returns-in_err-head-2-clause-ok : goal.returns-in_err-head-2-clause-ok
returns-in_err-head-2-clause-ok g c = IfOk-from_err c.from_residual-in_err-head-2.result _ c.from_residual-in_err-head-2.ensures.0

pub returns-in_err-head-2-clause-err : goal.returns-in_err-head-2-clause-err
returns-in_err-head-2-clause-err g c = on_err c.from_residual-in_err-head-2.result (unchanged_read c.self.view_is (g.P.Pages.pages c.head-2.new.self) (g.P.Pages.failures c.head-2.new.self) (c.head-2.ensures.pages ∙ c.head.ensures.pages))

pub returns-in_err-head-2-clause-fault : goal.returns-in_err-head-2-clause-fault
returns-in_err-head-2-clause-fault g c =
    let fault = c.in_err-head-2.field-0.0 in
    failed_with c.from_residual-in_err-head-2.result (fault_of fault) IsStoreFault c.from_residual-in_err-head-2.ensures.1 (store_fault fault)

pub returns-in_err-head-2-clause-failures : goal.returns-in_err-head-2-clause-failures
returns-in_err-head-2-clause-failures g c =
    store_counted c.self.view_is c.from_residual-in_err-head-2.result c.in_err-head-2.field-0.0 (g.P.Pages.failures c.head.new.self) (g.P.Pages.failures c.head-2.new.self) c.in_ok-head.ensures.failures c.from_residual-in_err-head-2.ensures.1 c.in_err-head-2.ensures.failures

pub sum_beside-requires-clause-short : goal.sum_beside-requires-clause-short
sum_beside-requires-clause-short g c = c.in-Ok.ensures.short

pub returns-clause-fault : goal.returns-clause-fault
returns-clause-fault g c = tt

pub returns-clause-err : goal.returns-clause-err
returns-clause-err g c = tt

pub returns-clause-ok : goal.returns-clause-ok
returns-clause-ok g c = same_read c.self.view_is (g.P.Pages.pages c.head-2.new.self) (g.P.Pages.failures c.head-2.new.self) (c.head-2.ensures.pages ∙ c.head.ensures.pages) (c.in_ok-head-2.ensures.failures ∙ c.in_ok-head.ensures.failures)

pub returns-clause-failures : goal.returns-clause-failures
returns-clause-failures g c = same_failures c.self.view_is (g.P.Pages.failures c.head-2.new.self) (c.in_ok-head-2.ensures.failures ∙ c.in_ok-head.ensures.failures)

pub returns-clause-sound : goal.returns-clause-sound
returns-clause-sound g c = (invariant_of-self-2 g c).sound

pub unreachable-requires : goal.unreachable-requires
unreachable-requires g c =
    let sibling = to_sibling c.self.invariant c.args.page c.in_ok-head.ensures.head c.in-Ok.ensures.ok c.left_children_link_to_siblings.ensures in
    c.in_default-right.not-Some _ sibling.link_is

pub unreachable-unreachable : goal.unreachable-unreachable
unreachable-unreachable g c =
    let sibling = to_sibling c.self.invariant c.args.page c.in_ok-head.ensures.head c.in-Ok.ensures.ok c.left_children_link_to_siblings.ensures in
    c.in_default-right.not-Some _ sibling.link_is
