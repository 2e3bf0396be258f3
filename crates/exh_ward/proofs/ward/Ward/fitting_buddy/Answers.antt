use Rattle.std.proofs.Common.{◌<◌, length, List, refl, sym, subst, ◌∙◌}
use Rattle.std.proofs.lemmas.Result.{IfOk-from_err}
use Rattle.exh_page.specs.declared.page.Page.{Page}
use Rattle.exh_stores.specs.PageStore.{HasHead}
use Rattle.exh_ward.specs.WardFault.{MergeRefused, fault_of_halves, fault_of}
use Rattle.exh_ward.specs.MergeStep.{FitTogether}
use Rattle.exh_ward.specs.Told.{MayChange}
use Rattle.exh_notice.specs.declared.entry.Kind.TheVariants.{Merge}
use Rattle.exh_ward.specs.WardState.{WardState, IsSoundWard}
use Rattle.exh_ward.proofs.HalvesOfPages.{refused_as, failed_with}
use Rattle.exh_ward.proofs.StepsKeepSound.{kept_read, takes_both}
use Rattle.exh_ward.proofs.MergesAreSteps.{few_counted, few_left, halves_fit, may_merge, no_left_half, not_beside, own_in_front, right_within, to_sibling}
use Rattle.exh_ward.proofs.AnswersAreLeft.{few_pages}
use Rattle.exh_ward.proofs.Exits.{is_past, storing_refuses, store_fault, on_err, unchanged_read, store_counted, halves_counted, same_read, same_failures}
use Rattle.exh_ward.proofs.ward.Ward.fitting_buddy.Goals as goal

pub invariant_of-self : goal.invariant_of-self
invariant_of-self g c = kept_read c.self.invariant (g.P.Pages.takes c.head.new.self) c.head.ensures.takes (g.P.Pages.pages c.head.new.self) c.self.inside.journal.entries (g.P.Pages.failures c.head.new.self) c.head.ensures.pages refl

pub returns-in_err-head-clause-sound : goal.returns-in_err-head-clause-sound
returns-in_err-head-clause-sound g c = (invariant_of-self g c).sound

pub of-requires : goal.of-requires
of-requires g c = own_in_front c.self.invariant c.args.page c.in_ok-head.field-0 c.in_ok-head.ensures.head

pub invariant_of-self-in_err-half : goal.invariant_of-self-in_err-half
invariant_of-self-in_err-half g c = kept_read c.self.invariant (g.P.Pages.takes c.head.new.self) c.head.ensures.takes (g.P.Pages.pages c.head.new.self) c.self.inside.journal.entries (g.P.Pages.failures c.head.new.self) c.head.ensures.pages refl

pub returns-in_err-half-clause-refused : goal.returns-in_err-half-clause-refused
returns-in_err-half-clause-refused g c =
    let refused = no_left_half c.self.invariant c.args.page c.in_ok-head.field-0 c.in_ok-head.ensures.head _ c.in_err-half.ensures.err in
    let P : WardState g.row.K.Denot → Type 0 = λ w. MergeRefused w c.args.page (fault_of_halves c.in_err-half.field-0.0) in
    let now = subst P c.self.view_is refused in
    refused_as c.from_residual-in_err-half.result c.in_err-half.field-0.0 (MergeRefused c.args.self.now c.args.page) c.from_residual-in_err-half.ensures.1 now

pub head-requires-2 : goal.head-requires-2
head-requires-2 g c =
    let within = right_within c.self.invariant c.args.page c.in_ok-head.ensures.head c.in_ok-half.ensures.ok c.left_children_link_to_siblings.ensures c.in-Some.is in
    let P : List Page → Type 0 = λ pages. c.in-Some.right < length pages in
    subst P (sym c.head.ensures.pages) within

pub invariant_of-self-in_err-buddy : goal.invariant_of-self-in_err-buddy
invariant_of-self-in_err-buddy g c =
    kept_read c.self.invariant (g.P.Pages.takes c.head-2.new.self) (takes_both {between = g.P.Pages.takes c.head.new.self} c.head.ensures.takes c.head-2.ensures.takes) (g.P.Pages.pages c.head-2.new.self) c.self.inside.journal.entries (g.P.Pages.failures c.head-2.new.self) (c.head-2.ensures.pages ∙ c.head.ensures.pages) refl

pub returns-in_err-buddy-clause-sound : goal.returns-in_err-buddy-clause-sound
returns-in_err-buddy-clause-sound g c = (invariant_of-self-in_err-buddy g c).sound

pub test_buddy-requires-clause-few : goal.test_buddy-requires-clause-few
test_buddy-requires-clause-few g c = few_left c.self.invariant c.args.page c.in_ok-head.ensures.head c.in_ok-half.ensures.ok

pub test_buddy-requires-clause-few_others : goal.test_buddy-requires-clause-few_others
test_buddy-requires-clause-few_others g c =
    let P : List Page → Type 0 = λ pages. HasHead pages c.in-Some.right c.in_ok-buddy.buddy in
    few_counted c.self.invariant c.in-Some.right c.in_ok-buddy.buddy (subst P c.head.ensures.pages c.in_ok-buddy.ensures.head)

pub invariant_of-self-in_err-test_buddy : goal.invariant_of-self-in_err-test_buddy
invariant_of-self-in_err-test_buddy g c =
    kept_read c.self.invariant (g.P.Pages.takes c.head-2.new.self) (takes_both {between = g.P.Pages.takes c.head.new.self} c.head.ensures.takes c.head-2.ensures.takes) (g.P.Pages.pages c.head-2.new.self) c.self.inside.journal.entries (g.P.Pages.failures c.head-2.new.self) (c.head-2.ensures.pages ∙ c.head.ensures.pages) refl

pub returns-in_err-test_buddy-clause-refused : goal.returns-in_err-test_buddy-clause-refused
returns-in_err-test_buddy-clause-refused g c =
    let L : List Page → Type 0 = λ pages. HasHead pages c.in-Some.right c.in_ok-buddy.buddy in
    let buddy = subst L c.head.ensures.pages c.in_ok-buddy.ensures.head in
    let refused = not_beside c.self.invariant c.args.page c.in_ok-head.ensures.head c.in_ok-half.ensures.ok c.left_children_link_to_siblings.ensures c.in-Some.is buddy _ c.in_err-test_buddy.ensures.err in
    let P : WardState g.row.K.Denot → Type 0 = λ w. MergeRefused w c.args.page (fault_of_halves c.in_err-test_buddy.field-0.0) in
    let now = subst P c.self.view_is refused in
    refused_as c.from_residual-in_err-test_buddy.result c.in_err-test_buddy.field-0.0 (MergeRefused c.args.self.now c.args.page) c.from_residual-in_err-test_buddy.ensures.1 now

pub invariant_of-self-2 : goal.invariant_of-self-2
invariant_of-self-2 g c =
    kept_read c.self.invariant (g.P.Pages.takes c.head-2.new.self) (takes_both {between = g.P.Pages.takes c.head.new.self} c.head.ensures.takes c.head-2.ensures.takes) (g.P.Pages.pages c.head-2.new.self) c.self.inside.journal.entries (g.P.Pages.failures c.head-2.new.self) (c.head-2.ensures.pages ∙ c.head.ensures.pages) refl

pub returns-clause-fit : goal.returns-clause-fit
returns-clause-fit g c =
    let L : List Page → Type 0 = λ pages. HasHead pages c.in-Some.right c.in_ok-buddy.buddy in
    let buddy = subst L c.head.ensures.pages c.in_ok-buddy.ensures.head in
    let P : WardState g.row.K.Denot → Type 0 = λ w. FitTogether w c.args.page c.in_ok-half.half.parent c.in-Some.right in
    subst P c.self.view_is (halves_fit c.self.invariant c.args.page c.in_ok-head.ensures.head c.in_ok-half.ensures.ok c.left_children_link_to_siblings.ensures c.in-Some.is buddy c.in_ok-half.ensures.short c.in_ok-test_buddy.ensures.ok)

pub returns-clause-may : goal.returns-clause-may
returns-clause-may g c =
    let L : List Page → Type 0 = λ pages. HasHead pages c.in-Some.right c.in_ok-buddy.buddy in
    let buddy = subst L c.head.ensures.pages c.in_ok-buddy.ensures.head in
    let fit = halves_fit c.self.invariant c.args.page c.in_ok-head.ensures.head c.in_ok-half.ensures.ok c.left_children_link_to_siblings.ensures c.in-Some.is buddy c.in_ok-half.ensures.short c.in_ok-test_buddy.ensures.ok in
    let P : WardState g.row.K.Denot → Type 0 = λ w. MayChange (g.K.Keyer.pseudokey_of w.keyer) w c.args.page c.in-Some.right c.in_ok-half.half.parent Merge in
    subst P c.self.view_is (may_merge c.self.invariant fit (g.met.K.Keyer.pseudokey_fits _) c.buddies_unite.ensures c.merges_keep_legal.ensures (few_pages c.pages_are_few.ensures c.self.invariant))

pub returns-then-page-count-clause-fit : goal.returns-then-page-count-clause-fit
returns-then-page-count-clause-fit g c = tt

pub returns-then-page-count-clause-may : goal.returns-then-page-count-clause-may
returns-then-page-count-clause-may g c = tt

pub returns-then-page-count-clause-ok : goal.returns-then-page-count-clause-ok
returns-then-page-count-clause-ok g c = tt

pub returns-then-page-count-clause-err : goal.returns-then-page-count-clause-err
returns-then-page-count-clause-err g c = refl

pub returns-then-page-count-clause-failures : goal.returns-then-page-count-clause-failures
returns-then-page-count-clause-failures g c = refl

pub returns-then-page-count-clause-sound : goal.returns-then-page-count-clause-sound
returns-then-page-count-clause-sound g c =
    let P : WardState g.row.K.Denot → Type 0 = λ w. IsSoundWard g.K.Keyer.pseudokey_of w in
    subst P c.self.view_is c.self.invariant.sound

pub returns-then-page-count-clause-refused : goal.returns-then-page-count-clause-refused
returns-then-page-count-clause-refused g c = is_past c.self.view_is c.count.ensures c.if-page-count.true

pub head-requires : goal.head-requires
head-requires g c = subst (λ n. c.args.page < n) c.count.ensures c.if-page-count.false

pub returns-in_err-head-clause-fit : goal.returns-in_err-head-clause-fit
returns-in_err-head-clause-fit g c = IfOk-from_err c.from_residual.result _ c.from_residual.ensures.0

pub returns-in_err-head-clause-may : goal.returns-in_err-head-clause-may
returns-in_err-head-clause-may g c = IfOk-from_err c.from_residual.result _ c.from_residual.ensures.0

pub returns-in_err-head-clause-ok : goal.returns-in_err-head-clause-ok
returns-in_err-head-clause-ok g c = IfOk-from_err c.from_residual.result _ c.from_residual.ensures.0

pub returns-in_err-head-clause-refused : goal.returns-in_err-head-clause-refused
returns-in_err-head-clause-refused g c =
    let fault = c.in_err-head.field-0.0 in
    failed_with c.from_residual.result (fault_of fault) (MergeRefused c.args.self.now c.args.page) c.from_residual.ensures.1 (storing_refuses c.args.self.now c.args.page (fault_of fault) (store_fault fault))

pub returns-in_err-head-clause-err : goal.returns-in_err-head-clause-err
returns-in_err-head-clause-err g c = on_err c.from_residual.result (unchanged_read c.self.view_is (g.P.Pages.pages c.head.new.self) (g.P.Pages.failures c.head.new.self) c.head.ensures.pages)

pub returns-in_err-head-clause-failures : goal.returns-in_err-head-clause-failures
returns-in_err-head-clause-failures g c = store_counted c.self.view_is c.from_residual.result c.in_err-head.field-0.0 (g.P.Pages.failures c.self.inside.store) (g.P.Pages.failures c.head.new.self) refl c.from_residual.ensures.1 c.in_err-head.ensures.failures

pub returns-in_err-half-clause-fit : goal.returns-in_err-half-clause-fit
returns-in_err-half-clause-fit g c = IfOk-from_err c.from_residual-in_err-half.result _ c.from_residual-in_err-half.ensures.0

pub returns-in_err-half-clause-may : goal.returns-in_err-half-clause-may
returns-in_err-half-clause-may g c = IfOk-from_err c.from_residual-in_err-half.result _ c.from_residual-in_err-half.ensures.0

pub returns-in_err-half-clause-ok : goal.returns-in_err-half-clause-ok
returns-in_err-half-clause-ok g c = IfOk-from_err c.from_residual-in_err-half.result _ c.from_residual-in_err-half.ensures.0

pub returns-in_err-half-clause-err : goal.returns-in_err-half-clause-err
returns-in_err-half-clause-err g c = on_err c.from_residual-in_err-half.result (unchanged_read c.self.view_is (g.P.Pages.pages c.head.new.self) (g.P.Pages.failures c.head.new.self) c.head.ensures.pages)

pub returns-in_err-half-clause-failures : goal.returns-in_err-half-clause-failures
returns-in_err-half-clause-failures g c =
    halves_counted c.self.view_is c.from_residual-in_err-half.result c.in_err-half.field-0.0 _ c.in_ok-head.ensures.failures c.from_residual-in_err-half.ensures.1

pub returns-in_err-half-clause-sound : goal.returns-in_err-half-clause-sound
returns-in_err-half-clause-sound g c = (invariant_of-self-in_err-half g c).sound

pub returns-in_err-buddy-clause-fit : goal.returns-in_err-buddy-clause-fit
returns-in_err-buddy-clause-fit g c = IfOk-from_err c.from_residual-in_err-buddy.result _ c.from_residual-in_err-buddy.ensures.0

pub returns-in_err-buddy-clause-may : goal.returns-in_err-buddy-clause-may
returns-in_err-buddy-clause-may g c = IfOk-from_err c.from_residual-in_err-buddy.result _ c.from_residual-in_err-buddy.ensures.0

pub returns-in_err-buddy-clause-ok : goal.returns-in_err-buddy-clause-ok
returns-in_err-buddy-clause-ok g c = IfOk-from_err c.from_residual-in_err-buddy.result _ c.from_residual-in_err-buddy.ensures.0

pub returns-in_err-buddy-clause-refused : goal.returns-in_err-buddy-clause-refused
returns-in_err-buddy-clause-refused g c =
    let fault = c.in_err-buddy.field-0.0 in
    failed_with c.from_residual-in_err-buddy.result (fault_of fault) (MergeRefused c.args.self.now c.args.page) c.from_residual-in_err-buddy.ensures.1 (storing_refuses c.args.self.now c.args.page (fault_of fault) (store_fault fault))

pub returns-in_err-buddy-clause-err : goal.returns-in_err-buddy-clause-err
returns-in_err-buddy-clause-err g c = on_err c.from_residual-in_err-buddy.result (unchanged_read c.self.view_is (g.P.Pages.pages c.head-2.new.self) (g.P.Pages.failures c.head-2.new.self) (c.head-2.ensures.pages ∙ c.head.ensures.pages))

pub returns-in_err-buddy-clause-failures : goal.returns-in_err-buddy-clause-failures
returns-in_err-buddy-clause-failures g c =
    store_counted c.self.view_is c.from_residual-in_err-buddy.result c.in_err-buddy.field-0.0 _ _ c.in_ok-head.ensures.failures c.from_residual-in_err-buddy.ensures.1 c.in_err-buddy.ensures.failures

pub returns-in_err-test_buddy-clause-fit : goal.returns-in_err-test_buddy-clause-fit
returns-in_err-test_buddy-clause-fit g c = IfOk-from_err c.from_residual-in_err-test_buddy.result _ c.from_residual-in_err-test_buddy.ensures.0

pub returns-in_err-test_buddy-clause-may : goal.returns-in_err-test_buddy-clause-may
returns-in_err-test_buddy-clause-may g c = IfOk-from_err c.from_residual-in_err-test_buddy.result _ c.from_residual-in_err-test_buddy.ensures.0

pub returns-in_err-test_buddy-clause-ok : goal.returns-in_err-test_buddy-clause-ok
returns-in_err-test_buddy-clause-ok g c = IfOk-from_err c.from_residual-in_err-test_buddy.result _ c.from_residual-in_err-test_buddy.ensures.0

pub returns-in_err-test_buddy-clause-err : goal.returns-in_err-test_buddy-clause-err
returns-in_err-test_buddy-clause-err g c = on_err c.from_residual-in_err-test_buddy.result (unchanged_read c.self.view_is (g.P.Pages.pages c.head-2.new.self) (g.P.Pages.failures c.head-2.new.self) (c.head-2.ensures.pages ∙ c.head.ensures.pages))

pub returns-in_err-test_buddy-clause-failures : goal.returns-in_err-test_buddy-clause-failures
returns-in_err-test_buddy-clause-failures g c =
    halves_counted c.self.view_is c.from_residual-in_err-test_buddy.result c.in_err-test_buddy.field-0.0 _ (c.in_ok-buddy.ensures.failures ∙ c.in_ok-head.ensures.failures) c.from_residual-in_err-test_buddy.ensures.1

pub returns-in_err-test_buddy-clause-sound : goal.returns-in_err-test_buddy-clause-sound
returns-in_err-test_buddy-clause-sound g c = (invariant_of-self-in_err-test_buddy g c).sound

pub test_buddy-requires-clause-short : goal.test_buddy-requires-clause-short
test_buddy-requires-clause-short g c = c.in_ok-half.ensures.short

pub returns-clause-refused : goal.returns-clause-refused
returns-clause-refused g c = tt

pub returns-clause-err : goal.returns-clause-err
returns-clause-err g c = tt

pub returns-clause-ok : goal.returns-clause-ok
returns-clause-ok g c = same_read c.self.view_is (g.P.Pages.pages c.head-2.new.self) (g.P.Pages.failures c.head-2.new.self) (c.head-2.ensures.pages ∙ c.head.ensures.pages) (c.in_ok-buddy.ensures.failures ∙ c.in_ok-head.ensures.failures)

pub returns-clause-failures : goal.returns-clause-failures
returns-clause-failures g c = same_failures c.self.view_is (g.P.Pages.failures c.head-2.new.self) (c.in_ok-buddy.ensures.failures ∙ c.in_ok-head.ensures.failures)

pub returns-clause-sound : goal.returns-clause-sound
returns-clause-sound g c = (invariant_of-self-2 g c).sound

pub unreachable-requires : goal.unreachable-requires
unreachable-requires g c =
    let sibling = to_sibling c.self.invariant c.args.page c.in_ok-head.ensures.head c.in_ok-half.ensures.ok c.left_children_link_to_siblings.ensures in
    c.in_default.not-Some _ sibling.link_is

pub unreachable-unreachable : goal.unreachable-unreachable
unreachable-unreachable g c =
    let sibling = to_sibling c.self.invariant c.args.page c.in_ok-head.ensures.head c.in_ok-half.ensures.ok c.left_children_link_to_siblings.ensures in
    c.in_default.not-Some _ sibling.link_is
