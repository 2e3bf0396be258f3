use Rattle.std.proofs.Common.{◌≡◌, ◌≤◌, ◌<◌, List, length, slice_get, refl, sym, ap, ◌∙◌, subst, arith, ℕ, Err}
use Rattle.std.proofs.lemmas.List.{take_all}
use Rattle.std.proofs.lemmas.Result.{IfOk-from_err}
use Rattle.exh_page.specs.declared.page.Page.{Page}
use Rattle.exh_legal.specs.Pages.{bare}
use Rattle.exh_legal.specs.PageIndex.{IsIndexOf}
use Rattle.exh_ward.specs.WardFault.{IsStoreFault, fault_of, CountsFailures}
use Rattle.exh_ward.specs.declared.ward_fault.WardFault.TheVariants.{Memory}
use Rattle.exh_ward.proofs.PagesRead.{first_indexed, one_page_more}
use Rattle.exh_ward.proofs.Exits.{counted_as, fault_counted, store_fault}
use Rattle.exh_ward.proofs.HalvesOfPages.{failed_with}
use Rattle.exh_ward.proofs.Heads.{low_headed}
use Rattle.exh_ward.proofs.ward.from_pages.read_index.Goals as goal

all_read : {number end count : ℕ} → end ≤ number → end ≡ count → count ≤ number
all_read past is = omega (arith, past, is)

pub loop-number-init : goal.loop-number-init
loop-number-init g c = record {
  index = first_indexed _ _ c.new-index.ensures;
  pages = refl;
  failures = refl;
  takes = λ page. (λ x. x, λ x. x);
}

pub loop-number-preserved : goal.loop-number-preserved
loop-number-preserved g c =
    let is = c.loop-number.invariant in
    let headed = c.in_ok-head.ensures.head in
    let pages = g.P.Pages.pages c.args.store.now in
    let page = ap (λ pages. slice_get pages c.loop-number.number) (sym is.pages) ∙ headed.1 in
    record {
      index = one_page_more _ _ pages c.loop-number.number c.low.result headed.0 c.requires.apart c.loop-number.auto.number page (c.low.ensures ∙ low_headed headed.0 _ headed.2) is.index c.in_ok-insert.ensures.ok;
      pages = c.head.ensures.pages ∙ is.pages;
      failures = c.in_ok-head.ensures.failures ∙ is.failures;
      takes = λ other. (λ x. (c.head.ensures.takes other).0 ((is.takes other).0 x), λ x. (is.takes other).1 ((c.head.ensures.takes other).1 x));
    }

pub head-requires : goal.head-requires
head-requires g c =
    let here = c.loop-number-test.true in
    subst (λ (pages : List Page). c.loop-number.number < length pages) (sym c.loop-number.invariant.pages) (subst (λ n. c.loop-number.number < n) c.count-number-end.ensures here)

pub returns-clause-index : goal.returns-clause-index
returns-clause-index g c =
    let pages = g.P.Pages.pages c.args.store.now in
    subst (λ (pages : List Page). IsIndexOf c.loop-number.index (bare pages)) (take_all c.loop-number.number pages (all_read c.loop-number-test.false c.count-number-end.ensures)) c.loop-number.invariant.index

pub returns-in_err-head-clause-index : goal.returns-in_err-head-clause-index
returns-in_err-head-clause-index g c = IfOk-from_err c.from_residual.result _ c.from_residual.ensures.0

pub returns-in_err-head-clause-pages : goal.returns-in_err-head-clause-pages
returns-in_err-head-clause-pages g c = c.head.ensures.pages ∙ c.loop-number.invariant.pages

pub returns-in_err-head-clause-fault : goal.returns-in_err-head-clause-fault
returns-in_err-head-clause-fault g c = failed_with c.from_residual.result (fault_of c.in_err-head.field-0.0) IsStoreFault c.from_residual.ensures.1 (store_fault c.in_err-head.field-0.0)

pub returns-in_err-head-clause-failures : goal.returns-in_err-head-clause-failures
returns-in_err-head-clause-failures g c =
    let P : ℕ → Type 0 = λ old. CountsFailures {T = Unit {0}} (Err (fault_of c.in_err-head.field-0.0)) old (g.P.Pages.failures c.head.new.self) in
    counted_as c.from_residual.result (fault_of c.in_err-head.field-0.0) _ _ c.from_residual.ensures.1 (subst P c.loop-number.invariant.failures (fault_counted (Unit {0}) c.in_err-head.field-0.0 _ _ c.in_err-head.ensures.failures))

pub returns-in_err-head-clause-takes : goal.returns-in_err-head-clause-takes
returns-in_err-head-clause-takes g c =
    let is = c.loop-number.invariant in
    λ other. (λ x. (c.head.ensures.takes other).0 ((is.takes other).0 x), λ x. (is.takes other).1 ((c.head.ensures.takes other).1 x))

pub returns-in_err-insert-clause-index : goal.returns-in_err-insert-clause-index
returns-in_err-insert-clause-index g c = IfOk-from_err c.from_residual-in_err-insert.result _ c.from_residual-in_err-insert.ensures.0

pub returns-in_err-insert-clause-pages : goal.returns-in_err-insert-clause-pages
returns-in_err-insert-clause-pages g c = c.head.ensures.pages ∙ c.loop-number.invariant.pages

pub returns-in_err-insert-clause-fault : goal.returns-in_err-insert-clause-fault
returns-in_err-insert-clause-fault g c = failed_with c.from_residual-in_err-insert.result Memory IsStoreFault c.from_residual-in_err-insert.ensures.1 tt

pub returns-in_err-insert-clause-failures : goal.returns-in_err-insert-clause-failures
returns-in_err-insert-clause-failures g c =
    counted_as c.from_residual-in_err-insert.result Memory _ _ c.from_residual-in_err-insert.ensures.1 (c.in_ok-head.ensures.failures ∙ c.loop-number.invariant.failures)

pub returns-in_err-insert-clause-takes : goal.returns-in_err-insert-clause-takes
returns-in_err-insert-clause-takes g c =
    let is = c.loop-number.invariant in
    λ other. (λ x. (c.head.ensures.takes other).0 ((is.takes other).0 x), λ x. (is.takes other).1 ((c.head.ensures.takes other).1 x))

pub returns-clause-pages : goal.returns-clause-pages
returns-clause-pages g c = c.loop-number.invariant.pages

pub returns-clause-failures : goal.returns-clause-failures
returns-clause-failures g c = c.loop-number.invariant.failures

pub returns-clause-takes : goal.returns-clause-takes
returns-clause-takes g c = c.loop-number.invariant.takes

pub returns-clause-fault : goal.returns-clause-fault
returns-clause-fault g c = tt
