use Rattle.std.proofs.Common.{◌≡◌, ◌≤◌, ◌++◌, map, slice_get, refl, sym, ap, ◌∙◌, subst, arith, ℕ, Err}
use Rattle.std.specs.FinMap as fin
use Rattle.std.proofs.lemmas.List.{take_all}
use Rattle.std.proofs.lemmas.Result.{IfOk-from_err}
use Rattle.exh_page.specs.Page.{records_of}
use Rattle.exh_stores.specs.PageStore.{CountsFaults}
use Rattle.exh_page.specs.KeyMap.{pair_of}
use Rattle.exh_ward.specs.FromPages.{pairs_of}
use Rattle.exh_ward.specs.WardFault.{IsStoreFault, fault_of, CountsFailures}
use Rattle.exh_ward.specs.declared.ward_fault.WardFault.TheVariants.{Memory}
use Rattle.exh_ward.proofs.StepsKeepSound.{at_read}
use Rattle.exh_ward.proofs.PagesRead.{pairs_more}
use Rattle.exh_ward.proofs.Exits.{counted_as, fault_counted, store_fault}
use Rattle.exh_ward.proofs.HalvesOfPages.{failed_with}
use Rattle.exh_ward.proofs.ward.history.read_base.Goals as goal

all_read : {number end count : ℕ} → end ≤ number → end ≡ count → count ≤ number
all_read past is = omega (arith, past, is)

pub loop-number-init : goal.loop-number-init
loop-number-init g c = record {
  within = omega arith;
  pairs = c.new-pairs.ensures;
  pages = refl;
  failures = refl;
  takes = λ page. (λ x. x, λ x. x);
}

pub loop-number-preserved : goal.loop-number-preserved
loop-number-preserved g c =
    let is = c.loop-number.invariant in
    let pages = g.P.Pages.pages c.args.store.now in
    let page = ap (λ pages. slice_get pages c.loop-number.number) (sym is.pages) ∙ at_read _ _ _ _ c.fetch.ensures.pages c.fetched.ensures in
    record {
      within = omega (arith, c.loop-number-test.true, c.count-number-end.ensures);
      pairs = c.in_ok-push_page.ensures ∙ ap (λ ps. ps ++ map pair_of (records_of c.fetched.result.now)) is.pairs ∙ sym (pairs_more pages c.loop-number.number _ page);
      pages = c.fetch.ensures.pages ∙ is.pages;
      failures = subst (λ result. CountsFaults result (g.P.Pages.failures c.loop-number.store) (g.P.Pages.failures c.fetch.new.self)) c.in_ok-fetch.was c.fetch.ensures.failures ∙ is.failures;
      takes = λ other. (λ x. (c.fetch.ensures.takes other).0 ((is.takes other).0 x), λ x. (is.takes other).1 ((c.fetch.ensures.takes other).1 x));
    }

pub returns-clause-base : goal.returns-clause-base
returns-clause-base g c =
    let pages = g.P.Pages.pages c.args.store.now in
    let all = take_all c.loop-number.number pages (all_read c.loop-number-test.false c.count-number-end.ensures) in
    c.from_pairs.ensures ∙ ap fin.from_entries (c.loop-number.invariant.pairs ∙ ap pairs_of all)

pub returns-in_err-fetch-clause-base : goal.returns-in_err-fetch-clause-base
returns-in_err-fetch-clause-base g c = IfOk-from_err c.from_residual.result _ c.from_residual.ensures.0

pub returns-in_err-fetch-clause-pages : goal.returns-in_err-fetch-clause-pages
returns-in_err-fetch-clause-pages g c = c.fetch.ensures.pages ∙ c.loop-number.invariant.pages

pub returns-in_err-fetch-clause-fault : goal.returns-in_err-fetch-clause-fault
returns-in_err-fetch-clause-fault g c = failed_with c.from_residual.result (fault_of c.in_err-fetch.field-0.0) IsStoreFault c.from_residual.ensures.1 (store_fault c.in_err-fetch.field-0.0)

pub returns-in_err-fetch-clause-failures : goal.returns-in_err-fetch-clause-failures
returns-in_err-fetch-clause-failures g c =
    let P : ℕ → Type 0 = λ old. CountsFailures {T = Unit {0}} (Err (fault_of c.in_err-fetch.field-0.0)) old (g.P.Pages.failures c.fetch.new.self) in
    counted_as c.from_residual.result (fault_of c.in_err-fetch.field-0.0) _ _ c.from_residual.ensures.1 (subst P c.loop-number.invariant.failures (fault_counted (Unit {0}) c.in_err-fetch.field-0.0 _ _ c.in_err-fetch.ensures.failures))

pub returns-in_err-fetch-clause-takes : goal.returns-in_err-fetch-clause-takes
returns-in_err-fetch-clause-takes g c =
    let is = c.loop-number.invariant in
    λ other. (λ x. (c.fetch.ensures.takes other).0 ((is.takes other).0 x), λ x. (is.takes other).1 ((c.fetch.ensures.takes other).1 x))

pub returns-in_err-push_page-clause-base : goal.returns-in_err-push_page-clause-base
returns-in_err-push_page-clause-base g c = IfOk-from_err c.from_residual-in_err-push_page.result _ c.from_residual-in_err-push_page.ensures.0

pub returns-in_err-push_page-clause-pages : goal.returns-in_err-push_page-clause-pages
returns-in_err-push_page-clause-pages g c = c.fetch.ensures.pages ∙ c.loop-number.invariant.pages

pub returns-in_err-push_page-clause-fault : goal.returns-in_err-push_page-clause-fault
returns-in_err-push_page-clause-fault g c = failed_with c.from_residual-in_err-push_page.result Memory IsStoreFault c.from_residual-in_err-push_page.ensures.1 tt

pub returns-in_err-push_page-clause-failures : goal.returns-in_err-push_page-clause-failures
returns-in_err-push_page-clause-failures g c =
    counted_as c.from_residual-in_err-push_page.result Memory _ _ c.from_residual-in_err-push_page.ensures.1 (c.in_ok-fetch.ensures.failures ∙ c.loop-number.invariant.failures)

pub returns-in_err-push_page-clause-takes : goal.returns-in_err-push_page-clause-takes
returns-in_err-push_page-clause-takes g c =
    let is = c.loop-number.invariant in
    λ other. (λ x. (c.fetch.ensures.takes other).0 ((is.takes other).0 x), λ x. (is.takes other).1 ((c.fetch.ensures.takes other).1 x))

pub fetched-requires : goal.fetched-requires
fetched-requires g c = c.in_ok-fetch.ensures.at_hand

pub returns-clause-pages : goal.returns-clause-pages
returns-clause-pages g c = c.loop-number.invariant.pages

pub returns-clause-failures : goal.returns-clause-failures
returns-clause-failures g c = c.loop-number.invariant.failures

pub returns-clause-takes : goal.returns-clause-takes
returns-clause-takes g c = c.loop-number.invariant.takes

pub returns-clause-fault : goal.returns-clause-fault
returns-clause-fault g c = tt
