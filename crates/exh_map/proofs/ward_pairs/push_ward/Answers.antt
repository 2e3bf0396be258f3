use Rattle.std.proofs.Common.{ap, ◌∙◌, subst, arith}
use Rattle.exh_ward.specs.WardState.{WardState}
use Rattle.exh_legal.specs.Pages.{IsAt}
use Rattle.exh_map.proofs.PairsLemmas.{pairs_on}
use Rattle.exh_map.proofs.ward_pairs.push_ward.Goals as goal

pub pages-preserved : goal.pages-preserved
pages-preserved g c =
    let is = c.pages.invariant in
    let pages = c.args.ward.now.pages in
    let page : IsAt pages c.pages.number c.in_ok-page.page = subst (λ ps. IsAt ps c.pages.number c.in_ok-page.page) (ap (λ (w : WardState _). w.pages) is.same) c.in_ok-page.ensures.page in
    record {
      within = omega (arith, c.pages-test.true, c.page_count-number-end.ensures.count);
      pairs = pairs_on c.args.pairs.now pages c.pages.number c.in_ok-page.page page is.pairs c.in_ok-push_page.ensures;
      same = c.in_ok-page.ensures.ok ∙ is.same;
    }
