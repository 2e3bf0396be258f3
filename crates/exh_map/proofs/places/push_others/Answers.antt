use Rattle.std.proofs.Common.{◌≡◌, Some, slice_get, ◌∙◌, ap, subst, arith}
use Rattle.exh_page.specs.PageHead.{low_in}
use Rattle.exh_map.proofs.PlaceLemmas.{low_more}
use Rattle.exh_map.proofs.places.push_others.Goals as goal

pub pages-preserved : goal.pages-preserved
pages-preserved g c =
    let ward = c.args.ward.now in
    let number = c.pages.number in
    let kept = c.pages.invariant in
    let (page, at, is) = c.in_ok-head.ensures.head in
    let there : slice_get ward.pages number ≡ Some page = subst (λ own. slice_get own.pages number ≡ Some page) kept.same at in
    record {
      same = c.in_ok-head.ensures.ok ∙ kept.same;
      from = omega (arith, kept.from);
      put = low_more ward c.min-from.result number c.low-low.result page c.args.lows.now.items c.pages.lows.items c.push_low.new.lows.items kept.from there (c.low-low.ensures ∙ ap low_in is) kept.put c.in_ok-push_low.ensures;
    }
