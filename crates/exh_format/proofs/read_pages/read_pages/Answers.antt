use Rattle.std.proofs.Common.{◌≡◌, ◌+◌, ◌∷◌, [], ◌++◌, ℕ, length, sym, ap, subst, arith}
use Rattle.std.proofs.lemmas.List.{length-append}
use Rattle.exh_prefix.specs.Layout.{layout}
use Rattle.exh_keyer.specs.Pseudokey.{any_pseudokey}
use Rattle.exh_format.specs.FileTests.{NextFails, PageFails}
use Rattle.exh_format.specs.Reading.{FailsInPages, GivesPages, IsOf}
use Rattle.exh_format.proofs.Parts.{block_of, formed}
use Rattle.exh_format.proofs.Pages.{one_page, no_pages, more_pages, fails_next, of_later, err_is, failed_so, still_open}
use Rattle.exh_format.proofs.read_pages.read_pages.Goals as goal

pub returns-in_err-page-clause-failed : goal.returns-in_err-page-clause-failed
returns-in_err-page-clause-failed g c = failed_so c.from_residual.result c.in_err-page.field-0.0 _ c.from_residual.ensures.1 c.in_err-page.ensures.failed

pub returns-in_err-page-clause-err : goal.returns-in_err-page-clause-err
returns-in_err-page-clause-err g c =
    let pseudo = any_pseudokey c.args.keyer in
    let known = g.R.Read.remaining c.args.blocks.now.source.reader.now in
    let place = c.args.blocks.now.place in
    let pages = g.W.PageList.pages c.loop-number.pages in
    let fails = c.in_err-page.ensures.err in
    let there : c.loop-number.blocks.place ≡ place + length pages = omega (arith, c.loop-number.invariant.place, c.loop-number.invariant.some) in
    err_is c.from_residual.result c.in_err-page.field-0.0 (IsOf (FailsInPages (layout c.args.version) pseudo place c.args.count) known) c.from_residual.ensures.1
    (of_later (NextFails (PageFails (layout c.args.version) pseudo (place + length pages))) (FailsInPages (layout c.args.version) pseudo place c.args.count) known _ c.in_err-page.field-0.0
    (λ fault. fails_next (layout c.args.version) pseudo known _ place c.args.count pages fault (omega (arith, c.loop-number.invariant.some, c.loop-number-test.true)) c.loop-number.invariant.given)
    (subst (λ (place : ℕ). IsOf (NextFails (PageFails (layout c.args.version) pseudo place)) (g.R.Read.remaining c.loop-number.blocks.source.reader.now) c.in_err-page.field-0.0) there fails))

pub loop-number-preserved : goal.loop-number-preserved
loop-number-preserved g c =
    let pseudo = any_pseudokey c.args.keyer in
    let pages = g.W.PageList.pages c.loop-number.pages in
    let pushed : g.W.PageList.pages c.push.new.self ≡ pages ++ c.in_ok-page.page ∷ [] = c.in_ok-push.ensures.ok in
    record {
      unfailed = still_open c.in_ok-page.page _ c.in_ok-page.ensures.failed.1;
      place = omega (arith, c.loop-number.invariant.place, c.in_ok-page.ensures.place);
      some = omega (arith, ap length pushed, length-append pages (c.in_ok-page.page ∷ []), c.loop-number.invariant.some);
      given = subst (GivesPages (layout c.args.version) pseudo _ _) (sym pushed)
          (more_pages (layout c.args.version) pseudo _ _ _ pages (c.in_ok-page.page ∷ []) c.loop-number.invariant.given (one_page (layout c.args.version) pseudo _ _ c.in_ok-page.page c.read_page.new.block c.in_ok-page.ensures.read c.in_ok-page.ensures.image c.in_ok-page.ensures.block));
      takes = λ page formed. (c.in_ok-push.ensures.takes page).0 (c.loop-number.invariant.takes page formed);
    }

pub loop-number-init : goal.loop-number-init
loop-number-init g c = record {
  unfailed = c.requires.open;
  place = omega arith;
  some = ap length c.empty-pages.ensures.none;
  given = subst (GivesPages (layout c.args.version) (any_pseudokey c.args.keyer) _ _) (sym c.empty-pages.ensures.none) (no_pages (layout c.args.version) (any_pseudokey c.args.keyer) _);
  takes = c.empty-pages.ensures.takes;
}

pub push-requires-clause-room : goal.push-requires-clause-room
push-requires-clause-room g c = omega (arith, c.loop-number.invariant.some, c.loop-number-test.true, c.requires.place)

pub push-requires-clause-block : goal.push-requires-clause-block
push-requires-clause-block g c = block_of c.args.version (any_pseudokey c.args.keyer) c.in_ok-page.page c.read_page.new.block c.in_ok-page.ensures.image

pub push-requires-clause-taken : goal.push-requires-clause-taken
push-requires-clause-taken g c = c.loop-number.invariant.takes c.in_ok-page.page (formed c.args.version (any_pseudokey c.args.keyer) c.in_ok-page.page c.in_ok-page.ensures.image.valid)
