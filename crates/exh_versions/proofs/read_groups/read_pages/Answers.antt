use Rattle.std.proofs.Common.{◌≡◌, ◌+◌, ◌∷◌, [], ◌++◌, ℕ, length, refl, subst, arith}
use Rattle.std.proofs.lemmas.List.{length-append}
use Rattle.exh_prefix.specs.Version.{second_version}
use Rattle.exh_keyer.specs.Pseudokey.{any_pseudokey}
use Rattle.exh_format.specs.FileTests.{NextFails, PageFails}
use Rattle.exh_format.specs.Reading.{FailsInPages, IsOf}
use Rattle.exh_versions.specs.Reading.{ReadsPages}
use Rattle.exh_versions.proofs.Groups.{adds_more, adds_none, has_after, lows_after}
use Rattle.exh_versions.proofs.Pages.{err_is, failed_so, fails_next, more_pages, no_pages, of_later, one_page, still_open}
use Rattle.exh_versions.proofs.read_groups.read_pages.Goals as goal

pub loop-number-init : goal.loop-number-init
loop-number-init g c = record {
  unfailed = c.requires.open;
  place = omega arith;
  read = record {
    pages = [];
    all = refl;
    given = no_pages second_version (any_pseudokey c.args.settings.keyer) _;
    adds = adds_none g.W.PageList.pages g.W.ReadPages.takes c.args.settings c.args.pages.now;
  };
}

pub push-requires-clause-placed : goal.push-requires-clause-placed
push-requires-clause-placed g c =
    let read = c.loop-number.invariant.read in
    has_after g.W.PageList.pages g.W.ReadPages.takes c.args.settings c.args.pages.now c.loop-number.pages read.pages c.requires.placed read.adds

pub push-requires-clause-room : goal.push-requires-clause-room
push-requires-clause-room g c =
    let read = c.loop-number.invariant.read in
    omega (arith, lows_after g.W.PageList.pages g.W.ReadPages.takes c.args.settings c.args.pages.now c.loop-number.pages read.pages c.requires.placed read.adds, read.all, c.loop-number-test.true, c.requires.room)

pub loop-number-preserved : goal.loop-number-preserved
loop-number-preserved g c =
    let pseudo = any_pseudokey c.args.settings.keyer in
    let was = c.loop-number.invariant in
    let page = c.in_ok-page.page in
    record {
      unfailed = still_open page _ c.in_ok-page.ensures.failed.1;
      place = omega (arith, was.place, c.in_ok-page.ensures.place);
      read = record {
        pages = was.read.pages ++ page ∷ [];
        all = omega (arith, length-append was.read.pages (page ∷ []), was.read.all);
        given = more_pages second_version pseudo _ _ _ was.read.pages (page ∷ []) was.read.given (one_page second_version pseudo _ _ page c.read_page.new.block c.in_ok-page.ensures.read c.in_ok-page.ensures.image c.in_ok-page.ensures.block);
        adds = adds_more g.W.PageList.pages g.W.ReadPages.takes c.args.settings c.args.pages.now c.loop-number.pages c.push.new.self was.read.pages (page ∷ []) was.read.adds c.in_ok-push.ensures;
      };
    }

pub returns-in_err-page-clause-failed : goal.returns-in_err-page-clause-failed
returns-in_err-page-clause-failed g c = failed_so c.from_residual.result c.in_err-page.field-0.0 _ c.from_residual.ensures.1 c.in_err-page.ensures.failed

pub returns-in_err-page-clause-err : goal.returns-in_err-page-clause-err
returns-in_err-page-clause-err g c =
    let pseudo = any_pseudokey c.args.settings.keyer in
    let known = g.R.Read.remaining c.args.blocks.now.source.reader.now in
    let place = c.args.blocks.now.place in
    let was = c.loop-number.invariant in
    let pages = was.read.pages in
    let there : c.loop-number.blocks.place ≡ place + length pages = omega (arith, was.place, was.read.all) in
    err_is c.from_residual.result c.in_err-page.field-0.0 (IsOf (FailsInPages second_version pseudo place c.args.count) known) c.from_residual.ensures.1
    (of_later (NextFails (PageFails second_version pseudo (place + length pages))) (FailsInPages second_version pseudo place c.args.count) known _ c.in_err-page.field-0.0
    (λ fault. fails_next second_version pseudo known _ place c.args.count pages fault (omega (arith, was.read.all, c.loop-number-test.true)) was.read.given)
    (subst (λ (place : ℕ). IsOf (NextFails (PageFails second_version pseudo place)) (g.R.Read.remaining c.loop-number.blocks.source.reader.now) c.in_err-page.field-0.0) there c.in_err-page.ensures.err))

pub returns-clause-ok : goal.returns-clause-ok
returns-clause-ok g c =
    let end : c.loop-number.number ≡ c.args.count = omega arith in
    subst (λ (count : ℕ). ReadsPages g.W.PageList.pages g.W.ReadPages.takes c.args.settings (g.R.Read.remaining c.args.blocks.now.source.reader.now) (g.R.Read.remaining c.loop-number.blocks.source.reader.now) count c.args.pages.now c.loop-number.pages) end
    c.loop-number.invariant.read
