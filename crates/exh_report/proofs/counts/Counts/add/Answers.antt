use Rattle.std.proofs.Common.{◌≡◌, ℕ, ◌+◌, ◌^◌, ◌<◌, cond, not, Fits, w64, List, drop, get_or, length, ap, ◌∙◌, sym, arith}
use Rattle.std.specs.List.{sum_by}
use Rattle.std.proofs.lemmas.List.Sums.{sum_by-cons}
use Rattle.exh_page.specs.Page.{records_of}
use Rattle.exh_page.specs.declared.page.Page.{Page}
use Rattle.exh_report.specs.Counts.{is_live}
use Rattle.exh_report.proofs.Told.{drop_next}
use Rattle.exh_report.proofs.counts.Counts.add.Goals as goal

-- what is added for the next page fits, as what is added for all does
fits_more : (pages : List Page) (at : ℕ) (page : Page) (size : Page → ℕ) (start now amount : ℕ) → at < length pages → page ≡ get_or pages at page → now + sum_by size (drop at pages) ≡ start + sum_by size pages
    → start + sum_by size pages < 2 ^ 64 → amount ≡ size page → Fits w64 (now + amount)
fits_more pages at page size start now amount within is was few same =
    let next = ap (sum_by size) (drop_next pages at page within is) ∙ sum_by-cons size page (drop (at + 1) pages) in
    omega (arith, was, few, same, next)

pub overflow_add-self-in-Live : goal.overflow_add-self-in-Live
overflow_add-self-in-Live c =
    fits_more c.args.pages.now c.loop-page.page-index c.page-item.result (λ page. cond (is_live page) 1 0) c.args.self.now.live c.loop-page.self.live 1 c.loop-page-test.true c.page-item.is c.loop-page.invariant.live c.requires.live
    (sym (ap (λ page. cond (is_live page) 1 0) c.in-Live.is))

pub overflow_add-self-in-Live-2 : goal.overflow_add-self-in-Live-2
overflow_add-self-in-Live-2 c =
    fits_more c.args.pages.now c.loop-page.page-index c.page-item.result (λ page. length (records_of page)) c.args.self.now.records c.loop-page.self.records c.len.result c.loop-page-test.true c.page-item.is c.loop-page.invariant.records
    c.requires.records (c.len.ensures ∙ sym (ap (λ page. length (records_of page)) c.in-Live.is))

pub overflow_add-self-in-Forward : goal.overflow_add-self-in-Forward
overflow_add-self-in-Forward c =
    fits_more c.args.pages.now c.loop-page.page-index c.page-item.result (λ page. cond (not (is_live page)) 1 0) c.args.self.now.forward c.loop-page.self.forward 1 c.loop-page-test.true c.page-item.is c.loop-page.invariant.forward
    c.requires.forward (sym (ap (λ page. cond (not (is_live page)) 1 0) c.in-Forward.is))
