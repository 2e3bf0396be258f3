-- Notices that are true of pages stay true where every page keeps its number and low bound.
use Rattle.std.proofs.Common.{◌≡◌, Bool, List, [], ◌∷◌, ◌++◌, inl, inr, sym, ap, ◌∙◌, subst}
use Rattle.std.proofs.lemmas.List.Elements.{Contains-push_cases}
use Rattle.exh_table.specs.declared.Notice.{Notice}
use Rattle.exh_page.specs.declared.page.Page.{Page}
use Rattle.exh_page.specs.Page.{low_bound, with_records}
use Rattle.exh_legal.specs.BareLemmas.{bare_at, at_bare, bare_low}
use Rattle.exh_legal.specs.Fit.{IsTrueNotice, AreTrueNotices}
use Rattle.exh_legal.specs.LegalLaws.{KeepsPlaces}
use Rattle.exh_legal.specs.Pages.{IsAt, bare}

-- pages of which the records alone changed
pub places_by_bare : (pages new : List Page) → bare pages ≡ bare new → KeepsPlaces pages new
places_by_bare pages new same number page is =
    let there = subst (λ pages. IsAt pages number (with_records [] page)) same (bare_at pages number page is) in
    let full = at_bare new number (with_records [] page) there in
    (full.0, full.1, sym (bare_low full.0) ∙ sym (ap low_bound full.2) ∙ bare_low page)

pub still_true : (ward : List Bool) (pages new : List Page) → KeepsPlaces pages new → (notice : Notice) → IsTrueNotice ward pages notice → IsTrueNotice ward new notice
still_true ward pages new places notice is = record {
  within = is.within;
  right = λ right kind.
      let page = is.right right kind in
      let kept = places right page.0 page.1 in
      (kept.0, kept.1, kept.2 ∙ page.2);
}

-- with one notice more
pub one_true_more : (ward : List Bool) (pages : List Page) (notices : List Notice) (notice : Notice) → AreTrueNotices ward pages notices → IsTrueNotice ward pages notice → AreTrueNotices ward pages (notices ++ notice ∷ [])
one_true_more ward pages notices notice are is told there = elim (Contains-push_cases notices notice told there) [
  | inl was ↦ are told was
  | inr last ↦ subst (IsTrueNotice ward pages) last is
]
