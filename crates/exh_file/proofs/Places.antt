-- The pages of wards in an order.
use Rattle.std.proofs.Common.{◌≡◌, ℕ, ◌<◌, ◌≤◌, List, [], length, slice_get, None, Some, sym, ap, ◌∙◌, inl, inr, arith}
use Rattle.std.specs.Option.{option_map}
use Rattle.std.proofs.lemmas.Bool.{cases_lt}
use Rattle.std.proofs.lemmas.List.{get_or_past, length-map}
use Rattle.std.proofs.lemmas.Option.{get_or_from_slice_get, slice_get-map, slice_get_within}
use Rattle.exh_prefix.specs.PrefixListLemmas.{within_there}
use Rattle.exh_keyer.specs.declared.any_keyer.AnyKeyer.{AnyKeyer}
use Rattle.exh_page.specs.declared.page.Page.{Page}
use Rattle.exh_placing.specs.declared.page_at.PageAt.{PageAt}
use Rattle.exh_placing.specs.WardFile.{ArePagesOf}
use Rattle.exh_ward.specs.WardState.{WardState}
use Rattle.exh_file.specs.Placing.{own_pages}
use Rattle.exh_file.specs.Saved.{pages_of_all}

-- the pages of a ward that is there
pub own_is : (wards : List (WardState AnyKeyer)) (number : ℕ) (ward : WardState AnyKeyer) → slice_get wards number ≡ Some ward → own_pages wards number ≡ ward.pages
own_is wards number ward is =
    let page_list : WardState AnyKeyer → List Page = λ ward. ward.pages in
    get_or_from_slice_get (pages_of_all wards) number ward.pages [] (slice_get-map page_list wards number ∙ ap (option_map page_list) is)

none_of_none : (wards : List (WardState AnyKeyer)) (number at : ℕ) (page : Page) → length wards ≤ number → slice_get (own_pages wards number) at ≡ Some page → ⊥
none_of_none wards number at page past is =
    let none : own_pages wards number ≡ [] = get_or_past (pages_of_all wards) number [] (omega (arith, past, length-map wards (λ (w : WardState AnyKeyer). w.pages))) in
    let gone : None ≡ Some page = ap (λ (pages : List Page). slice_get pages at) (sym none) ∙ is in
    cc

module _ (wards : List (WardState AnyKeyer)) (order : List PageAt) (pages : List Page) (are : ArePagesOf (pages_of_all wards) order pages) (place : ℕ) (at : PageAt) (is : slice_get order place ≡ Some at) where
  pub page_there : (page : Page) × (slice_get pages place ≡ Some page)
  page_there = within_there pages place (omega (arith, slice_get_within order place at is, are.count))

  pub own_page : slice_get (own_pages wards at.ward) at.number ≡ Some page_there.0
  own_page = sym (are.each place at is) ∙ page_there.1

  pub ward_within : at.ward < length wards
  ward_within = elim (cases_lt at.ward (length wards)) [
    | inl less ↦ less
    | inr past ↦ absurd (none_of_none wards at.ward at.number page_there.0 past own_page)
  ]

  pub page_within : at.number < length (own_pages wards at.ward)
  page_within = slice_get_within (own_pages wards at.ward) at.number page_there.0 own_page
