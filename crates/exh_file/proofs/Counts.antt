-- How many pages the wards of a file have, as its header tells it.
use Rattle.std.proofs.Common.{◌≡◌, ℕ, ◌-◌, ◌<◌, ◌≤◌, List, length, map, take, get_or, replicate, slice_get, Some, ap, ◌∙◌, arith}
use Rattle.std.specs.Option.{option_map}
use Rattle.std.proofs.lemmas.List.{length-map, take_at}
use Rattle.std.proofs.lemmas.Option.{get_or_from_slice_get, slice_get-map}
use Rattle.exh_prefix.specs.PrefixListLemmas.{within_there}
use Rattle.exh_keyer.specs.declared.any_keyer.AnyKeyer.{AnyKeyer}
use Rattle.exh_page.specs.declared.page.Page.{Page}
use Rattle.exh_legal.specs.LegalLaws.{FittingTablesBeginWards, PagesAreFew}
use Rattle.exh_ward.specs.WardState.{WardState}
use Rattle.exh_file.specs.Opened.{AreWardsOf, OpenedState}
use Rattle.exh_file.specs.Saved.{AreSound, counts_in, pages_of_all}
use Rattle.exh_file.proofs.Legal.{page_count}

pub counts_len : (wards : List (WardState AnyKeyer)) → length (map length (pages_of_all wards)) ≡ length wards
counts_len wards = length-map (pages_of_all wards) (λ (pages : List Page). length pages) ∙ length-map wards (λ (w : WardState AnyKeyer). w.pages)

pub counts_front : (wards : List (WardState AnyKeyer)) (counts : List ℕ) → counts ≡ counts_in wards → take (length wards) counts ≡ map length (pages_of_all wards)
counts_front wards counts is =
    let lens = map length (pages_of_all wards) in
    ap (λ (l : List ℕ). take (length wards) l) is ∙ take_at lens (replicate (16 - length lens) 0) (length wards) (counts_len wards)

pub some_each : (opened : OpenedState) → AreWardsOf opened → AreSound opened.wards → FittingTablesBeginWards → PagesAreFew → (number : ℕ) → number < length opened.wards → 1 ≤ get_or (map length (pages_of_all opened.wards)) number 0
some_each opened are sound begin few number less =
    let ward = within_there opened.wards number less in
    let len_of : WardState AnyKeyer → List Page = λ w. w.pages in
    let pages : slice_get (pages_of_all opened.wards) number ≡ Some (ward.0.pages) = slice_get-map len_of opened.wards number ∙ ap (option_map len_of) ward.1 in
    let count : slice_get (map length (pages_of_all opened.wards)) number ≡ Some (length ward.0.pages) = slice_get-map (λ (l : List Page). length l) (pages_of_all opened.wards) number ∙ ap (option_map (λ (l : List Page). length l)) pages in
    let is = get_or_from_slice_get (map length (pages_of_all opened.wards)) number (length ward.0.pages) 0 count in
    let some = (page_count opened are sound begin few number ward.0 ward.1).0 in
    omega (arith, is, some)
