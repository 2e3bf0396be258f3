-- Pages without their records.
use Rattle.std.proofs.Common.{◌≡◌, ℕ, List, [], slice_get, Option, None, Some, refl, sym, ap, ◌∙◌}
use Rattle.std.proofs.Common.{◌≡◌, ℕ, Bool, List, [], slice_get, Option, None, Some, refl, sym, ap, ◌∙◌}
use Rattle.std.specs.Option.{option_map}
use Rattle.std.proofs.lemmas.Option.{slice_get-map}
use Rattle.exh_page.specs.declared.page.Page.{Page}
use Rattle.exh_page.specs.declared.page.Page.TheVariants.{Live, Forward}
use Rattle.exh_page.specs.Page.{low_bound, with_records}
use Rattle.exh_page.specs.declared.record.Record.{Record}
use Rattle.exh_legal.specs.Pages.{IsAt, bare}
use Rattle.exh_legal.specs.Growth.{IsLiveAt}

pub bare_at : (pages : List Page) (number : ℕ) (page : Page) → IsAt pages number page → IsAt (bare pages) number (with_records [] page)
bare_at pages number page is = slice_get-map (with_records []) pages number ∙ ap (option_map (with_records [])) is

found_from : (found : Option Page) (page : Page) → option_map (with_records []) found ≡ Some page → (full : Page) × (found ≡ Some full) × (page ≡ with_records [] full)
found_from None page is = cc
found_from (Some full) page is = (full, refl, cc)

-- the page that it was with its records
pub at_bare : (pages : List Page) (number : ℕ) (page : Page) → IsAt (bare pages) number page → (full : Page) × IsAt pages number full × (page ≡ with_records [] full)
at_bare pages number page is = found_from (slice_get pages number) page (sym (slice_get-map (with_records []) pages number) ∙ is)

pub bare_low : (page : Page) → low_bound (with_records [] page) ≡ low_bound page
bare_low (Live prefix right records) = refl
bare_low (Forward low target) = refl

pub bare_same : (one other : List Page) (number : ℕ) → slice_get one number ≡ slice_get other number → slice_get (bare one) number ≡ slice_get (bare other) number
bare_same one other number same = slice_get-map (with_records []) one number ∙ ap (option_map (with_records [])) same ∙ sym (slice_get-map (with_records []) other number)

live_from : (pages : List Page) (prefix : List Bool) (number : ℕ) (link : Option ℕ) (records : List Record) (page : Page) → IsAt pages number page → Live prefix link records ≡ with_records [] page → IsLiveAt pages prefix number
live_from pages prefix number link records (Live own right held) is same =
    let prefix_is : own ≡ prefix = cc in
    (right, held, is ∙ ap (λ p. Some (Live p right held)) prefix_is)
live_from pages prefix number link records (Forward low target) is same = cc

-- a live page without its records is one with them
pub live_full : (pages : List Page) (prefix : List Bool) (number : ℕ) → IsLiveAt (bare pages) prefix number → IsLiveAt pages prefix number
live_full pages prefix number is = let full = at_bare pages number (Live prefix is.0 is.1) is.2 in live_from pages prefix number is.0 is.1 full.0 full.1 full.2
